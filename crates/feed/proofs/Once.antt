-- No two answers to a line have one meaning, since no refusal has the number 0.
-- Assumes nothing.
use mathlib.Core.Path.{refl, sym, ap, ap₂}
use Prim.Native.Nat.{ℕ}
use native.Mathlib.Omega.{arith}
use Rattle.std.specs.Prelude.{Some, None, Ok, Err}
use Rattle.feed.specs.Feed.{Answer, AnswerDetermined}

-- two answers of one meaning are one
pub answer_once : AnswerDetermined
answer_once (Ok None) (Ok None) h k e = refl
answer_once (Ok None) (Ok (Some n)) h k e = absurd (omega (arith, ap (λ (a : Answer). a.replied) e))
answer_once (Ok None) (Err s) h k e = absurd (k (sym (ap (λ (a : Answer). a.refusal) e)))
answer_once (Ok (Some m)) (Ok None) h k e = absurd (omega (arith, ap (λ (a : Answer). a.replied) e))
answer_once (Ok (Some m)) (Ok (Some n)) h k e = ap (λ (rc : ℕ). Ok (Some rc)) (ap (λ (a : Answer). a.rc) e)
answer_once (Ok (Some m)) (Err s) h k e = absurd (k (sym (ap (λ (a : Answer). a.refusal) e)))
answer_once (Err r) (Ok None) h k e = absurd (h (ap (λ (a : Answer). a.refusal) e))
answer_once (Err r) (Ok (Some n)) h k e = absurd (h (ap (λ (a : Answer). a.refusal) e))
answer_once (Err r) (Err s) h k e =
    ap₂ (λ (n i : ℕ). Err (record { refusal = n; place = i })) (ap (λ (a : Answer). a.refusal) e) (ap (λ (a : Answer). a.place) e)
