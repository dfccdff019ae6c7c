-- What is said of a frame's raw bytes: more, a body, or a refusal from 5 on.
-- Assumes nothing.
use mathlib.Core.Path.{◌≡◌, refl}
use Prim.Native.Nat.{ℕ, ◌+◌, ◌-◌}
use mathlib.Core.Bool.{Bool, true, false}
use mathlib.Core.List.{List}
use mathlib.Core.Logic.{◌⊎◌, inl, inr}
use lib.ListN.{drop}
use Rattle.laws.specs.Bytes.{of_be16}
use Rattle.laws.proofs.Choice.{pick_case}
use Rattle.reader.specs.declared.Reader.{Reader}
use Rattle.reader.specs.declared.Reader.TheVariants.{Idle, Open}
use Rattle.reader.specs.Reader.{Said, more, body, refused, Outcome, completed, absorb, begin, resume, framed}

-- an answer is one of these
abbrev pub Plain : Said → Type 0
Plain a = (a ≡ more) ⊎ (((n : ℕ) × (a ≡ body n)) ⊎ ((n : ℕ) × (a ≡ refused (n + 5))))

-- so is that of an outcome
abbrev PlainIn : Outcome → Type 0
PlainIn o = Plain o.says

-- a refusal from 5 on is one
plain_refused : (n : ℕ) → Plain (refused (n + 5))
plain_refused n = inr (inr (n, refl))

-- body and CRC bytes that come
plain_absorb : (total come first : ℕ) (x p : List ℕ) → PlainIn (absorb total come first x p)
unfolding absorb completed
plain_absorb total come first x p =
    pick_case PlainIn _ _ _ (λ e. plain_refused 2)
    (λ e. pick_case PlainIn _ _ _ (λ e. plain_refused 3)
    (λ e. pick_case PlainIn _ _ _ (λ e. inl refl)
    (λ e. pick_case PlainIn _ _ _ (λ e. inr (inl (total - 2, refl))) (λ e. plain_refused 4))))

-- a frame's raw bytes
pub plain_framed : (first : Bool) (r : Reader) (raw p : List ℕ) → PlainIn (framed first r raw p)
unfolding begin resume
plain_framed true r raw p =
    pick_case PlainIn _ _ _ (λ e. plain_refused 1)
    (λ e. pick_case PlainIn _ _ _ (λ e. plain_refused 1) (λ e. plain_absorb (of_be16 raw) 0 0 (drop 2 raw) p))
plain_framed false Idle raw p = plain_refused 0
plain_framed false (Open total come first) raw p =
    pick_case PlainIn _ _ _ (λ e. plain_absorb total come first raw p) (λ e. plain_refused 0)
