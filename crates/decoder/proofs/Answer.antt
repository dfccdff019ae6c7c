-- What a caller learns of the decoder's answer: nothing decodes, or the bytes stand at the buffer's start.
-- Assumes nothing.
use mathlib.Core.Path.{◌≡◌, refl, sym, ap, ◌∙◌}
use Prim.Native.Nat.{ℕ, ◌*◌, ◌/◌, ◌≤◌}
use mathlib.Core.List.{List, ◌++◌}
use mathlib.Core.Option.{Option, none, some}
use lib.ListN.{length, take, drop}
use lib.Seq.{take_at}
use Rattle.laws.specs.Bytes.{pasted}
use Rattle.laws.proofs.Lists.{pasted_start}
use Rattle.std.specs.Prelude.{None, Some}
use Rattle.std.specs.Prelude as answer
use Rattle.strict_base64.specs.Base64.{decode}
use Rattle.decoder.specs.Inner.{Decodes, length_in}
use Rattle.strict_base64.proofs.Laws.{decode_length}
use Rattle.decoder.proofs.Kept.{stored_good}

-- an answer that is bad is that of nothing
bad_none : (o : Option (List ℕ)) → None ≡ length_in o → o ≡ none
unfolding length_in
bad_none none e = refl
bad_none (some x) e = absurd cc

-- an answer of n bytes is that of a list of n
good_some : (o : Option (List ℕ)) (n : ℕ) → Some n ≡ length_in o → (x : List ℕ) × (o ≡ some x) × (n ≡ length x)
unfolding length_in
good_some none n e = absurd cc
good_some (some x) n e = (x, refl, cc)

-- a bad answer: the text decodes to nothing
pub decodes_bad : (t d e : List ℕ) (r : answer.Option ℕ) → Decodes t d r e → r ≡ None → decode t ≡ none
decodes_bad t d e r p q = bad_none (decode t) (sym q ∙ p.verdict)

-- an answer of n bytes: they stand at the buffer's start, three at most for each four characters
pub decodes_good : (t d e : List ℕ) (r : answer.Option ℕ) (n : ℕ) → Decodes t d r e → r ≡ Some n → (decode t ≡ some (take n e)) × (n ≤ length t / 4 * 3)
decodes_good t d e r n p q = whole (good_some (decode t) n (sym q ∙ p.verdict))
  where
    whole : (x : List ℕ) × (decode t ≡ some x) × (n ≡ length x) → (decode t ≡ some (take n e)) × (n ≤ length t / 4 * 3)
    whole w =
        let there : e ≡ w.0 ++ drop (length w.0) d = p.bytes ∙ ap (λ (l : List ℕ). pasted d 0 l) (stored_good t w.0 w.1) ∙ pasted_start d w.0 in
        let part : take n e ≡ w.0 = ap (λ (l : List ℕ). take n l) there ∙ take_at w.0 (drop (length w.0) d) n (sym w.2) in
        (w.1 ∙ ap some (sym part), rw w.2 (decode_length t w.0 w.1))
