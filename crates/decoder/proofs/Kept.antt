-- What a decoder that goes once over a text keeps of it: a full group's bytes before those of the rest, and all bytes of a text that decodes.
-- Assumes nothing.
use mathlib.Core.Path.{◌≡◌, refl, ap, ◌∙◌}
use Prim.Native.Nat.{ℕ, ◌%◌, ◌<◌}
use native.Mathlib.Omega.{arith}
use mathlib.Core.List.{List, [], ◌∷◌, ◌++◌}
use mathlib.Core.Option.{some}
use lib.ListN.{length}
use borrow.Author.Tests.{eq-eqb}
use Rattle.laws.specs.Choice.{pick}
use Rattle.laws.proofs.Choice.{pick_yes}
use Rattle.strict_base64.specs.Base64.{full, three, decode}
use Rattle.strict_base64.proofs.Laws.{decode_elim, decode_groups}
use Rattle.decoder.specs.Inner.{bytes_in, kept, stored}

-- a group before more text keeps its bytes before those of the rest
pub kept_more : (a b c d : ℕ) (t : List ℕ) → 0 < length t → kept (a ∷ b ∷ c ∷ d ∷ t) ≡ pick (full a b c d) (three a b c d ++ kept t) []
unfolding kept
kept_more a b c d [] h = absurd (omega arith)
kept_more a b c d (e ∷ t) h = refl

-- of a text that decodes, all groups keep their bytes
kept_good : (t x : List ℕ) → decode t ≡ some x → kept t ≡ x
unfolding kept bytes_in
kept_good =
    decode_elim (λ (t x : List ℕ). kept t ≡ x) (λ a b c d x e. ap bytes_in e)
    (λ a b c d t x some-text f e h. kept_more a b c d t some-text ∙ rw (f, pick_yes) (ap (λ (l : List ℕ). three a b c d ++ l) h))

-- of a text that decodes, a decoder that goes once over it has stored all bytes
pub stored_good : (t x : List ℕ) → decode t ≡ some x → stored t ≡ x
unfolding stored
stored_good t x e = rw (eq-eqb (length t % 4) 0 (decode_groups t x e), pick_yes) (kept_good t x e)
