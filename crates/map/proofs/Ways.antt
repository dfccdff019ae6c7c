-- Pairs in a row, of which i are read: none is left; the next is malformed; or they go on after it.
-- Assumes nothing.
use Rattle.std.proofs.Common.{◌≡◌, ℕ, suc, ◌+◌, ◌-◌, ◌<◌, ◌≤◌, List, ap, ◌∙◌, arith}
use Rattle.std.specs.Prelude.{Some, None}
use Rattle.fields.specs.declared.Kind.{Kind}
use Rattle.fields.specs.declared.Fields.{Fields}
use Rattle.map.specs.Walk.{Found, pair_at, and_then, pairs}

module _ (kind : Kind) (s : List ℕ) (n i at : ℕ) (f : Fields) where
  -- none is left
  pub pairs_end : n ≤ i → pairs kind s (n - i) at f ≡ Some (at, f)
  unfolding pairs
  pairs_end h =
      let none_left : n - i ≡ 0 = omega arith in
      rw none_left

  -- the pairs that are left, by the next of them
  next_pair : i < n → pairs kind s (n - i) at f ≡ and_then (pair_at kind s at f) (λ at' f'. pairs kind s (n - (i + 1)) at' f')
  unfolding pairs
  next_pair h =
      let one : n - i ≡ suc (n - (i + 1)) = omega arith in
      rw one

  -- the next is malformed
  pub pairs_bad : i < n → pair_at kind s at f ≡ None → pairs kind s (n - i) at f ≡ None
  unfolding and_then
  pairs_bad h e = next_pair h ∙ ap (λ (w : Found). and_then w (λ at' f'. pairs kind s (n - (i + 1)) at' f')) e

  -- they go on after it
  pub pairs_on : (next : ℕ) (g : Fields) → i < n → pair_at kind s at f ≡ Some (next, g) → pairs kind s (n - i) at f ≡ pairs kind s (n - (i + 1)) next g
  unfolding and_then
  pairs_on next g h e = next_pair h ∙ ap (λ (w : Found). and_then w (λ at' f'. pairs kind s (n - (i + 1)) at' f')) e
