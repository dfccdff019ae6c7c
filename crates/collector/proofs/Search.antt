-- Laws of the search for a byte: the place at which it stands first, and whether it is there.
-- Assumes nothing.
use Rattle.std.proofs.Common.{◌≡◌, ℕ, zero, suc, ◌<◌, Bool, true, false, List, [], ◌∷◌, Option, None, Some, MatchOption, length, get_or, arith, refl, sym, ap, nat_eq}
use Rattle.std.specs.List.{list_any}
use Prim.Native.Nat.compare
use borrow.Author.Tests.{lt-ltb, le-ltb, eq-eqb, ne_eqb, eqb-true}
use Rattle.memchr.specs.Find.{IsFirstByte, is_byte}
use Rattle.collector.specs.Search.{index_after, index_of}
use Rattle.frame.specs.Line.{newline}
use Rattle.collector.specs.Collector.{before, has_newline}

-- the place of a byte before which none like it stands
index_here : (b : ℕ) (s : List ℕ) (n : ℕ) → n < length s → ((k : ℕ) → k < n → get_or s k 0 ≡ b → ⊥) → get_or s n 0 ≡ b → index_of b s ≡ n
unfolding index_of index_after
index_here b [] n h below here = absurd (omega (arith, h))
index_here b (x ∷ s) zero h below here = rw (eq-eqb x b here) refl
index_here b (x ∷ s) (suc n) h below here =
    rw (ne_eqb x b (below 0 (omega arith))) (ap suc (index_here b s n (omega (arith, h)) (λ k l. below (suc k) (omega (arith, l))) here))

-- and none at all
index_nowhere : (b : ℕ) (s : List ℕ) → ((k : ℕ) → k < length s → get_or s k 0 ≡ b → ⊥) → index_of b s ≡ length s
unfolding index_of index_after
index_nowhere b [] none = refl
index_nowhere b (x ∷ s) none = rw (ne_eqb x b (none 0 (omega arith))) (ap suc (index_nowhere b s (λ k l. none (suc k) (omega (arith, l)))))

-- so the library's search finds the first 0A
pub newline_found : (s : List ℕ) (r : Option ℕ) → IsFirstByte (is_byte newline) s r
    → MatchOption r (has_newline s ≡ false) (λ n. (n ≡ before s) × (n < length s))
newline_found s None h =
    le-ltb (before s) (length s) (omega (arith, index_nowhere newline s (λ k l e. h k (omega arith) l (eq-eqb (get_or s k 0) newline e))))
newline_found s (Some n) h = (
  sym (index_here newline s n h.0.high (λ k l e. h.0.before k (omega arith) l (eq-eqb (get_or s k 0) newline e)) (eqb-true (get_or s n 0) newline h.1)),
  h.0.high,
)

-- and so does its test whether one is there
pub newline_there : (s : List ℕ) → list_any (λ y. nat_eq y newline) s ≡ has_newline s
unfolding index_of index_after
newline_there [] = refl
newline_there (x ∷ s) = by-test (nat_eq x newline) refl (newline_there s)
  where
    by-test : (t : Bool) → nat_eq x newline ≡ t → list_any (λ y. nat_eq y newline) s ≡ has_newline s
        → list_any (λ y. nat_eq y newline) (x ∷ s) ≡ has_newline (x ∷ s)
    by-test true e rest = rw e (sym (lt-ltb 0 (length (x ∷ s)) (omega arith)))
    by-test false e rest = rw (e, compare.suc-suc) rest
