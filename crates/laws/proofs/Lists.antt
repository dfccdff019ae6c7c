-- Laws of lists of bytes: a list written into another at a place, and that the parts of bytes are bytes.
-- Assumes nothing.
use mathlib.Core.Path.{◌≡◌, refl, sym, ap, ap₂, ◌∙◌}
use Prim.Native.Nat.{ℕ, zero, suc, ◌+◌, ◌-◌, ◌*◌, ◌≤◌, ◌<◌}
use native.Mathlib.Nat.{zero-add, add-zero}
use native.Mathlib.Omega.{arith}
use mathlib.Core.List.{List, [], ◌∷◌, ◌++◌, append_assoc, append-nil}
use native.Mathlib.Numerals.{add-one, add-two, add-three}
use lib.ListN.{length, get_or, take, drop, set, length-set, length-append, length-take, length-drop, take-append-drop, drop_of_length-le}
use lib.Seq.{get_or-drop, take-length, take-append-add, drop-append-add, drop-drop, take_all, take_at, set_split, sets-eq}
use mathlib.Core.Bool.{Bool, true, false, false≢true}
use lib.Dec.{eqb, lit<}
use borrow.Author.Tests.{eqb-true, eq-eqb}
use Rattle.laws.specs.Bytes.{Bytes, pasted, same, be16, of_be16}
use Rattle.laws.proofs.Choice.{both_yes, both_true}

-- nothing written: nothing moves
pub pasted_none : (m : List ℕ) (at : ℕ) → pasted m at [] ≡ m
unfolding pasted
pasted_none m at = rw add-zero (take-append-drop at m)

-- the definition, for whoever cannot open it
pub pasted_is : (m : List ℕ) (at : ℕ) (x : List ℕ) → pasted m at x ≡ take at m ++ (x ++ drop (at + length x) m)
unfolding pasted
pasted_is m at x = refl

-- what is written at the start
pub pasted_start : (m x : List ℕ) → pasted m 0 x ≡ x ++ drop (length x) m
unfolding pasted
pasted_start m x = rw zero-add

-- a list that is written within another keeps its length
pub pasted_length : (m : List ℕ) (at : ℕ) (x : List ℕ) → at + length x ≤ length m → length (pasted m at x) ≡ length m
unfolding pasted
pasted_length m at x h = simp (length-append, length-take, length-drop) (omega arith)

-- the part of a list from a place to the end, and what stands after it
pub rest_all : (m : List ℕ) (at : ℕ) → take (length m - at) (drop at m) ≡ drop at m
rest_all m at = take_all (length m - at) (drop at m) (simp length-drop (omega arith))

pub rest_none : (m : List ℕ) (at : ℕ) → drop (length m - at) (drop at m) ≡ []
rest_none m at = drop_of_length-le (drop at m) {i = length m - at} (simp length-drop (omega arith))

-- what is written to the start of the part from `at` on, seen in the whole
pub part_pasted : (m : List ℕ) (at : ℕ) (x ys : List ℕ)
    → ys ≡ pasted (take (length m - at) (drop at m)) 0 x
    → take at m ++ (ys ++ drop (length m - at) (drop at m)) ≡ pasted m at x
part_pasted m at x ys e =
    rw (
      e,
      pasted_start (take (length m - at) (drop at m)) x,
      rest_none m at,
      rest_all m at,
      append-nil,
      drop-drop (length x) at m,
      pasted_is m at x,
    )

-- so is a copy to its start
pub copied_part : (m : List ℕ) (at : ℕ) (x ys : List ℕ)
    → ys ≡ take (length x) x ++ drop (length x) (take (length m - at) (drop at m))
    → take at m ++ (ys ++ drop (length m - at) (drop at m)) ≡ pasted m at x
copied_part m at x ys e =
    let d = take (length m - at) (drop at m) in
    part_pasted m at x ys (e ∙ ap (λ (l : List ℕ). l ++ drop (length x) d) (take-length x) ∙ sym (pasted_start d x))

-- so is a part of just that many bytes, written over
pub filled_part : (m : List ℕ) (at : ℕ) (x ys : List ℕ) → ys ≡ x → take at m ++ (ys ++ drop (at + length x - at) (drop at m)) ≡ pasted m at x
filled_part m at x ys e =
    let k : at + length x - at ≡ length x = omega arith in
    rw (k, e, drop-drop (length x) at m) (sym (pasted_is m at x))

-- a list in front of another, cut where it ends or later
pub take_past : (p q : List ℕ) (n : ℕ) → length p ≤ n → take n (p ++ q) ≡ p ++ take (n - length p) q
take_past p q n h =
    let e : length p + (n - length p) ≡ n = omega arith in
    rw e at (take-append-add p q (n - length p))

pub drop_past : (p q : List ℕ) (n : ℕ) → length p ≤ n → drop n (p ++ q) ≡ drop (n - length p) q
drop_past p q n h =
    let e : length p + (n - length p) ≡ n = omega arith in
    rw e at (drop-append-add p q (n - length p))

-- the three parts of a list that another was written into
pub pasted_take : (m : List ℕ) (at : ℕ) (x : List ℕ) → at + length x ≤ length m → take (at + length x) (pasted m at x) ≡ take at m ++ x
unfolding pasted
pasted_take m at x h =
    ap (λ (l : List ℕ). take (at + length x) l) (sym (append_assoc (take at m) x (drop (at + length x) m)))
    ∙ take_at (take at m ++ x) (drop (at + length x) m) (at + length x) (simp (length-append, length-take) (omega arith))

pub pasted_drop : (m : List ℕ) (at : ℕ) (x : List ℕ) (n : ℕ) → at + length x ≤ length m → drop (at + length x + n) (pasted m at x) ≡ drop (at + length x + n) m
unfolding pasted
pasted_drop m at x n h =
    let front : length (take at m ++ x) ≡ at + length x = simp (length-append, length-take) (omega arith) in
    ap (λ (l : List ℕ). drop (at + length x + n) l) (sym (append_assoc (take at m) x (drop (at + length x) m)))
    ∙ ap (λ (k : ℕ). drop (k + n) ((take at m ++ x) ++ drop (at + length x) m)) (sym front)
    ∙ drop-append-add (take at m ++ x) (drop (at + length x) m) n
    ∙ drop-drop n (at + length x) m

-- one list after another is written as the two joined
pub pasted_twice : (m : List ℕ) (at : ℕ) (x y : List ℕ) → at + length x ≤ length m → pasted (pasted m at x) (at + length x) y ≡ pasted m at (x ++ y)
pasted_twice m at x y h =
    pasted_is (pasted m at x) (at + length x) y
    ∙ ap₂ (λ (p q : List ℕ). p ++ (y ++ q)) (pasted_take m at x h) (pasted_drop m at x (length y) h)
    ∙ append_assoc (take at m) x (y ++ drop (at + length x + length y) m)
    ∙ ap (λ (l : List ℕ). take at m ++ l) (sym (append_assoc x y (drop (at + length x + length y) m)))
    ∙ ap (λ (k : ℕ). take at m ++ ((x ++ y) ++ drop k m)) (sum at x y)
    ∙ sym (pasted_is m at (x ++ y))
  where
    sum : (at : ℕ) (x y : List ℕ) → at + length x + length y ≡ at + length (x ++ y)
    sum at x y = rw length-append (omega arith)

-- one byte stored is one byte written
pub set_pasted : (m : List ℕ) (at v : ℕ) → at < length m → set m at v ≡ pasted m at (v ∷ [])
unfolding pasted
set_pasted m at v h = set_split m at v h ∙ ap (λ (n : ℕ). take at m ++ (v ∷ drop n m)) (sym (add-one at))

-- two bytes stored one after the other are two bytes written
pub set_twice_pasted : (m : List ℕ) (at v w : ℕ) → at + 1 < length m → set (set m at v) (at + 1) w ≡ pasted m at (v ∷ w ∷ [])
set_twice_pasted m at v w h =
    set_pasted (set m at v) (at + 1) w (simp length-set h)
    ∙ ap (λ (l : List ℕ). pasted l (at + 1) (w ∷ [])) (set_pasted m at v (omega arith))
    ∙ pasted_twice m at (v ∷ []) (w ∷ []) (omega arith)

-- and four are four
pub set_four_pasted : (m : List ℕ) (at u v w x : ℕ) → at + 4 ≤ length m
    → set (set (set (set m at u) (at + 1) v) (at + 2) w) (at + 3) x ≡ pasted m at (u ∷ v ∷ w ∷ x ∷ [])
unfolding pasted
set_four_pasted m at u v w x h =
    rw (add-one, add-two, add-three) (sets-eq (u ∷ v ∷ w ∷ x ∷ []) m at h ∙ append_assoc (take at m) (u ∷ v ∷ w ∷ x ∷ []) (drop (at + 4) m))

-- bytes: of the empty list, of one more, of a part, of two joined
pub bytes_none : Bytes []
bytes_none i = lit< tt

pub bytes_cons : (a : ℕ) (s : List ℕ) → a < 256 → Bytes s → Bytes (a ∷ s)
bytes_cons a s h b zero = h
bytes_cons a s h b (suc i) = b i

pub bytes_head : (a : ℕ) (s : List ℕ) → Bytes (a ∷ s) → a < 256
bytes_head a s b = b 0

pub bytes_tail : (a : ℕ) (s : List ℕ) → Bytes (a ∷ s) → Bytes s
bytes_tail a s b i = b (suc i)

pub bytes_join : (s t : List ℕ) → Bytes s → Bytes t → Bytes (s ++ t)
bytes_join [] t p q = q
bytes_join (a ∷ s) t p q = bytes_cons a (s ++ t) (p 0) (bytes_join s t (bytes_tail a s p) q)

pub bytes_left : (s t : List ℕ) → Bytes (s ++ t) → Bytes s
bytes_left [] t p = bytes_none
bytes_left (a ∷ s) t p = bytes_cons a s (p 0) (bytes_left s t (bytes_tail a (s ++ t) p))

pub bytes_take : (n : ℕ) (s : List ℕ) → Bytes s → Bytes (take n s)
bytes_take zero s p = bytes_none
bytes_take (suc n) [] p = bytes_none
bytes_take (suc n) (a ∷ s) p = bytes_cons a (take n s) (p 0) (bytes_take n s (bytes_tail a s p))

pub bytes_drop : (n : ℕ) (s : List ℕ) → Bytes s → Bytes (drop n s)
bytes_drop zero s p = p
bytes_drop (suc n) [] p = p
bytes_drop (suc n) (a ∷ s) p = bytes_drop n s (bytes_tail a s p)

-- the two bytes at a place, as a number
pub two_bytes : (s : List ℕ) (at : ℕ) → get_or s at 0 * 256 + get_or s (at + 1) 0 ≡ of_be16 (drop at s)
unfolding of_be16
two_bytes s at = rw (get_or-drop at s 0 0, get_or-drop at s 1 0, add-zero at)

-- a number of two bytes: its bytes are bytes, it is read back, and what is read is below 65,536
pub be16_bytes : (n : ℕ) → Bytes (be16 n)
unfolding be16
be16_bytes n zero = omega arith
be16_bytes n (suc zero) = omega arith
be16_bytes n (suc (suc i)) = lit< tt

pub be16_back : (n : ℕ) (s : List ℕ) → n < 65536 → of_be16 (be16 n ++ s) ≡ n
unfolding be16 of_be16
be16_back n s h = omega arith

-- lists that are the same are equal, and a list is the same as itself
pub same_true : (s t : List ℕ) → same s t ≡ true → s ≡ t
unfolding same
same_true [] [] e = refl
same_true [] (b ∷ t) e = absurd (false≢true e)
same_true (a ∷ s) [] e = absurd (false≢true e)
same_true (a ∷ s) (b ∷ t) e =
    let h = both_true (eqb a b) (same s t) e in
    ap₂ (λ (x : ℕ) (l : List ℕ). x ∷ l) (eqb-true a b h.0) (same_true s t h.1)

pub same_refl : (s : List ℕ) → same s s ≡ true
unfolding same
same_refl [] = refl
same_refl (a ∷ s) = rw (eq-eqb a a refl, both_yes) (same_refl s)

-- lists that differ are not the same
pub same_false : (s t : List ℕ) → (s ≡ t → ⊥) → same s t ≡ false
same_false s t differ = decided (same s t) refl
  where
    decided : (b : Bool) → same s t ≡ b → same s t ≡ false
    decided true e = absurd (differ (same_true s t e))
    decided false e = e

-- a test that holds just where two lists are equal is that test
pub same_is : (s t : List ℕ) (b : Bool) → (b ≡ true → s ≡ t) → (s ≡ t → b ≡ true) → b ≡ same s t
same_is s t true f g = sym (ap (λ (l : List ℕ). same s l) (sym (f refl)) ∙ same_refl s)
same_is s t false f g = sym (same_false s t (λ e. false≢true (g e)))
