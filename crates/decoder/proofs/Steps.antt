-- What the proofs of the code stand on: the test of a group by a bitwise or, its bytes by one word, and stores as a pasted list.
-- Assumes nothing.
use mathlib.Core.Path.{◌≡◌, refl, sym, ◌∙◌}
use Prim.Native.Nat.{ℕ, ◌+◌, ◌*◌, ◌/◌, ◌%◌, ◌≤◌, ◌<◌}
use native.Mathlib.Numerals.{add-one, add-two}
use native.Mathlib.Omega.{arith}
use mathlib.Core.Bool.{Bool, true, false}
use mathlib.Core.List.{List, [], ◌∷◌, append_assoc}
use mathlib.Core.Option.{Option, none, some}
use lib.ListN.{length, get_or, take, drop, set}
use lib.Seq.{sets-eq}
use lib.Bits.{bit_or, bit_and, or_lt, or_add_and, and_le_l, and_le_r}
use borrow.Author.Tests.{lt-ltb, le-ltb, eq-eqb, ne_eqb}
use Rattle.laws.specs.Bytes.{pasted}
use Rattle.laws.proofs.Choice.{pick_yes, pick_no, both_yes, both_no, both_last_no}
use Rattle.laws.proofs.Lists.{pasted_none}
use Rattle.strict_base64.specs.Base64.{value, pad, first, second, third, full, three, final}
use Rattle.std.specs.Prelude.{None, Some}
use Rattle.decoder.specs.Inner.{length_in, bytes_in, Group, Last, full_at, three_at, final_at}
use Rattle.strict_base64.proofs.Laws.{known_all}

-- a bitwise or is at least its first number
or_left : (a b : ℕ) → a ≤ bit_or a b
or_left a b = let e : bit_or a b + bit_and a b ≡ a + b = or_add_and a b in let l : bit_and a b ≤ b = and_le_r a b in omega arith

-- a bitwise or is at least its second number
or_right : (a b : ℕ) → b ≤ bit_or a b
or_right a b = let e : bit_or a b + bit_and a b ≡ a + b = or_add_and a b in let l : bit_and a b ≤ a = and_le_l a b in omega arith

-- four numbers whose bitwise or is below 64 are below 64
pub or_all : (a b c d : ℕ) → bit_or (bit_or (bit_or a b) c) d < 64 → (a < 64) × (b < 64) × (c < 64) × (d < 64)
or_all a b c d h =
    let p : bit_or (bit_or a b) c ≤ bit_or (bit_or (bit_or a b) c) d = or_left (bit_or (bit_or a b) c) d in
    let q : d ≤ bit_or (bit_or (bit_or a b) c) d = or_right (bit_or (bit_or a b) c) d in
    let r : bit_or a b ≤ bit_or (bit_or a b) c = or_left (bit_or a b) c in
    let s : c ≤ bit_or (bit_or a b) c = or_right (bit_or a b) c in
    let t : a ≤ bit_or a b = or_left a b in
    let u : b ≤ bit_or a b = or_right a b in
    (omega arith, omega arith, omega arith, omega arith)

-- and the other way round
or_small : (a b c d : ℕ) → a < 64 → b < 64 → c < 64 → d < 64 → bit_or (bit_or (bit_or a b) c) d < 64
or_small a b c d ha hb hc hd = or_lt 6 (bit_or (bit_or a b) c) d (or_lt 6 (bit_or a b) c (or_lt 6 a b ha hb) hc) hd

-- a group whose numbers' bitwise or is below 64 is full
full_yes : (a b c d : ℕ) → bit_or (bit_or (bit_or (value a) (value b)) (value c)) (value d) < 64 → full a b c d ≡ true
unfolding full
full_yes a b c d h =
    let k = or_all (value a) (value b) (value c) (value d) h in
    rw (lt-ltb (value a) 64 k.0, lt-ltb (value b) 64 k.1, lt-ltb (value c) 64 k.2, lt-ltb (value d) 64 k.3) (simp both_yes)

-- and one whose numbers' bitwise or is not is not
full_no : (a b c d : ℕ) → 64 ≤ bit_or (bit_or (bit_or (value a) (value b)) (value c)) (value d) → full a b c d ≡ false
full_no a b c d h = by-case (full a b c d) refl
  where
    by-case : (t : Bool) → full a b c d ≡ t → t ≡ false
    by-case true e =
        let k = known_all a b c d e in
        let l : bit_or (bit_or (bit_or (value a) (value b)) (value c)) (value d) < 64 =
        or_small (value a) (value b) (value c) (value d) k.0 k.1 k.2 k.3
        in
        absurd (omega arith)
    by-case false e = refl

-- three stores are three pasted numbers
store_three : (m : List ℕ) (o a b c : ℕ) → o + 3 ≤ length m → set (set (set m o a) (o + 1) b) (o + 2) c ≡ pasted m o (a ∷ b ∷ c ∷ [])
unfolding pasted
store_three m o a b c h = rw (add-one, add-two) (sets-eq (a ∷ b ∷ c ∷ []) m o h ∙ append_assoc (take o m) (a ∷ b ∷ c ∷ []) (drop (o + 3) m))

-- the word of 24 bits that four numbers below 64 make
abbrev word : ℕ → ℕ → ℕ → ℕ → ℕ
word a b c d = a * 262144 + b * 4096 + c * 64 + d

-- its three bytes are those of the group
word_bytes : (a b c d : ℕ) → a < 64 → b < 64 → c < 64 → d < 64
    → (word a b c d / 65536 ≡ first a b) × (word a b c d / 256 % 256 ≡ second b c) × (word a b c d % 256 ≡ third c d)
word_bytes a b c d ha hb hc hd = (omega arith, omega arith, omega arith)

-- a group whose numbers are a, b, c and d: full, and its bytes stored
module _ (t m : List ℕ) (a b c d : ℕ) (ea : a ≡ value (get_or t 0 0)) (eb : b ≡ value (get_or t 1 0)) (ec : c ≡ value (get_or t 2 0))
    (ed : d ≡ value (get_or t 3 0)) where
  pub group_good : 3 ≤ length m → bit_or (bit_or (bit_or a b) c) d < 64
      → Group t m true (set (set (set m 0 (word a b c d / 65536)) 1 (word a b c d / 256 % 256)) 2 (word a b c d % 256))
  unfolding three
  group_good h l =
      let f : full_at t 0 ≡ true = full_yes _ _ _ _ (rw (ea, eb, ec, ed) at l) in
      let k = or_all a b c d l in
      let w = word_bytes a b c d k.0 k.1 k.2 k.3 in
      record {
        verdict = sym f;
        bytes = rw (w.0, w.1, w.2, f, pick_yes, ← ea, ← eb, ← ec, ← ed) (store_three m 0 (first a b) (second b c) (third c d) h);
      }

  -- a group at fault: nothing stored
  pub group_bad : 64 ≤ bit_or (bit_or (bit_or a b) c) d → Group t m false m
  group_bad l =
      let f : full_at t 0 ≡ false = full_no _ _ _ _ (rw (ea, eb, ec, ed) at l) in
      record { verdict = sym f; bytes = rw (f, pick_no) (sym (pasted_none m 0)) }

-- a last group at fault: no byte, nothing stored
pub last_bad : (x : Option (List ℕ)) (m : List ℕ) → x ≡ none → Last x m None m
unfolding bytes_in length_in
last_bad x m e = record { count = rw e refl; bytes = rw e (sym (pasted_none m 0)) }

-- a last group that stands for the bytes y, which were stored
pub last_good : (x : Option (List ℕ)) (y m e : List ℕ) → x ≡ some y → e ≡ pasted m 0 y → Last x m (Some (length y)) e
unfolding bytes_in length_in
last_good x y m e s p = record { count = rw s refl; bytes = rw s p }

-- two characters and `==`: each fault, and none
module _ (a b c d p q : ℕ) (ec : c ≡ pad) (ed : d ≡ pad) (ea : p ≡ value a) (eb : q ≡ value b) where
  -- the first character stands for no number
  pub one_bad_first : 64 ≤ p → final a b c d ≡ none
  unfolding final
  one_bad_first h = rw (ed, ec, ← ea, le-ltb p 64 h) (simp (both_no, pick_yes, pick_no))

  -- the second character stands for no number
  pub one_bad_second : 64 ≤ q → final a b c d ≡ none
  unfolding final
  one_bad_second h = rw (ed, ec, ← eb, le-ltb q 64 h) (simp (both_no, both_last_no, pick_yes, pick_no))

  -- the unused bits are not zero
  pub one_bad_bits : (q % 16 ≡ 0 → ⊥) → final a b c d ≡ none
  unfolding final
  one_bad_bits h = rw (ed, ec, ← eb, ne_eqb (q % 16) 0 h) (simp (both_last_no, pick_yes, pick_no))

  -- no fault: one byte
  pub one_good : p < 64 → q < 64 → q % 16 ≡ 0 → final a b c d ≡ some ((p * 4 + q / 16) ∷ [])
  unfolding final
  one_good hp hq z = rw (ed, ec, ← ea, ← eb, lt-ltb p 64 hp, lt-ltb q 64 hq, eq-eqb (q % 16) 0 z) (simp (both_yes, pick_yes))

-- three characters and `=`: each fault, and none
module _ (a b c d p q r : ℕ) (ec : c ≡ pad → ⊥) (ed : d ≡ pad) (ea : p ≡ value a) (eb : q ≡ value b) (er : r ≡ value c) where
  -- the first character stands for no number
  pub two_bad_first : 64 ≤ p → final a b c d ≡ none
  unfolding final
  two_bad_first h = rw (ed, ne_eqb c pad ec, ← ea, le-ltb p 64 h) (simp (both_no, pick_yes, pick_no))

  -- the second character stands for no number
  pub two_bad_second : 64 ≤ q → final a b c d ≡ none
  unfolding final
  two_bad_second h = rw (ed, ne_eqb c pad ec, ← eb, le-ltb q 64 h) (simp (both_no, both_last_no, pick_yes, pick_no))

  -- the third character stands for no number
  pub two_bad_third : 64 ≤ r → final a b c d ≡ none
  unfolding final
  two_bad_third h = rw (ed, ne_eqb c pad ec, ← er, le-ltb r 64 h) (simp (both_no, both_last_no, pick_yes, pick_no))

  -- the unused bits are not zero
  pub two_bad_bits : (r % 4 ≡ 0 → ⊥) → final a b c d ≡ none
  unfolding final
  two_bad_bits h = rw (ed, ne_eqb c pad ec, ← er, ne_eqb (r % 4) 0 h) (simp (both_last_no, pick_yes, pick_no))

  -- no fault: two bytes
  pub two_good : p < 64 → q < 64 → r < 64 → r % 4 ≡ 0 → final a b c d ≡ some ((p * 4 + q / 16) ∷ (q % 16 * 16 + r / 4) ∷ [])
  unfolding final
  two_good hp hq hr z =
      rw (ed, ne_eqb c pad ec, ← ea, ← eb, ← er, lt-ltb p 64 hp, lt-ltb q 64 hq, lt-ltb r 64 hr, eq-eqb (r % 4) 0 z) (simp (both_yes, pick_yes, pick_no))

-- a last group that is not filled up is a full group or at fault
module _ (t m e : List ℕ) (ed : get_or t 3 0 ≡ pad → ⊥) where
  -- it is full: three bytes
  pub all_good : Group t m true e → Last (final_at t 0) m (Some 3) e
  unfolding final three
  all_good g =
      let f : full_at t 0 ≡ true = sym g.verdict in
      last_good (final_at t 0) (three_at t 0) m e (rw (ne_eqb (get_or t 3 0) pad ed, f) (simp (pick_yes, pick_no))) (g.bytes ∙ rw (f, pick_yes) refl)

  -- it is not: no byte
  pub all_bad : Group t m false e → Last (final_at t 0) m None e
  unfolding final
  all_bad g =
      let f : full_at t 0 ≡ false = sym g.verdict in
      let same : e ≡ m = g.bytes ∙ rw (f, pick_no) (pasted_none m 0) in
      rw same (last_bad (final_at t 0) m (rw (ne_eqb (get_or t 3 0) pad ed, f) (simp pick_no)))
