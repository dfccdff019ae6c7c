-- Decimal digits: how many there are, a turn of the loop that counts them, a turn of the loop that writes them, and a byte after them.
-- Assumes nothing.
use mathlib.Core.Path.{◌≡◌, refl, sym, ap, ◌∙◌}
use mathlib.Core.List.{List, ◌++◌}
use Prim.Native.Nat.{ℕ, zero, suc, ◌+◌, ◌-◌, ◌*◌, ◌/◌, ◌%◌, ◌^◌, ◌≤◌, ◌<◌, min}
use native.Mathlib.Nat.{pow-suc, div-div-eq-div-mul, div-one}
use native.Mathlib.Omega.{arith}
use lib.Dec.{ltb, lit<}
use borrow.Author.Tests.{lt-ltb, le-ltb}
use lib.ListN.{length, set, take, drop, length-take, length-drop}
use lib.Seq.{drop-length}
use Rattle.std.proofs.lemmas.List.{drop-set}
use Rattle.laws.specs.Bytes.{pasted}
use Rattle.laws.proofs.Choice.{pick_yes, pick_no, pick_case}
use Rattle.laws.proofs.Lists.{filled_part}
use Rattle.decimal.specs.Decimal.{digits, digit_count_def, decimal}

-- as many digits as were asked for
pub digits_length : (w n : ℕ) → length (digits w n) ≡ w
unfolding digits
digits_length zero n = refl
digits_length (suc w) n = ap suc (digits_length w n)

-- nothing is written yet
pub digits_none : (t : List ℕ) (n : ℕ) → drop (length t) t ≡ digits (length t - length t) n
unfolding digits
digits_none t n =
    let e : length t - length t ≡ 0 = omega arith in
    rw (drop-length, e)

-- all of them are
pub digits_all : (t : List ℕ) (i w n : ℕ) → i ≤ 0 → length t ≡ w → drop i t ≡ digits (length t - i) n → t ≡ digits w n
digits_all t i w n h e d =
    let start : i ≡ 0 = omega arith in
    let whole : length t - 0 ≡ w = omega arith in
    rw (start, whole) at d

-- one digit is written, the one before those that are
pub digits_turn : (t : List ℕ) (i n v : ℕ) → 0 < i → i ≤ length t → drop i t ≡ digits (length t - i) n → v ≡ n / 10 ^ (length t - i)
    → drop (i - 1) (set t (i - 1) (48 + v % 10)) ≡ digits (length t - (i - 1)) n
unfolding digits
digits_turn t i n v p h d e =
    let more : length t - (i - 1) ≡ suc (length t - i) = omega arith in
    let next : i - 1 + 1 ≡ i = omega arith in
    rw (more, drop-set t (i - 1) (48 + v % 10) (omega arith), next, d, e)

-- nothing is taken off the number yet
pub tens_none : (w n : ℕ) → n ≡ n / 10 ^ (w - w)
tens_none w n =
    let e : w - w ≡ 0 = omega arith in
    rw (e, div-one)

-- what is left of the number after it
pub tens_turn : (n i w : ℕ) → 0 < i → i ≤ w → n / 10 ^ (w - i) / 10 ≡ n / 10 ^ (w - (i - 1))
tens_turn n i w p h =
    let e : w - (i - 1) ≡ suc (w - i) = omega arith in
    rw (e, pow-suc, div-div-eq-div-mul)

-- a number below 10 has one digit
pub count_small : (left n : ℕ) → n < 10 → digit_count_def left n ≡ 1
unfolding digit_count_def
count_small zero n h = refl
count_small (suc left) n h = rw (lt-ltb n 10 h, pick_yes)

-- a number from a power of ten on and below the next has as many digits after the first as that power says, or as many as may stand there
pub count_is : (more k n : ℕ) → 10 ^ k ≤ n → n < 10 * 10 ^ k → digit_count_def more n ≡ 1 + min k more
unfolding digit_count_def
count_is zero k n h l = omega arith
count_is (suc more) zero n h l = rw (lt-ltb n 10 (omega arith), pick_yes) (omega arith)
count_is (suc more) (suc k) n h l =
    let low : 10 ^ k * 10 ≤ n = rw pow-suc at h in
    let high : n < 10 * (10 ^ k * 10) = rw pow-suc at l in
    rw (le-ltb n 10 (omega arith), pick_no, count_is more k (n / 10) (omega arith) (omega arith)) (omega arith)

-- a number has at most one digit more than may stand after the first
pub count_most : (more n : ℕ) → digit_count_def more n ≤ suc more
unfolding digit_count_def
count_most zero n = lit< tt
count_most (suc more) n = pick_case (λ (k : ℕ). k ≤ suc (suc more)) (ltb n 10) _ _ (λ e. omega arith) (λ e. omega (arith, count_most more (n / 10)))

-- a number below 100 has at most two digits
two_digits : (more n : ℕ) → n < 100 → digit_count_def more n ≤ 2
unfolding digit_count_def
two_digits zero n h = lit< tt
two_digits (suc more) n h =
    pick_case (λ (k : ℕ). k ≤ 2) (ltb n 10) _ _ (λ e. lit< tt) (λ e. omega (arith, count_small more (n / 10) (omega arith)))

-- a byte has at most three digits
pub byte_digits : (more n : ℕ) → n < 256 → digit_count_def more n ≤ 3
unfolding digit_count_def
byte_digits zero n h = lit< tt
byte_digits (suc more) n h =
    pick_case (λ (k : ℕ). k ≤ 3) (ltb n 10) _ _ (λ e. lit< tt) (λ e. omega (arith, two_digits more (n / 10) (omega arith)))

-- as many digits as a number has, written over so many bytes of a list
pub put_all : (m ys : List ℕ) (at w more n : ℕ) → w ≡ digit_count_def more n → at + length (decimal more n) ≤ length m
    → ys ≡ digits (length (take (at + w - at) (drop at m))) n
    → (at + w ≡ at + length (decimal more n)) × (take at m ++ (ys ++ drop (at + w - at) (drop at m)) ≡ pasted m at (decimal more n))
put_all m ys at w more n e room d =
    let size : w ≡ length (decimal more n) = e ∙ sym (digits_length (digit_count_def more n) n) in
    let part : length (take (at + w - at) (drop at m)) ≡ digit_count_def more n = simp (length-take, length-drop) (omega (arith, size, e)) in
    (omega (arith, size), rw size (filled_part m at (decimal more n) ys (d ∙ ap (λ (k : ℕ). digits k n) part)))
