-- Numbers in bytes, the high one first: what is written is read back, a turn of the loop that reads and of the loop that writes, and
-- the bound of what is read.
-- Assumes nothing.
use mathlib.Core.Path.{◌≡◌, refl, sym, ap, ◌∙◌}
use mathlib.Core.List.{List, [], ◌∷◌}
use Prim.Native.Nat.{ℕ, zero, suc, ◌+◌, ◌-◌, ◌*◌, ◌/◌, ◌%◌, ◌^◌, ◌≤◌, ◌<◌}
use native.Mathlib.Nat.{
  pow-suc,
  pow-le-pow_right,
  one-le-pow,
  add-mul,
  mul_assoc,
  mul_comm,
  zero-mul,
  zero-add,
  suc-add,
  div-add-mod',
  mod-lt,
  mod-eq_of_lt,
  mul-add-mod_self_right,
  mul-le-mul_right,
  mod-one,
  div-one,
}
use native.Mathlib.Numerals.{add-one}
use Rattle.std.specs.Int.{w64, to_be_bytes, bytes_high_first}
use native.Mathlib.Omega.{arith}
use lib.ListN.{length, get_or, take, drop}
use lib.Seq.{take_all}
use lib.Dec.{lit<}
use Rattle.cbor.specs.Read.{be_after}
use Rattle.cbor.specs.Write.{be_bytes}

-- a power of 256 is no zero
power_some : (w : ℕ) → 0 < 256 ^ w
power_some w = one-le-pow w 256 (lit< tt)

-- a number of w bytes that takes one byte more
pub byte_more : (n b w : ℕ) → n < 256 ^ w → b < 256 → n * 256 + b < 256 ^ (w + 1)
byte_more n b w h k =
    let e : 256 ^ (w + 1) ≡ 256 ^ w * 256 = rw (add-one w, pow-suc) in
    omega arith

-- a number of at most eight bytes is below 2^64
pub eight_bytes : (n w : ℕ) → w ≤ 8 → n < 256 ^ w → n < 2 ^ 64
eight_bytes n w h k =
    let p : 256 ^ w ≤ 256 ^ 8 = pow-le-pow_right (lit< tt) h in
    omega arith

-- the rest of a division by p * 256, by a division by p
rest_more : (n p : ℕ) → 0 < p → n % (p * 256) ≡ n / p % 256 * p + n % p
rest_more n p h =
    let q : ℕ = n / p in
    let t : ℕ = q % 256 in
    let whole : q * p + n % p ≡ n = div-add-mod' n p in
    let parts : (q / 256 * 256 + t) * p ≡ q / 256 * 256 * p + t * p = add-mul (q / 256 * 256) t p in
    let high : q / 256 * 256 * p ≡ q / 256 * (p * 256) = mul_assoc (q / 256) 256 p ∙ ap (λ (x : ℕ). q / 256 * x) (mul_comm 256 p) in
    let again : q * p ≡ (q / 256 * 256 + t) * p = ap (λ (x : ℕ). x * p) (sym (div-add-mod' q 256)) in
    let sum : n ≡ q / 256 * (p * 256) + (t * p + n % p) = omega arith in
    let small : n % p < p = mod-lt n h in
    let below : t * p ≤ 255 * p = mul-le-mul_right p (omega (arith, mod-lt q {m = 256} (lit< tt))) in
    ap (λ (x : ℕ). x % (p * 256)) sum
    ∙ mul-add-mod_self_right (q / 256) (p * 256) (t * p + n % p)
    ∙ mod-eq_of_lt (omega arith)

-- what a number's bytes read back as, after a number a
pub bytes_read : (a w n : ℕ) → be_after a (be_bytes w n) ≡ a * 256 ^ w + n % 256 ^ w
unfolding be_after be_bytes
bytes_read a zero n = rw mod-one (omega arith)
bytes_read a (suc w) n =
    let p : ℕ = 256 ^ w in
    let e : 256 ^ suc w ≡ p * 256 = pow-suc 256 w in
    let read : be_after (a * 256 + n / p % 256) (be_bytes w n) ≡ (a * 256 + n / p % 256) * p + n % p = bytes_read (a * 256 + n / p % 256) w n in
    let parts : (a * 256 + n / p % 256) * p ≡ a * 256 * p + n / p % 256 * p = add-mul (a * 256) (n / p % 256) p in
    let high : a * 256 * p ≡ a * (p * 256) = mul_assoc a 256 p ∙ ap (λ (x : ℕ). a * x) (mul_comm 256 p) in
    let rest : n % (p * 256) ≡ n / p % 256 * p + n % p = rest_more n p (power_some w) in
    rw e (omega arith)

-- a number that fits is read back
pub number_back : (w n : ℕ) → n < 256 ^ w → be_after 0 (be_bytes w n) ≡ n
number_back w n h = bytes_read 0 w n ∙ rw (zero-mul, zero-add) (mod-eq_of_lt h)

-- a number in w bytes has w
pub bytes_length : (w n : ℕ) → length (be_bytes w n) ≡ w
unfolding be_bytes
bytes_length zero n = refl
bytes_length (suc w) n = ap suc (bytes_length w n)

-- a number's lowest bytes, as the library has them
high_first : (w n : ℕ) → bytes_high_first w n ≡ be_bytes w n
unfolding be_bytes
high_first zero n = refl
high_first (suc zero) n = rw div-one refl
high_first (suc (suc w)) n = ap (λ (l : List ℕ). n / 256 ^ suc w % 256 ∷ l) (high_first (suc w) n)

-- the number without its first bytes
low_bytes : (d w n : ℕ) → drop d (be_bytes (d + w) n) ≡ be_bytes w n
unfolding be_bytes
low_bytes zero w n = rw zero-add refl
low_bytes (suc d) w n = rw suc-add (low_bytes d w n)

-- the last bytes of a number's eight are the number in so many
pub last_bytes : (w n : ℕ) (bs : List ℕ) → w ≤ 8 → bs ≡ to_be_bytes w64 n → take (8 - (8 - w)) (drop (8 - w) bs) ≡ be_bytes w n
last_bytes w n bs h eight =
    let back : 8 - (8 - w) ≡ w = omega arith in
    let all : 8 ≡ 8 - w + w = omega arith in
    let low : drop (8 - w) bs ≡ be_bytes w n =
    ap (λ (l : List ℕ). drop (8 - w) l) (eight ∙ high_first 8 n ∙ ap (λ (k : ℕ). be_bytes k n) all) ∙ low_bytes (8 - w) w n in
    rw (back, low) (take_all w (be_bytes w n) (rw bytes_length (omega arith)))

-- the number in one byte, in two and in four
pub one_byte : (s : List ℕ) → length s ≡ 1 → be_after 0 s ≡ get_or s 0 0
unfolding be_after
one_byte [] e = absurd (omega arith)
one_byte (x ∷ []) e = omega arith
one_byte (x ∷ y ∷ s) e = absurd (omega arith)

pub two_bytes : (s : List ℕ) → length s ≡ 2 → be_after 0 s ≡ get_or s 0 0 * 256 + get_or s 1 0
unfolding be_after
two_bytes [] e = absurd (omega arith)
two_bytes (x ∷ []) e = absurd (omega arith)
two_bytes (x ∷ y ∷ []) e = omega arith
two_bytes (x ∷ y ∷ z ∷ s) e = absurd (omega arith)

pub four_bytes : (s : List ℕ) → length s ≡ 4 → be_after 0 s ≡ ((get_or s 0 0 * 256 + get_or s 1 0) * 256 + get_or s 2 0) * 256 + get_or s 3 0
unfolding be_after
four_bytes [] e = absurd (omega arith)
four_bytes (x ∷ []) e = absurd (omega arith)
four_bytes (x ∷ y ∷ []) e = absurd (omega arith)
four_bytes (x ∷ y ∷ z ∷ []) e = absurd (omega arith)
four_bytes (x ∷ y ∷ z ∷ w ∷ []) e = omega arith
four_bytes (x ∷ y ∷ z ∷ w ∷ v ∷ s) e = absurd (omega arith)
