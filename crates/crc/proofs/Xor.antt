-- Exclusive or is associative, and the CRC's bit step passes through it: the register after n bits of two numbers' exclusive or is the
-- exclusive or of their registers. So a byte's step is a shift and an entry of the table.
-- Assumes nothing.
use mathlib.Core.Path.{◌≡◌, refl, sym, ap, ap₂, ◌∙◌}
use Prim.Native.Nat.{ℕ, zero, suc, ◌+◌, ◌*◌, ◌/◌, ◌%◌, ◌^◌, ◌≤◌, ◌<◌}
use native.Mathlib.Omega.{arith}
use native.Mathlib.Nat.{add-zero}
use lib.Arith.{bin_ind}
use lib.Pow.{pow_pos}
use lib.Dec.{ltb, lit<}
use lib.Bits.{bit_xor, differ, xor_step, xor_zero_r, xor_comm, xor_lt, xor_block, xor_shifted, xor_shr, xor_mod}
use borrow.Author.Tests.{ltb-true, ltb-false}
use Rattle.laws.specs.Choice.{pick}
use Rattle.laws.specs.Table.{tab}
use Rattle.laws.proofs.Choice.{pick_case}
use Rattle.laws.proofs.Table.{tab_entry}
use Rattle.crc.specs.Crc.{shifted, bits, byte}
use Rattle.crc.proofs.Laws.{shifted_lt}

-- what holds of 0 and of 1 holds of every digit
digit : (P : ℕ → Type 0) → P 0 → P 1 → (n : ℕ) → n < 2 → P n
digit P p q zero h = p
digit P p q (suc zero) h = q
digit P p q (suc (suc n)) h = absurd (omega arith)

-- digits are told apart in any grouping
digits : (a b c : ℕ) → a < 2 → b < 2 → c < 2 → differ (bit_xor a b) c ≡ differ a (bit_xor b c)
digits a b c h k l =
    digit (λ a. differ (bit_xor a b) c ≡ differ a (bit_xor b c))
    (digit (λ b. differ (bit_xor 0 b) c ≡ differ 0 (bit_xor b c))
    (digit (λ c. differ (bit_xor 0 0) c ≡ differ 0 (bit_xor 0 c)) refl refl c l)
    (digit (λ c. differ (bit_xor 0 1) c ≡ differ 0 (bit_xor 1 c)) refl refl c l)
    b
    k)
    (digit (λ b. differ (bit_xor 1 b) c ≡ differ 1 (bit_xor b c))
    (digit (λ c. differ (bit_xor 1 0) c ≡ differ 1 (bit_xor 0 c)) refl refl c l)
    (digit (λ c. differ (bit_xor 1 1) c ≡ differ 1 (bit_xor 1 c)) refl refl c l)
    b
    k)
    a
    h

-- exclusive or, in any grouping
xor_assoc : (a b c : ℕ) → bit_xor (bit_xor a b) c ≡ bit_xor a (bit_xor b c)
xor_assoc =
    bin_ind (λ a. (b c : ℕ) → bit_xor (bit_xor a b) c ≡ bit_xor a (bit_xor b c))
    (λ b c. refl)
    (λ a ih b c.
    xor_step (bit_xor a b) c
    ∙ ap₂ (λ (x y : ℕ). bit_xor x (c / 2) * 2 + differ y (c % 2)) (xor_shr a b 1) (xor_mod a b 1)
    ∙ ap₂ (λ (x y : ℕ). x * 2 + y) (ih (b / 2) (c / 2)) (digits (a % 2) (b % 2) (c % 2) (omega arith) (omega arith) (omega arith))
    ∙ ap₂ (λ (x y : ℕ). bit_xor (a / 2) x * 2 + differ (a % 2) y) (sym (xor_shr b c 1)) (sym (xor_mod b c 1))
    ∙ sym (xor_step a (bit_xor b c)))

-- two pairs, regrouped
xor_pairs : (a b c d : ℕ) → bit_xor (bit_xor a b) (bit_xor c d) ≡ bit_xor (bit_xor a c) (bit_xor b d)
xor_pairs a b c d =
    xor_assoc a b (bit_xor c d)
    ∙ ap (bit_xor a) (sym (xor_assoc b c d) ∙ ap (λ (x : ℕ). bit_xor x d) (xor_comm b c) ∙ xor_assoc c b d)
    ∙ sym (xor_assoc a c (bit_xor b d))

-- two numbers moved up by as many digits
xor_up : (k x y : ℕ) → bit_xor (x * 2 ^ k) (y * 2 ^ k) ≡ bit_xor x y * 2 ^ k
xor_up k x y = simp add-zero at (xor_block k x y 0 0 (pow_pos k) (pow_pos k))

-- what a bit that leaves the register puts in
abbrev put : ℕ
put = shifted 32768

-- the bit step without a choice: what stays of the register doubled, and what goes in as often as a bit leaves it
shifted_sum : (x : ℕ) → x < 65536 → shifted x ≡ bit_xor (x * 2 % 65536) (x / 32768 * put)
unfolding shifted pick
shifted_sum x h =
    pick_case (λ (r : ℕ). r ≡ bit_xor (x * 2 % 65536) (x / 32768 * put)) (ltb x 32768) _ _
    (λ e.
    let low : x < 32768 = ltb-true x 32768 e in
    let stays : x * 2 % 65536 ≡ x * 2 = omega arith in
    let none : x / 32768 ≡ 0 = omega arith in
    rw (stays, none) (sym (xor_zero_r (x * 2))))
    (λ e.
    let high : 32768 ≤ x = ltb-false x 32768 e in
    let one : x / 32768 ≡ 1 = omega arith in
    rw one refl)

-- what two digits put in
put_xor : (p q : ℕ) → p < 2 → q < 2 → bit_xor p q * put ≡ bit_xor (p * put) (q * put)
unfolding shifted pick
put_xor p q h k =
    digit (λ p. bit_xor p q * put ≡ bit_xor (p * put) (q * put))
    (digit (λ q. bit_xor 0 q * put ≡ bit_xor (0 * put) (q * put)) refl refl q k)
    (digit (λ q. bit_xor 1 q * put ≡ bit_xor (1 * put) (q * put)) refl refl q k)
    p
    h

-- one bit of an exclusive or
shifted_xor : (x y : ℕ) → x < 65536 → y < 65536 → shifted (bit_xor x y) ≡ bit_xor (shifted x) (shifted y)
shifted_xor x y h k =
    shifted_sum (bit_xor x y) (xor_lt 16 x y h k)
    ∙ ap₂ bit_xor doubled (ap (λ (z : ℕ). z * put) (xor_shr x y 15) ∙ put_xor (x / 32768) (y / 32768) (omega arith) (omega arith))
    ∙ xor_pairs (x * 2 % 65536) (y * 2 % 65536) (x / 32768 * put) (y / 32768 * put)
    ∙ ap₂ bit_xor (sym (shifted_sum x h)) (sym (shifted_sum y k))
  where
    doubled : bit_xor x y * 2 % 65536 ≡ bit_xor (x * 2 % 65536) (y * 2 % 65536)
    doubled = ap (λ (z : ℕ). z % 65536) (sym (xor_up 1 x y)) ∙ xor_mod (x * 2) (y * 2) 16

-- any number of bits of an exclusive or
bits_xor : (n x y : ℕ) → x < 65536 → y < 65536 → bits n (bit_xor x y) ≡ bit_xor (bits n x) (bits n y)
unfolding bits
bits_xor zero x y h k = refl
bits_xor (suc n) x y h k = ap (bits n) (shifted_xor x y h k) ∙ bits_xor n (shifted x) (shifted y) (shifted_lt x h) (shifted_lt y k)

-- eight bits of a number that fits one byte: none leaves the register, by one test over all of them
bits_low : (x : ℕ) → x < 256 → bits 8 x ≡ x * 256
unfolding tab shifted bits pick
bits_low x h =
    let up : ℕ → ℕ = λ x. x * 256 in
    sym (tab_entry (bits 8) 256 x (tab up 0 256) refl h) ∙ tab_entry up 256 x (tab up 0 256) refl h

-- the byte that is looked up
index_lt : (c b : ℕ) → c < 65536 → b < 256 → bit_xor (c / 256) b < 256
index_lt c b h k = xor_lt 8 (c / 256) b (omega arith) k

-- a byte's step: the register's low half moves up, and its high half and the byte go in by the table
pub byte_step : (c b : ℕ) → c < 65536 → b < 256 → byte c b ≡ bit_xor (c % 256 * 256) (byte 0 (bit_xor (c / 256) b))
unfolding byte
byte_step c b h k =
    ap (bits 8) halves
    ∙ bits_xor 8 (bit_xor (c / 256) b * 256) (c % 256) (omega (arith, index_lt c b h k)) (omega arith)
    ∙ xor_comm (bits 8 (bit_xor (c / 256) b * 256)) (bits 8 (c % 256))
    ∙ ap (λ (x : ℕ). bit_xor x (bits 8 (bit_xor (c / 256) b * 256))) (bits_low (c % 256) (omega arith))
  where
    whole : c ≡ c / 256 * 256 + c % 256
    whole = omega arith

    halves : bit_xor c (b * 256) ≡ bit_xor (bit_xor (c / 256) b * 256) (c % 256)
    halves =
        ap₂ bit_xor whole (sym (add-zero (b * 256)))
        ∙ xor_block 8 (c / 256) b (c % 256) 0 (omega arith) (lit< tt)
        ∙ ap (λ (x : ℕ). bit_xor (c / 256) b * 256 + x) (xor_zero_r (c % 256))
        ∙ sym (xor_shifted (bit_xor (c / 256) b) 8 (c % 256) (omega arith))
