-- Laws of the CRC: a list cut in two, and a register that stays below 65,536.
-- Assumes nothing.
use mathlib.Core.Path.{◌≡◌, refl}
use mathlib.Core.List.{List, [], ◌∷◌, ◌++◌}
use Prim.Native.Nat.{ℕ, zero, suc, ◌+◌, ◌*◌, ◌%◌, ◌<◌}
use native.Mathlib.Omega.{arith}
use native.Mathlib.Numerals.{add-one}
use lib.Dec.{ltb, lit<}
use lib.ListN.{length, get_or, drop}
use lib.Seq.{drop-cons}
use lib.Bits.{bit_xor, xor_lt}
use borrow.Author.Tests.{ltb-true}
use Rattle.laws.specs.Bytes.{Bytes}
use Rattle.laws.proofs.Choice.{pick_case}
use Rattle.laws.proofs.Lists.{bytes_tail}
use Rattle.crc.specs.Crc.{shifted, bits, byte, onward}

-- the CRC of two lists joined is that of the second, continued from the first
pub onward_join : (c : ℕ) (s t : List ℕ) → onward c (s ++ t) ≡ onward (onward c s) t
unfolding onward
onward_join c [] t = refl
onward_join c (b ∷ s) t = onward_join (byte c b) s t

-- nothing left
pub onward_none : (c : ℕ) → onward c [] ≡ c
unfolding onward
onward_none c = refl

-- one byte of those left
pub onward_turn : (c i : ℕ) (s : List ℕ) → i < length s → onward (byte c (get_or s i 0)) (drop (i + 1) s) ≡ onward c (drop i s)
unfolding onward
onward_turn c i s h = rw (add-one, drop-cons s i 0)

-- a register of 16 bits stays one after a bit
pub shifted_lt : (c : ℕ) → c < 65536 → shifted c < 65536
unfolding shifted
shifted_lt c h =
    pick_case (λ r. r < 65536) (ltb c 32768) _ _
    (λ e. omega (arith, ltb-true c 32768 e))
    (λ e. xor_lt 16 (c * 2 % 65536) _ (omega arith) (lit< tt))

-- after any number of bits
pub bits_lt : (n c : ℕ) → c < 65536 → bits n c < 65536
unfolding bits
bits_lt zero c h = h
bits_lt (suc n) c h = bits_lt n (shifted c) (shifted_lt c h)

-- after a byte
pub byte_lt : (c b : ℕ) → c < 65536 → b < 256 → byte c b < 65536
unfolding byte
byte_lt c b h k = bits_lt 8 (bit_xor c (b * 256)) (xor_lt 16 c (b * 256) h (omega arith))

-- after any bytes: a CRC fits two bytes
pub onward_lt : (c : ℕ) (s : List ℕ) → c < 65536 → Bytes s → onward c s < 65536
unfolding onward
onward_lt c [] h p = h
onward_lt c (b ∷ s) h p = onward_lt (byte c b) s (byte_lt c b h (p 0)) (bytes_tail b s p)
