-- The frame's CRC: polynomial 0x1021, start 0, no reflection, no final change. A register of 16 bits takes a message one bit at a time,
-- the high bit of each byte first.
-- Assumes nothing.
use Rattle.std.specs.Prelude.{ℕ, zero, suc, ◌*◌, ◌%◌, List, [], ◌∷◌, ltb}
use Rattle.std.specs.Int.Bits.{bit_xor}
use Rattle.laws.specs.Choice.{pick}

-- one bit: the register moves up by one, and where a bit leaves it the polynomial goes in
unfoldable pub shifted : ℕ → ℕ
shifted c = pick (ltb c 32768) (c * 2) (bit_xor (c * 2 % 65536) 0x1021)

-- the register after n bits
unfoldable pub bits : ℕ → ℕ → ℕ
bits zero c = c
bits (suc n) c = bits n (shifted c)

-- the register after one byte
unfoldable pub byte : ℕ → ℕ → ℕ
byte c b = bits 8 (bit_xor c (b * 256))

-- the register c after the bytes of s
unfoldable pub onward : ℕ → List ℕ → ℕ
onward c [] = c
onward c (b ∷ s) = onward (byte c b) s

-- the CRC of a list of bytes
abbrev pub crc_of_def : List ℕ → ℕ
crc_of_def s = onward 0 s
