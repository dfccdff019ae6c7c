-- Only proofs need this file: what the step looks up.
-- Assumes nothing.
use Rattle.std.specs.Prelude.{◌≡◌, List, ℕ}
use Rattle.laws.specs.Table.{tab}
use Rattle.crc.specs.Crc.{byte}

-- a list is the table of the registers after each byte, from 0
abbrev pub Entries : List ℕ → Type 0
Entries s = s ≡ tab (byte 0) 0 256
