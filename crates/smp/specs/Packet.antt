-- A packet: "Header: op, flags, payload length (2, big-endian), group (2, big-endian), sequence, command. Body length must be 8 plus payload
-- length, and at most 65,533."
-- Assumes nothing.
use Rattle.std.specs.Prelude.{ℕ, ◌+◌, Bool, List, [], ◌∷◌, ◌++◌, leb, eqb, length, get_or, drop}
use Rattle.laws.specs.Choice.{both}
use Rattle.laws.specs.Bytes.{be16, of_be16}
use Rattle.smp.specs.declared.Header.{Header}

-- the header of a packet
abbrev pub header_in_def : List ℕ → Header
header_in_def s =
    record {
      op = get_or s 0 0;
      flags = get_or s 1 0;
      length = of_be16 (drop 2 s);
      group = of_be16 (drop 4 s);
      sequence = get_or s 6 0;
      command = get_or s 7 0;
    }

-- a packet has the right length
unfoldable pub sized : List ℕ → Bool
sized s = both (leb 8 (length s)) (both (eqb (length s) (8 + of_be16 (drop 2 s))) (leb (length s) 65533))

-- the bytes of a header
unfoldable pub header_bytes : Header → List ℕ
header_bytes h = h.op ∷ h.flags ∷ (be16 h.length ++ (be16 h.group ++ (h.sequence ∷ h.command ∷ [])))
