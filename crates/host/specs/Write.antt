-- The writers of echo, reset and erase requests: "op 2 and flags 0, gives reset and erase the payload A0"; and what every request writer says and
-- leaves.
-- Assumes nothing.
use Rattle.std.specs.Prelude.{ℕ, Bool, List, ◌++◌, ltb, leb, length, Result, Ok, Err}
use Rattle.laws.specs.Choice.{pick, both}
use Rattle.laws.specs.Bytes.{pasted}
use Rattle.refusal.specs.Number.{number_of}
use Rattle.cbor.specs.Write.{text_of, map_of}
use Rattle.fields.specs.Keys.{name_d}
use Rattle.smp.specs.declared.Header.{Header}
use Rattle.smp.specs.Packet.{header_bytes}
use Rattle.refusal.specs.declared.Refusal.{Refusal}

-- the header of a request with a map of n bytes
abbrev pub request_header : ℕ → ℕ → ℕ → ℕ → Header
request_header group sequence command n = record { op = 2; flags = 0; length = n; group = group; sequence = sequence; command = command }

-- a request with this map
unfoldable pub request_packet : ℕ → ℕ → ℕ → List ℕ → List ℕ
request_packet group sequence command m = header_bytes (request_header group sequence command (length m)) ++ m

-- {"d": text}
unfoldable pub echo_map : List ℕ → List ℕ
echo_map text = map_of 1 ++ (text_of name_d ++ text_of text)

-- what a writer says, in the paper's terms: a packet of so many bytes, or the refusal of this number
pub data Told : Type 0 where
  packet : ℕ → Told
  refused : ℕ → Told

-- each answer's meaning
abbrev pub told : Result ℕ Refusal → Told
told (Ok n) = packet n
told (Err r) = refused (number_of r)

-- all that a call leaves: what it said, and the lent buffer
pub record Outcome : Type 0 where
  pub says : Told
  pub buffer : List ℕ

-- the outcome of a call that gave w and left out in its buffer
abbrev pub outcome : Result ℕ Refusal → List ℕ → Outcome
outcome w out = record { says = told w; buffer = out }

-- refusal 12: nothing is written
abbrev pub unsendable : List ℕ → Outcome
unsendable out = record { says = refused 12; buffer = out }

-- a packet of this many bytes is not over 65,533 and not longer than the room
unfoldable pub sendable : ℕ → ℕ → Bool
sendable total room = both (leb total 65533) (leb total room)

-- a packet goes to the buffer's start: refused 12 where it is over 65,533 bytes or longer than the output
unfoldable pub put : List ℕ → List ℕ → Outcome
put p out =
    pick (ltb 65533 (length p)) (unsendable out)
    (pick (ltb (length out) (length p)) (unsendable out)
    (record { says = packet (length p); buffer = pasted out 0 p }))

-- the three requests besides an upload
unfoldable pub write_echo_def : ℕ → List ℕ → List ℕ → Outcome
write_echo_def sequence text out = put (request_packet 0 sequence 0 (echo_map text)) out

unfoldable pub write_reset_def : ℕ → List ℕ → Outcome
write_reset_def sequence out = put (request_packet 0 sequence 5 (map_of 0)) out

unfoldable pub write_erase_def : ℕ → List ℕ → Outcome
write_erase_def sequence out = put (request_packet 1 sequence 5 (map_of 0)) out
