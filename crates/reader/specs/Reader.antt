-- The frame reader: what it answers to a line, and what becomes of its record and of the packet buffer, for every line, record and
-- buffer. The checks stand in the order of the refusals 2 to 9.
-- Assumes nothing.
use Rattle.std.specs.Prelude.{ℕ, ◌+◌, ◌-◌, Bool, true, false, not, List, ◌∷◌, ltb, leb, eqb, length, get_or, take, drop, Some, None, Result, Ok, Err}
use Rattle.std.specs.Prelude as answer
use Rattle.std.proofs.Math.Option.{Option, none, some}
use Rattle.laws.specs.Choice.{pick, both}
use Rattle.laws.specs.Bytes.{pasted, of_be16}
use Rattle.refusal.specs.Number.{number_of}
use Rattle.crc.specs.Crc.{crc_of_def}
use Rattle.strict_base64.specs.Base64.{decode}
use Rattle.fault.specs.Fault.{place_of_def}
use Rattle.frame.specs.Line.{longest, initial, partial, begins_with, ended, text_of}
use Rattle.reader.specs.declared.Reader.{Reader}
use Rattle.reader.specs.declared.Reader.TheVariants.{Idle, Open}
use Rattle.reader.specs.declared.LineError.{LineError}
use Rattle.reader.specs.declared.LineError.TheVariants.{Refused, BadText}
use Rattle.reader.specs.declared.Taken.{Taken}

-- what the reader says, in the paper's terms: more is wanted, a body of so many bytes, the refusal of this number, or refusal 4 with its place in the
-- line: "Refusal 4 now also gives a place in the line, from 0"
pub data Said : Type 0 where
  more : Said
  body : ℕ → Said
  refused : ℕ → Said
  is_bad_text : ℕ → Said

-- each answer's meaning
abbrev pub said : Result (answer.Option ℕ) LineError → Said
said (Ok None) = more
said (Ok (Some n)) = body n
said (Err (Refused r)) = refused (number_of r)
said (Err (BadText i)) = is_bad_text i

-- all that a call leaves: what it said, the record and the packet buffer
pub record Outcome : Type 0 where
  pub says : Said
  pub reader : Reader
  pub buffer : List ℕ

-- the outcome of a call that gave t and left p in the packet buffer
abbrev pub outcome : Taken → List ℕ → Outcome
outcome t p = record { says = said t.answer; reader = t.reader; buffer = p }

-- a refusal that leaves all as it was
abbrev pub keeping : ℕ → Reader → List ℕ → Outcome
keeping n r p = record { says = refused n; reader = r; buffer = p }

-- a refusal that drops the unfinished packet and leaves the packet buffer
abbrev pub dropping : ℕ → List ℕ → Outcome
dropping n p = record { says = refused n; reader = Idle; buffer = p }

-- the bounds of an open record: "a total of 10 to 65,535 and a count of body and CRC bytes come, below total"
unfoldable pub possible : ℕ → ℕ → Bool
possible total come = both (leb 10 total) (both (leb total 65535) (ltb come total))

-- of the bytes x that come on top of `come` others, those of the body
unfoldable pub body_of : ℕ → ℕ → List ℕ → List ℕ
body_of total come x = take (total - 2 - come) x

-- the CRC bytes that have come with x: what follows the body, or the first one of the record and then x
unfoldable pub crc_bytes : ℕ → ℕ → ℕ → List ℕ → List ℕ
crc_bytes total come first x = pick (leb come (total - 2)) (drop (total - 2 - come) x) (first ∷ x)

-- the packet buffer with this frame's bytes in: "Body bytes go to the lent packet buffer in order, its other bytes stay, and the CRC does
-- not go there."
unfoldable pub filled : ℕ → ℕ → List ℕ → List ℕ → List ℕ
filled total come x p = pasted p come (body_of total come x)

-- the record of a packet that wants more: it holds the first CRC byte where only the last is missing, and else 0
unfoldable pub waiting : ℕ → ℕ → ℕ → List ℕ → Reader
waiting total come first x = Open total (come + length x) (pick (eqb (come + length x + 1) total) (get_or (crc_bytes total come first x) 0 0) 0)

-- "The CRC that came is compared with that of the body as the buffer would have it with this frame's bytes in."
unfoldable pub completed : ℕ → ℕ → ℕ → List ℕ → List ℕ → Outcome
completed total come first x p =
    pick (eqb (of_be16 (crc_bytes total come first x)) (crc_of_def (take (total - 2) (filled total come x p))))
    (record { says = body (total - 2); reader = Idle; buffer = filled total come x p })
    (dropping 9 p)

-- body and CRC bytes x come on top of `come` others of a packet of this total: refusals 7 and 8; then "the packet is complete when as many
-- bytes have come as total says; the answer is then the body length with the record idle, otherwise that more is wanted"
unfoldable pub absorb : ℕ → ℕ → ℕ → List ℕ → List ℕ → Outcome
absorb total come first x p =
    pick (ltb (length p) (total - 2)) (dropping 7 p)
    (pick (ltb total (come + length x)) (dropping 8 p)
    (pick (ltb (come + length x) total)
    (record { says = more; reader = waiting total come first x; buffer = filled total come x p })
    (completed total come first x p)))

-- the raw bytes of an initial frame: "An initial frame drops an unfinished packet and starts anew."; "Total stands whole in the initial
-- frame", and is 10 at least: refusal 6
unfoldable pub begin : List ℕ → List ℕ → Outcome
begin raw p =
    pick (ltb (length raw) 2) (dropping 6 p)
    (pick (ltb (of_be16 raw) 10) (dropping 6 p)
    (absorb (of_be16 raw) 0 0 (drop 2 raw) p))

-- the raw bytes of a partial frame: refusal 5 where no packet is open, and "an open one outside these bounds is refused 5 for a partial
-- frame"
unfoldable pub resume : Reader → List ℕ → List ℕ → Outcome
resume Idle raw p = keeping 5 Idle p
resume (Open total come first) raw p =
    pick (possible total come) (absorb total come first raw p)
    (keeping 5 (Open total come first) p)

-- the raw bytes of a frame, by its marker: an initial one begins a packet, a partial one goes on with the open one
abbrev pub framed : Bool → Reader → List ℕ → List ℕ → Outcome
framed true r raw p = begin raw p
framed false r raw p = resume r raw p

-- the place in a line at which its text stops being the beginning of a well-formed one: behind the marker's two bytes
unfoldable pub place_in : List ℕ → ℕ
place_in line = place_of_def (text_of line) + 2

-- a frame by what its text decodes to: nothing is refusal 4, with its place
unfoldable pub decoded : Bool → Reader → ℕ → Option (List ℕ) → List ℕ → Outcome
decoded first r i none p = record { says = is_bad_text i; reader = Idle; buffer = p }
decoded first r i (some raw) p = framed first r raw p

-- "The reader takes one line at a time.": refusals 2 and 3, then by its marker
unfoldable pub take_line_def : Reader → List ℕ → List ℕ → Outcome
take_line_def r line p =
    pick (ltb longest (length line)) (keeping 2 r p)
    (pick (ltb (length line) 3) (keeping 3 r p)
    (pick (not (ended line)) (keeping 3 r p)
    (pick (begins_with initial line) (decoded true r (place_in line) (decode (text_of line)) p)
    (pick (begins_with partial line) (decoded false r (place_in line) (decode (text_of line)) p)
    (keeping 3 r p)))))
