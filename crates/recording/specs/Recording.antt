-- Recordings of the line: what one is, by the paper; which records a file has; and what stands at a place of a file.
-- Assumes nothing.
use Rattle.std.specs.Prelude.{ℕ, zero, suc, ◌+◌, ◌*◌, ◌-◌, ◌/◌, ◌^◌, ◌<◌, ◌≡◌, Bool, true, false, List, [], ◌∷◌, ◌++◌, ltb, eqb, length, get_or, Some, None, Result, Ok, Err}
use Rattle.std.specs.Prelude as std
use Rattle.std.proofs.Math.Option.{Option, none, some}
use Rattle.laws.specs.Choice.{pick}
use Rattle.laws.specs.Bytes.{Bytes, be16}
use Rattle.laws.specs.Parts.{part_of}
use Rattle.refusal.specs.Number.{number_of}
use Rattle.refusal.specs.declared.Refusal.{Refusal}
use Rattle.recording.specs.declared.Record.{Record}
use Rattle.recording.specs.declared.First.{First}

-- a record's line, and whether it goes "to the controller or .. from it"
pub record Entry : Type 0 where
  pub is_to_controller : Bool
  pub line : List ℕ

-- "one byte, 3E to the controller"
abbrev pub to_mark : ℕ
to_mark = 0x3E

-- "or 3C from it"
abbrev pub from_mark : ℕ
from_mark = 0x3C

-- "A record is one byte, 3E to the controller or 3C from it, a 2-byte big-endian length, and one line."
unfoldable pub entry_bytes : Entry → List ℕ
entry_bytes e = pick e.is_to_controller to_mark from_mark ∷ (be16 (length e.line) ++ e.line)

-- records one after the other
unfoldable pub entries_bytes : List Entry → List ℕ
entries_bytes [] = []
entries_bytes (e ∷ es) = entry_bytes e ++ entries_bytes es

-- a number in "4 bytes .., big-endian"
unfoldable pub be32 : ℕ → List ℕ
be32 n = be16 (n / 65536) ++ be16 n

-- "a trailer of 8 bytes that points back: the distance from the trailer's first byte to the first record, then the number of records"
unfoldable pub trailer_of : List Entry → List ℕ
trailer_of es = be32 (length (entries_bytes es)) ++ be32 (length es)

-- each line has a length of two bytes
pub data Short : List Entry → Type 0 where
  short_none : Short []
  short_next : {e : Entry} {es : List Entry} → length e.line < 65536 → Short es → Short (e ∷ es)

-- "A recording is a free preface, then records, then a trailer": a file is one, with these records
pub record Recorded (file : List ℕ) (es : List Entry) : Type 0 where
  pub preface : List ℕ
  pub short : Short es
  pub distance : length (entries_bytes es) < 2 ^ 32
  pub is : file ≡ preface ++ (entries_bytes es ++ trailer_of es)

-- the numbers of two and of four bytes that stand at a place, the high byte first
abbrev pub be16_at : List ℕ → ℕ → ℕ
be16_at s i = get_or s i 0 * 256 + get_or s (i + 1) 0

abbrev pub be32_at : List ℕ → ℕ → ℕ
be32_at s i = be16_at s i * 65536 + be16_at s (i + 2)

-- a record: whether its line goes to the controller, and where that starts and how long it is
abbrev pub whole : Bool → ℕ → ℕ → Record
whole to start len = record { to_controller = to; line = record { start = start; len = len } }

-- a record that begins at a place and ends at another or before it, by its first byte and its length
unfoldable pub line_at : List ℕ → ℕ → ℕ → Bool → std.Option Record
line_at file stop at to = pick (ltb (stop - (at + 3)) (be16_at file (at + 1))) None (Some (whole to (at + 3) (be16_at file (at + 1))))

unfoldable pub record_at_def : List ℕ → ℕ → ℕ → std.Option Record
record_at_def file stop at =
    pick (ltb (stop - at) 3) None
    (pick (eqb (get_or file at 0) to_mark) (line_at file stop at true)
    (pick (eqb (get_or file at 0) from_mark) (line_at file stop at false)
    None))

-- where a file's trailer begins: its last 8 bytes
abbrev pub trailer_at : List ℕ → ℕ
trailer_at file = length file - 8

-- what is said of a place, in the paper's terms: a record, to the controller or from it, with the start and the length of its line; the end of the
-- records; or the refusal of this number
pub data Said : Type 0 where
  is_record : Bool → ℕ → ℕ → Said
  over : Said
  refused : ℕ → Said

-- each answer's meaning
abbrev pub said : Result (std.Option Record) Refusal → Said
said (Ok (Some r)) = is_record r.to_controller r.line.start r.line.len
said (Ok None) = over
said (Err r) = refused (number_of r)

-- what begins at a place before the trailer, as it is said
unfoldable pub said_of : std.Option Record → Said
said_of (Some r) = is_record r.to_controller r.line.start r.line.len
said_of None = refused 12

-- what stands at a place of a file
unfoldable pub step_at_def : List ℕ → ℕ → Said
step_at_def file at =
    pick (ltb (length file) 8) (refused 12)
    (pick (eqb at (trailer_at file)) over
    (said_of (record_at_def file (trailer_at file) at)))

-- one more record before those behind it, where there are such
unfoldable pub before : Entry → Option (List Entry) → Option (List Entry)
before e none = none
before e (some es) = some (e ∷ es)

-- a record of a file and those behind it, which begin where it ends
unfoldable pub entry_then : List ℕ → (ℕ → Option (List Entry)) → std.Option Record → Option (List Entry)
entry_then file rest (Some r) =
    before (record { is_to_controller = r.to_controller; line = part_of file r.line.start r.line.len }) (rest (r.line.start + r.line.len))
entry_then file rest None = none

-- n records of a file from a place on, which end where the trailer begins
unfoldable pub entries_from : List ℕ → ℕ → ℕ → Option (List Entry)
entries_from file zero at = pick (eqb at (trailer_at file)) (some []) none
entries_from file (suc n) at = entry_then file (λ end. entries_from file n end) (record_at_def file (trailer_at file) at)

-- the trailer's two numbers: "the distance .., then the number of records"
abbrev pub distance_in : List ℕ → ℕ
distance_in file = be32_at file (trailer_at file)

abbrev pub number_in_def : List ℕ → ℕ
number_in_def file = be32_at file (trailer_at file + 4)

-- where the first record stands, by the trailer
abbrev pub first_in : List ℕ → ℕ
first_in file = trailer_at file - distance_in file

-- the records of a file: "It is refused 12 unless the records fill the distance and match the number."
unfoldable pub records_of : List ℕ → Option (List Entry)
records_of file =
    pick (ltb (length file) 8) none
    (pick (ltb (trailer_at file) (distance_in file)) none
    (entries_from file (number_in_def file) (first_in file)))

-- there are such records
unfoldable pub is_some : Option (List Entry) → Bool
is_some none = false
is_some (some es) = true

-- what is said of a file: the first record's place and the number of records, or the refusal of this number
pub data Begun : Type 0 where
  first_at : ℕ → ℕ → Begun
  unreadable : ℕ → Begun

abbrev pub begun : Result First Refusal → Begun
begun (Ok first) = first_at first.place first.number
begun (Err r) = unreadable (number_of r)

unfoldable pub first_record_def : List ℕ → Begun
first_record_def file = pick (is_some (records_of file)) (first_at (first_in file) (number_in_def file)) (unreadable 12)

-- so they are: the records of a file are those that it has by the paper's form, and none other
abbrev pub RecordsAre : Type 0
RecordsAre = (file : List ℕ) (es : List Entry) → Bytes file → (records_of file ≡ some es → Recorded file es) × (Recorded file es → records_of file ≡ some es)

-- what a reader of a file finds from a place on who goes on behind each record, until the records are over
pub data Reads (file : List ℕ) : ℕ → List Entry → Type 0 where
  ends : {at : ℕ} → step_at_def file at ≡ over → Reads file at []
  goes_on : {at : ℕ} {es : List Entry} (to : Bool) (start len : ℕ) → step_at_def file at ≡ is_record to start len → Reads file (start + len) es
      → Reads file at (record { is_to_controller = to; line = part_of file start len } ∷ es)

-- from the first record on the reader gives the records of the file, one by one, as many as the trailer says
abbrev pub ReadsThem : Type 0
ReadsThem = (file : List ℕ) (es : List Entry) → records_of file ≡ some es → Reads file (first_in file) es × (length es ≡ number_in_def file)
