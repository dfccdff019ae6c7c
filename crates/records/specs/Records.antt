-- The records as arrays of numbers, as they cross to C. Any number may stand in them.
-- Assumes nothing.
use Rattle.std.specs.Prelude.{ℕ, Bool, not, List, [], ◌∷◌, ltb, eqb, get_or, Option, Some, None}
use Rattle.laws.specs.declared.Run.{Run}
use Rattle.laws.specs.Choice.{pick}
use Rattle.collector.specs.declared.Collector.{Collector}
use Rattle.reader.specs.declared.Reader.{Reader}
use Rattle.reader.specs.declared.Reader.TheVariants.{Idle, Open}
use Rattle.session.specs.declared.Layout.{Layout}
use Rattle.session.specs.declared.Session.{Session}
use Rattle.fields.specs.Fields.{flag_number_def}
use Rattle.replies.specs.declared.Reply.{Reply}
use Rattle.replies.specs.Read.{or_zero}

-- a number as a flag: 0 is false
abbrev pub flag_of_def : ℕ → Bool
flag_of_def n = not (eqb n 0)

-- the collector's record by its numbers and its bytes
abbrev pub collector_from_def : ℕ → ℕ → List ℕ → Collector
collector_from_def count skipping held = record { held = held; count = count; skipping = flag_of_def skipping }

-- the collector's record { count, skipping } with its bytes
abbrev pub collector_of : List ℕ → List ℕ → Collector
collector_of r held = collector_from_def (get_or r 0 0) (get_or r 1 0) held

-- the numbers of a collector's record
unfoldable pub collector_numbers : Collector → List ℕ
collector_numbers c = c.count ∷ flag_number_def c.skipping ∷ []

-- the reader's record by its numbers; a first byte that is no byte makes it impossible
unfoldable pub reader_from_def : ℕ → ℕ → ℕ → ℕ → Reader
reader_from_def open? total come first = pick (eqb open? 0) Idle (pick (ltb 255 first) (Open 0 0 0) (Open total come first))

-- the reader's record { open, total, come, first }
abbrev pub reader_of : List ℕ → Reader
reader_of r = reader_from_def (get_or r 0 0) (get_or r 1 0) (get_or r 2 0) (get_or r 3 0)

-- the numbers of a reader's record; idle is all 0
unfoldable pub reader_numbers : Reader → List ℕ
reader_numbers Idle = 0 ∷ 0 ∷ 0 ∷ 0 ∷ []
reader_numbers (Open total come first) = 1 ∷ total ∷ come ∷ first ∷ []

-- the two regions by their numbers
abbrev pub layout_from_def : ℕ → ℕ → ℕ → ℕ → Layout
layout_from_def start₀ size₀ start₁ size₁ = record { slot0 = record { start = start₀; size = size₀ }; slot1 = record { start = start₁; size = size₁ } }

-- the layout { slot 0's start, slot 0's size, the upload slot's start, its size }
abbrev pub layout_of : List ℕ → Layout
layout_of l = layout_from_def (get_or l 0 0) (get_or l 1 0) (get_or l 2 0) (get_or l 3 0)

-- the session record by its numbers
abbrev pub session_from_def : ℕ → ℕ → ℕ → ℕ → Session
session_from_def running length place tagged = record { running = flag_of_def running; length = length; place = place; tagged = flag_of_def tagged }

-- the session record { open, length, place, tagged }
abbrev pub session_of : List ℕ → Session
session_of s = session_from_def (get_or s 0 0) (get_or s 1 0) (get_or s 2 0) (get_or s 3 0)

-- the numbers of a session record
unfoldable pub session_numbers : Session → List ℕ
session_numbers s = flag_number_def s.running ∷ s.length ∷ s.place ∷ flag_number_def s.tagged ∷ []

-- whether a number is there
unfoldable pub there_of_def : Option ℕ → ℕ
there_of_def None = 0
there_of_def (Some n) = 1

-- a text that may be absent: whether it is there, where it starts, and its length
unfoldable pub run_there_def : Option Run → ℕ
run_there_def None = 0
run_there_def (Some r) = 1

unfoldable pub run_start_def : Option Run → ℕ
run_start_def None = 0
run_start_def (Some r) = r.start

unfoldable pub run_length_def : Option Run → ℕ
run_length_def None = 0
run_length_def (Some r) = r.len

-- the numbers of a reply: op, flags, payload length, group, sequence, command, rc, whether off is there, off, whether a text is there, its
-- start and its length
unfoldable pub reply_numbers_def : Reply → List ℕ
reply_numbers_def r =
    r.header.op
    ∷ r.header.flags
    ∷ r.header.length
    ∷ r.header.group
    ∷ r.header.sequence
    ∷ r.header.command
    ∷ r.rc
    ∷ there_of_def r.off
    ∷ or_zero r.off
    ∷ run_there_def r.text
    ∷ run_start_def r.text
    ∷ run_length_def r.text
    ∷ []
