-- The line collector: what one step gives and leaves, for every record, lump and place, and what a whole stream of bytes gives.
-- Assumes nothing.
use Rattle.std.specs.Prelude.{ℕ, ◌+◌, ◌-◌, Bool, true, false, List, [], ◌∷◌, ◌++◌, ltb, length, take, drop, replicate, Option, Some, None, Result, Ok, Err}
use Rattle.laws.specs.Choice.{pick}
use Rattle.laws.specs.Bytes.{pasted}
use Rattle.collector.specs.Search.{index_of}
use Rattle.refusal.specs.Number.{number_of}
use Rattle.refusal.specs.declared.Refusal.{Refusal}
use Rattle.refusal.specs.declared.Refusal.TheVariants.{Impossible, LineTooLong, Unsendable}
use Rattle.frame.specs.Line.{longest, newline}
use Rattle.collector.specs.declared.Collector.{Collector}
use Rattle.collector.specs.declared.Step.{Step}

-- the most bytes that stand before a line's 0A, and that a record holds: "over 126 bytes"
abbrev pub most : ℕ
most = longest - 1

-- "lumps of 0 to 256 bytes"
abbrev pub longest_lump : ℕ
longest_lump = 256

-- how many bytes stand before the first 0A; all of them, where there is none
abbrev pub before : List ℕ → ℕ
before s = index_of newline s

-- an 0A is among some bytes
abbrev pub has_newline : List ℕ → Bool
has_newline s = ltb (before s) (length s)

-- the bytes that a record holds
abbrev pub held_of : Collector → List ℕ
held_of c = take c.count c.held

-- "A collector record that holds over 126 bytes, or an 0A"
unfoldable pub impossible : Collector → Bool
impossible c = pick (ltb most c.count) true (has_newline (held_of c))

-- a record that holds nothing: its bytes are all 0
abbrev pub nothing : Bool → Collector
nothing skipping = record { held = replicate most 0; count = 0; skipping = skipping }

-- the record between two lines
abbrev pub empty : Collector
empty = nothing false

-- the record inside a line that is too long: it holds nothing and remembers that it skips
abbrev pub skips : Collector
skips = nothing true

-- the record when x, with no 0A, comes: it is held while no more than 126 bytes are; with the 127th the line is too long, and its bytes are
-- thrown away; what stands behind the held bytes stays
unfoldable pub longer : Collector → List ℕ → Collector
longer c x =
    pick c.skipping c
    (pick (ltb most (c.count + length x)) skips
    (record { held = pasted c.held c.count x; count = c.count + length x; skipping = false }))

-- what is handed on: a line with its 0A, or the refusal of this number
pub data Handed : Type 0 where
  line : List ℕ → Handed
  refused : ℕ → Handed

-- "counts as refusal 2"
abbrev pub too_long_def : Handed
too_long_def = refused (number_of LineTooLong)

-- what is handed on when x, with no 0A, comes and then an 0A: "A line whose first 127 bytes have no 0A is thrown away up to and including its 0A
-- and counts as refusal 2, once, when that 0A comes."
unfoldable pub ended : Collector → List ℕ → Handed
ended c x =
    pick c.skipping too_long_def
    (pick (ltb most (c.count + length x)) too_long_def
    (line (held_of c ++ (x ++ (newline ∷ [])))))

-- what a step says, in the paper's terms: a line of so many bytes, that the lump is used up, or the refusal of this number
pub data Said : Type 0 where
  line_of : ℕ → Said
  used_up : Said
  refusing : ℕ → Said

-- each answer's meaning
abbrev pub said : Result (Option ℕ) Refusal → Said
said (Ok (Some n)) = line_of n
said (Ok None) = used_up
said (Err r) = refusing (number_of r)

-- all that a step leaves: what it said, the place to go on from, the record and the lent array
pub record Outcome : Type 0 where
  pub says : Said
  pub place : ℕ
  pub collector : Collector
  pub buffer : List ℕ

-- the outcome of a step that gave r and left b in the lent array
abbrev pub outcome : Step → List ℕ → Outcome
outcome r b = record { says = said r.got; place = r.place; collector = r.collector; buffer = b }

-- what is handed on as a step says it: a line stands at the lent array's start, and the bytes after it stay
unfoldable pub saying : Handed → List ℕ → Said × List ℕ
saying (line l) b = (line_of (length l), pasted b 0 l)
saying (refused n) b = (refusing n, b)

-- a refusal that takes nothing and leaves all
abbrev pub keeping : ℕ → Collector → ℕ → List ℕ → Outcome
keeping n c at b = record { says = refusing n; place = at; collector = c; buffer = b }

-- a step through the bytes s, which stand in a lump of so many bytes from place `at` on: up to and including the first 0A, or to the lump's end where
-- there is none
unfoldable pub stepped : Collector → ℕ → ℕ → List ℕ → List ℕ → Outcome
stepped c size at s b =
    pick (has_newline s)
    (record {
      says = (saying (ended c (take (before s) s)) b).0;
      place = at + before s + 1;
      collector = empty;
      buffer = (saying (ended c (take (before s) s)) b).1;
    })
    (record { says = used_up; place = size; collector = longer c s; buffer = b })

-- one step: "A collector record that holds over 126 bytes, or an 0A, is refused 1, before 12."; "A longer lump is refused 12."
unfoldable pub collect : Collector → List ℕ → ℕ → List ℕ → Outcome
collect c lump at b =
    pick (impossible c) (keeping (number_of Impossible) c at b)
    (pick (ltb longest_lump (length lump)) (keeping (number_of Unsendable) c at b)
    (stepped c (length lump) at (drop at lump) b))
