-- Parts of a list of bytes that are named by where they start and how long they are.
-- Assumes nothing.
use Prim.{Unit}
use Rattle.std.specs.Prelude.{ℕ, ◌+◌, ◌≤◌, List, [], length, take, drop, Option, Some, None}
use Rattle.laws.specs.declared.Run.{Run}

-- the part of s that a start and a length name
abbrev pub part_of : List ℕ → ℕ → ℕ → List ℕ
part_of s start len = take len (drop start s)

-- the bytes of a run of s; none where it is left out
unfoldable pub bytes_in : List ℕ → Option Run → List ℕ
bytes_in s None = []
bytes_in s (Some r) = part_of s r.start r.len

-- a run that is there lies within s
abbrev pub Within : List ℕ → Option Run → Type 0
Within s None = Unit {0}
Within s (Some r) = r.start + r.len ≤ length s
