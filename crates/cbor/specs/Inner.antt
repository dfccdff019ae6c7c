-- Only proofs need this file: what was read lies within the bytes that it was read from, with a head no shorter than the one that a writer would use.
-- Assumes nothing.
use Rattle.std.specs.Prelude.{List, ℕ, ◌+◌, ◌≤◌, ◌<◌, length, Option, Some, None}
use Prim.{Unit}
use Rattle.cbor.specs.declared.Value.{Value}
use Rattle.cbor.specs.declared.Value.TheVariants.{Unsigned, Negative, Bytes, Text, Flag, Null}
use Rattle.laws.specs.declared.Run.{Run}
use Rattle.cbor.specs.declared.Head.{Head}
use Rattle.cbor.specs.declared.Item.{Item}
use Rattle.cbor.specs.Write.{head_len_def}

-- a head, an item and a run by their parts
abbrev pub head_is : ℕ → ℕ → ℕ → Option Head
head_is m n at = Some (record { major = m; argument = n; next = at })

abbrev pub item_is : Value → ℕ → Option Item
item_is v at = Some (record { value = v; next = at })

abbrev pub run_is : ℕ → ℕ → Run
run_is at n = record { start = at; len = n }

-- a string's bytes are within s; another value has none
abbrev pub Inside : List ℕ → Value → Type 0
Inside s (Unsigned n) = Unit {0}
Inside s (Negative n) = Unit {0}
Inside s (Bytes r) = r.start + r.len ≤ length s
Inside s (Text r) = r.start + r.len ≤ length s
Inside s (Flag b) = Unit {0}
Inside s Null = Unit {0}

-- a head at a place ends after it, and within s
abbrev pub HeadWithin : List ℕ → ℕ → Option Head → Type 0
HeadWithin s at None = Unit {0}
HeadWithin s at (Some h) = (at < h.next) × (h.next ≤ length s)

-- an item at a place ends after it, and within s, and so does its string
abbrev pub ItemWithin : List ℕ → ℕ → Option Item → Type 0
ItemWithin s at None = Unit {0}
ItemWithin s at (Some i) = (at < i.next) × (i.next ≤ length s) × Inside s i.value

-- a head at a place is as long as the shortest, or longer
abbrev pub HeadLeast : ℕ → Option Head → Type 0
HeadLeast at None = Unit {0}
HeadLeast at (Some h) = at + head_len_def h.argument ≤ h.next

-- a string whose head is at a place starts as far after it, or further; another value has no start
abbrev pub StringLeast : ℕ → Value → Type 0
StringLeast at (Unsigned n) = Unit {0}
StringLeast at (Negative n) = Unit {0}
StringLeast at (Bytes r) = at + head_len_def r.len ≤ r.start
StringLeast at (Text r) = at + head_len_def r.len ≤ r.start
StringLeast at (Flag b) = Unit {0}
StringLeast at Null = Unit {0}

-- so does the string of an item at a place
abbrev pub ItemLeast : ℕ → Option Item → Type 0
ItemLeast at None = Unit {0}
ItemLeast at (Some i) = StringLeast at i.value
