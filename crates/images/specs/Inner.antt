-- Only proofs need this file: what lies within a region.
-- Assumes nothing.
use Prim.{Unit}
use Rattle.std.specs.Prelude.{ℕ, ◌+◌, ◌≤◌, List, length, Option, Some, None}
use Rattle.images.specs.declared.Image.{Image}

-- an image's hash lies within its region
abbrev pub ImageWithin : List ℕ → Option Image → Type 0
ImageWithin s None = Unit {0}
ImageWithin s (Some i) = i.hash + 32 ≤ length s
