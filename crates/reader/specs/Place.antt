-- The place that refusal 4 gives, in the paper's words: "a place in the line, from 0: the first character at which no well-formed text can begin with
-- what stands up to there, or the place of the 0A if the text is only too short".
-- Assumes nothing.
use Rattle.std.specs.Prelude.{ℕ, ◌+◌, ◌-◌, ◌≤◌, ◌<◌, ◌≡◌, List, length, take, drop}
use Rattle.std.proofs.Math.Option.{none}
use Rattle.strict_base64.specs.Base64.{decode}
use Rattle.fault.specs.Fault.{Begins}
use Rattle.frame.specs.Line.{text_of}
use Rattle.reader.specs.declared.Reader.{Reader}
use Rattle.reader.specs.Reader.{is_bad_text, take_line_def}

-- what stands behind a line's marker up to place j, the character there too
abbrev pub up_to : List ℕ → ℕ → List ℕ
up_to line j = take (j - 1) (drop 2 line)

-- i is the place at which the line's text, which is not well formed, goes wrong
pub record PlaceIn (line : List ℕ) (i : ℕ) : Type 0 where
  -- the text is not well formed
  pub bad : decode (text_of line) ≡ none
  -- a place in the text, or that of the 0A
  pub within : (2 ≤ i) × (i < length line)
  -- some well-formed text begins with what stands up to each character before it
  pub before : (j : ℕ) → 2 ≤ j → j < i → Begins (up_to line j)
  -- and none with what stands up to it, unless it is the place of the 0A
  pub there : i + 1 < length line → Begins (up_to line i) → ⊥

-- the place that the reader gives is that one
abbrev pub PlaceGiven : Type 0
PlaceGiven = (r : Reader) (line p : List ℕ) (i : ℕ) → (take_line_def r line p).says ≡ is_bad_text i → PlaceIn line i
