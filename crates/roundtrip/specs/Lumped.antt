-- What the reader is fed where the bytes come in lumps: it does not depend on the lumps, and a body that was sent is read back.
-- Assumes nothing.
use Rattle.std.specs.Prelude.{ℕ, ◌+◌, ◌≤◌, ◌≡◌, List, [], ◌∷◌, ◌++◌, length}
use Rattle.laws.specs.Bytes.{Bytes}
use Rattle.frame.specs.Line.{newline}
use Rattle.collector.specs.declared.Collector.{Collector}
use Rattle.collector.specs.Collector as collecting
use Rattle.collector.specs.Lumps.{cut, joined, Lumps}
use Rattle.reader.specs.declared.Reader.{Reader}
use Rattle.reader.specs.Reader.{Said, refused, take_line_def}
use Rattle.reader.specs.Lines.{Run, saying, feed, Amid}
use Rattle.roundtrip.specs.RoundTrip.{frames, answers, read_back_def}

-- what is said to what the collector hands on: the reader takes each line; a refusal of the collector's stands for itself, and the reader stays as it was
unfoldable pub hear : List collecting.Handed → Reader → List ℕ → Run
hear [] r p = record { says = []; reader = r; buffer = p }
hear (collecting.line l ∷ hs) r p = saying (take_line_def r l p).says (hear hs (take_line_def r l p).reader (take_line_def r l p).buffer)
hear (collecting.refused n ∷ hs) r p = saying (refused n) (hear hs r p)

-- the lines among a stream's pieces: each has its 0A again, but for the last, which has none yet
unfoldable pub lines_in : List (List ℕ) → List (List ℕ)
lines_in [] = []
lines_in (p ∷ []) = []
lines_in (p ∷ (q ∷ ps)) = (p ++ (newline ∷ [])) ∷ lines_in (q ∷ ps)

-- what is said depends on the stream alone: it is what the reader says to the stream's own lines, however long they are
abbrev pub LumpsHeard : Type 0
LumpsHeard =
    (lumps : List (List ℕ)) (hs : List collecting.Handed) (d : Collector) (r : Reader) (p : List ℕ) → Lumps collecting.empty lumps hs d
    → hear hs r p ≡ feed (lines_in (cut (joined lumps))) r p

-- lines that end with their first 0A each
pub data Whole : List (List ℕ) → Type 0 where
  none : Whole []
  next : {line : List ℕ} {lines : List (List ℕ)} → collecting.before line + 1 ≡ length line → Whole lines → Whole (line ∷ lines)

-- such are the frames of every body
abbrev pub FramesWhole : Type 0
FramesWhole = (s : List ℕ) → Whole (frames s)

-- the round trip over lumps: a body's frames, with noise anywhere among them, sent as one stream that is lumped anyhow, are read back, each line
-- with its own answer; and the collector then holds nothing
abbrev pub LumpedRoundTrip : Type 0
LumpedRoundTrip =
    (s p : List ℕ) (r : Reader) (lines : List (List ℕ)) (says : List Said) (lumps : List (List ℕ)) (hs : List collecting.Handed) (d : Collector)
    → Bytes s → 8 ≤ length s → length s ≤ 65533 → length s ≤ length p
    → Amid (frames s) (answers s) lines says → Whole lines → joined lumps ≡ joined lines → Lumps collecting.empty lumps hs d
    → (hear hs r p ≡ read_back_def says s p) × (d ≡ collecting.empty)
