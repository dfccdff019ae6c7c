-- What is shown of sender and reader together.
-- Assumes nothing.
use Rattle.std.specs.Prelude.{ℕ, ◌-◌, ◌≤◌, ◌≡◌, true, not, List, [], ◌∷◌, ◌++◌, length, take, replicate}
use Rattle.laws.specs.Choice.{pick}
use Rattle.laws.specs.Bytes.{Bytes, pasted}
use Rattle.laws.specs.Table.{tab}
use Rattle.reader.specs.declared.Reader.{Reader}
use Rattle.reader.specs.declared.Reader.TheVariants.{Idle}
use Rattle.reader.specs.declared.Taken.{Taken}
use Rattle.reader.specs.Reader.{Said, more, body, Outcome, outcome, keeping}
use Rattle.reader.specs.Lines.{Run, feed, Amid}
use Rattle.sender.specs.Sender.{frame_count_def, piece_of, frame_of, cuts, is_frame, sendable, send_frame_def}

-- all frames of a body, 0 to count - 1, as lines
unfoldable pub frames : List ℕ → List (List ℕ)
frames s = tab (frame_of s) 0 (frame_count_def (length s))

-- the raw bytes of each
unfoldable pub pieces : List ℕ → List (List ℕ)
pieces s = tab (piece_of s) 0 (frame_count_def (length s))

-- the answers to them: more until the last frame, which is answered the body's length
abbrev pub answers : List ℕ → List Said
answers s = replicate (frame_count_def (length s) - 1) more ++ (body (length s) ∷ [])

-- what is left where a body s was read back, with these answers: the record idle, the body at the buffer's start, and its other bytes as they
-- were
abbrev pub read_back_def : List Said → List ℕ → List ℕ → Run
read_back_def says s p = record { says = says; reader = Idle; buffer = pasted p 0 s }

-- "A packet of 8 to 65,533 bytes framed by our sender is read back unchanged where its lines are taken in order, the packet buffer has room for it,
-- and record and buffer come back untouched between calls", from every record at first; and with noise anywhere among the lines, each line has its
-- own answer
abbrev pub RoundTrip : Type 0
RoundTrip =
    (s p : List ℕ) (r : Reader) (lines : List (List ℕ)) (says : List Said) → Bytes s → 8 ≤ length s → length s ≤ 65533 → length s ≤ length p
    → Amid (frames s) (answers s) lines says
    → feed lines r p ≡ read_back_def says s p

-- what the sender leaves at the start of any output is the frame, wherever it says that it wrote one
abbrev pub FrameStands : Type 0
FrameStands =
    (s : List ℕ) (k : ℕ) (out : List ℕ) (n count : ℕ) → (send_frame_def s k out).says ≡ is_frame n count
    → (take n (send_frame_def s k out).buffer ≡ frame_of s k) × (n ≡ length (frame_of s k)) × (count ≡ frame_count_def (length s))

-- the sender's formula cuts as the paper says, and gives as many frames as its count
abbrev pub CutsAgree : Type 0
CutsAgree = (s : List ℕ) → 8 ≤ length s → length s ≤ 65533 → pieces s ≡ cuts s

-- the last of some answers, after the answer a
unfoldable pub last_of : Said → List Said → Said
last_of a [] = a
last_of a (b ∷ rest) = last_of b rest

-- the end of a row of calls: the last answer, the record and the packet buffer
abbrev pub end_of : Said → Run → Outcome
end_of a run = record { says = last_of a run.says; reader = run.reader; buffer = run.buffer }

-- the output after lines were written to its start, one after the other
unfoldable pub inked : List (List ℕ) → List ℕ → List ℕ
inked [] out = out
inked (line ∷ lines) out = inked lines (pasted out 0 line)

-- a body's frames sent and taken one after the other: what was said to the last line, the record and the packet buffer; or the sender's refusal 12
unfoldable pub passed : List ℕ → Reader → List ℕ → List ℕ → Outcome
passed s r p out = pick (not (sendable (length s) (length out))) (keeping 12 r p) (end_of more (feed (frames s) r p))

-- the line buffer afterwards
unfoldable pub line_after_def : List ℕ → List ℕ → List ℕ
line_after_def s out = pick (not (sendable (length s) (length out))) out (inked (frames s) out)

-- what sending a body and taking its lines leaves: all of it, and where the body can be sent and the packet buffer has room, the round trip's own
-- conclusion
pub record Passed (s : List ℕ) (r : Reader) (p out : List ℕ) (t : Taken) (p' out' : List ℕ) : Type 0 where
  pub says : outcome t p' ≡ passed s r p out
  pub line : out' ≡ line_after_def s out
  pub back : sendable (length s) (length out) ≡ true → length s ≤ length p
      → outcome t p' ≡ record { says = body (length s); reader = Idle; buffer = pasted p 0 s }
