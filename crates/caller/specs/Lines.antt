-- The round trip for a caller in C: the lines that bg_send_frame wrote, taken by bg_take_line one after the other, where record and packet buffer
-- come back untouched between calls.
-- Assumes nothing.
use Rattle.std.specs.Prelude.{ℕ, ◌≤◌, ◌≡◌, List, [], ◌∷◌, eqb, length, get_or, take}
use Rattle.laws.specs.Choice.{pick}
use Rattle.laws.specs.Bytes.{Bytes}
use Rattle.reader.specs.Reader.{Said, more, body, refused, is_bad_text}
use Rattle.reader.specs.Place.{PlaceIn}
use Rattle.reader.specs.Lines.{Run, feed, Amid}
use Rattle.sender.specs.Sender.{frame_count_def, frame_of}
use Rattle.roundtrip.specs.RoundTrip.{frames, answers, read_back_def}
use Rattle.records.specs.Records.{reader_of}
use Rattle.records.specs.Results.{TookLine}
use Rattle.line_calls.specs.Calls.{took_line, sent_frame}

-- what a result of bg_take_line, *body and *place mean together
unfoldable pub said_of : ℕ → ℕ → ℕ → Said
said_of result n i = pick (eqb result 0) (pick (eqb n 0) more (body n)) (pick (eqb result 4) (is_bad_text i) (refused result))

-- what a row of calls leaves: what each said, the record and the packet buffer
pub record Row : Type 0 where
  pub says : List Said
  pub reader : List ℕ
  pub packet : List ℕ

-- one more answer before those of the lines after it
unfoldable pub saying : Said → Row → Row
saying a row = record { says = a ∷ row.says; reader = row.reader; packet = row.packet }

-- the lines of a row taken in order, each call handed what the one before it left
unfoldable pub taking : List (List ℕ) → List ℕ → List ℕ → ℕ → ℕ → Row
taking [] r p b i = record { says = []; reader = r; packet = p }
taking (line ∷ lines) r p b i =
    let t : TookLine = took_line r line p b i in
    saying (said_of t.result t.body t.place) (taking lines t.record_after t.packet t.body t.place)

-- what a row stands for
abbrev pub run_in_def : Row → Run
run_in_def row = record { says = row.says; reader = reader_of row.reader; buffer = row.packet }

-- a row of calls takes the lines as the reader does, from any record and numbers at first; the places of bad text are the reader's
abbrev pub RowTakes : Type 0
RowTakes = (lines : List (List ℕ)) (r p : List ℕ) (b i : ℕ) → run_in_def (taking lines r p b i) ≡ feed lines (reader_of r) p

-- where bg_send_frame returns 0, the first sent[0] bytes of its output are the frame, and sent[1] is the frame count
abbrev pub LineWritten : Type 0
LineWritten =
    (s : List ℕ) (k : ℕ) (out sent : List ℕ) → (sent_frame s k out sent).result ≡ 0
    → (take (get_or (sent_frame s k out sent).sent 0 0) (sent_frame s k out sent).out ≡ frame_of s k)
    × (get_or (sent_frame s k out sent).sent 1 0 ≡ frame_count_def (length s))

-- a body that was sent as lines is read back, with noise anywhere among the lines
abbrev pub CallerRoundTrip : Type 0
CallerRoundTrip =
    (s r p : List ℕ) (b i : ℕ) (lines : List (List ℕ)) (says : List Said) → Bytes s → 8 ≤ length s → length s ≤ 65533 → length s ≤ length p
    → Amid (frames s) (answers s) lines says
    → run_in_def (taking lines r p b i) ≡ read_back_def says s p

-- bg_take_line gives a place with refusal 4 alone, and it is that of the paper's sentence; else *place stays
abbrev pub PlaceTold : Type 0
PlaceTold =
    (r line p : List ℕ) (b i : ℕ)
    → ((took_line r line p b i).result ≡ 4 → PlaceIn line (took_line r line p b i).place)
    × (((took_line r line p b i).result ≡ 4 → ⊥) → (took_line r line p b i).place ≡ i)
