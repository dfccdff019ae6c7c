-- What the bench's calls return, and what every lent number and byte holds afterwards.
-- Assumes nothing.
use Rattle.std.specs.Prelude.{ℕ, Bool, List, [], ◌∷◌}
use Rattle.laws.specs.Choice.{pick}
use Rattle.recording.specs.Recording as recording
use Rattle.transcript.specs.Transcript as writing
use Rattle.records.specs.Records.{session_of}

-- bg_first_record: the result, and the first record's place with the number of records
pub record FirstC : Type 0 where
  pub result : ℕ
  pub first : List ℕ

unfoldable pub first_by_def : List ℕ → recording.Begun → FirstC
first_by_def was (recording.first_at place number) = record { result = 0; first = place ∷ number ∷ [] }
first_by_def was (recording.unreadable n) = record { result = n; first = was }

unfoldable pub first_c : List ℕ → List ℕ → FirstC
first_c file was = first_by_def was (recording.first_record_def file)

-- bg_next_record: the result, and the record's first byte with the start and the length of its line
pub record RecordC : Type 0 where
  pub result : ℕ
  pub numbers : List ℕ

-- "one byte, 3E to the controller or 3C from it"
abbrev pub kind_number_def : Bool → ℕ
kind_number_def to = pick to 0x3E 0x3C

unfoldable pub record_by : ℕ → List ℕ → recording.Said → RecordC
record_by at was (recording.is_record to start len) = record { result = 0; numbers = kind_number_def to ∷ start ∷ len ∷ [] }
record_by at was recording.over = record { result = 0; numbers = 0 ∷ at ∷ 0 ∷ [] }
record_by at was (recording.refused n) = record { result = n; numbers = was }

unfoldable pub record_c : List ℕ → ℕ → List ℕ → RecordC
record_c file at was = record_by at was (recording.step_at_def file at)

-- bg_write_transcript: the result, the output and *text_len
pub record TranscriptC : Type 0 where
  pub result : ℕ
  pub out : List ℕ
  pub size : ℕ

unfoldable pub transcript_by : ℕ → List ℕ → writing.Said → TranscriptC
transcript_by was out (writing.text n) = record { result = 0; out = out; size = n }
transcript_by was out (writing.refused n) = record { result = n; out = out; size = was }

unfoldable pub transcript_c : List ℕ → ℕ → List ℕ → List ℕ → ℕ → TranscriptC
transcript_c answers count s out was =
    let o : writing.Outcome = writing.written answers count (session_of s) out in
    transcript_by was o.out o.says
