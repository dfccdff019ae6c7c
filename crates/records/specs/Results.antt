-- A result as it is handed over: of a step of the collector, of a line, of the request call and of a request writer.
-- Assumes nothing.
use Rattle.std.specs.Prelude.{ℕ, Bool, true, not, List, [], ◌∷◌, eqb}
use Rattle.laws.specs.Choice.{pick, both}
use Rattle.refusal.specs.Number.{number_of}
use Rattle.refusal.specs.declared.Refusal.TheVariants.{BadText}
use Rattle.collector.specs.Collector as collecting
use Rattle.reader.specs.declared.Reader.{Reader}
use Rattle.reader.specs.Reader as reading
use Rattle.session.specs.Session.{State}
use Rattle.controller.specs.Handle as handling
use Rattle.host.specs.Write as writing
use Rattle.records.specs.Records.{reader_numbers, session_numbers}

-- a step's result: 0, or the refusal's number
unfoldable pub step_result_def : collecting.Said → ℕ
step_result_def (collecting.line_of n) = 0
step_result_def collecting.used_up = 0
step_result_def (collecting.refusing n) = n

-- the length of the line that a step gave, or 0
unfoldable pub step_length_def : collecting.Said → ℕ
step_length_def (collecting.line_of n) = n
step_length_def collecting.used_up = 0
step_length_def (collecting.refusing n) = 0

-- a step with this result went on in its lump: it took bytes, or the lump is used up; at 1 and 12 all stays
abbrev pub went_on_def : ℕ → Bool
went_on_def n = pick (eqb n 0) true (eqb n 2)

-- refusals 2, 3 and 5 leave the record as it was lent
abbrev pub keeps_record_def : ℕ → Bool
keeps_record_def n = not (both (not (eqb n 2)) (both (not (eqb n 3)) (not (eqb n 5))))

-- bg_take_line: the result, the record, the packet buffer, *body and *place
pub record TookLine : Type 0 where
  pub result : ℕ
  pub record_after : List ℕ
  pub packet : List ℕ
  pub body : ℕ
  pub place : ℕ

-- by what the reader said; only bad text has a place, which is carried unchanged
unfoldable pub took_by : List ℕ → ℕ → ℕ → Reader → List ℕ → reading.Said → TookLine
took_by r b i reader p reading.more = record { result = 0; record_after = reader_numbers reader; packet = p; body = 0; place = i }
took_by r b i reader p (reading.body n) = record { result = 0; record_after = reader_numbers reader; packet = p; body = n; place = i }
took_by r b i reader p (reading.refused n) =
    record { result = n; record_after = pick (keeps_record_def n) r (reader_numbers reader); packet = p; body = b; place = i }
took_by r b i reader p (reading.is_bad_text j) =
    record { result = number_of BadText; record_after = reader_numbers reader; packet = p; body = b; place = j }

-- bg_handle: the result, the memory, the session numbers and the tag, the reply buffer and the two numbers
pub record HandledC : Type 0 where
  pub result : ℕ
  pub memory : List ℕ
  pub session : List ℕ
  pub tag : List ℕ
  pub reply : List ℕ
  pub answer : List ℕ

-- a reply was written: the session record is that of the state after
abbrev pub replied_c : ℕ → ℕ → State → List ℕ → HandledC
replied_c n reset st b =
    record { result = 0; memory = st.memory; session = session_numbers st.session; tag = st.tag; reply = b; answer = n ∷ reset ∷ [] }

-- by what the request call said
unfoldable pub handled_by : List ℕ → List ℕ → handling.Outcome → handling.Said → HandledC
handled_by s a o (handling.replied n) = replied_c n 0 o.state o.reply
handled_by s a o (handling.reset_asked n) = replied_c n 1 o.state o.reply
handled_by s a o (handling.refused n) =
    record { result = n; memory = o.state.memory; session = s; tag = o.state.tag; reply = o.reply; answer = a }

-- the request writers: the result, the output and *packet_len
pub record WroteC : Type 0 where
  pub result : ℕ
  pub out : List ℕ
  pub size : ℕ

unfoldable pub wrote_by : ℕ → List ℕ → writing.Told → WroteC
wrote_by n out (writing.packet size) = record { result = 0; out = out; size = size }
wrote_by n out (writing.refused r) = record { result = r; out = out; size = n }
