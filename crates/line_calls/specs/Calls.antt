-- What each call of the line returns, and what every lent number and byte holds afterwards.
-- Assumes nothing.
use Rattle.std.specs.Prelude.{ℕ, List, [], ◌∷◌}
use Rattle.laws.specs.Choice.{pick}
use Rattle.collector.specs.Collector as collecting
use Rattle.reader.specs.Reader as reading
use Rattle.sender.specs.Sender as sending
use Rattle.records.specs.Records.{collector_of, collector_numbers, reader_of}
use Rattle.records.specs.Results.{step_result_def, step_length_def, went_on_def, TookLine, took_by}

-- bg_collect: the result, the record's numbers and bytes, the line array and the two numbers
pub record CollectedC : Type 0 where
  pub result : ℕ
  pub record_after : List ℕ
  pub held : List ℕ
  pub line : List ℕ
  pub got : List ℕ

-- by what the step leaves
unfoldable pub collected_by : List ℕ → List ℕ → List ℕ → collecting.Outcome → CollectedC
collected_by r held got o =
    pick (went_on_def (step_result_def o.says))
    (record {
      result = step_result_def o.says;
      record_after = collector_numbers o.collector;
      held = o.collector.held;
      line = o.buffer;
      got = step_length_def o.says ∷ o.place ∷ [];
    })
    (record { result = step_result_def o.says; record_after = r; held = held; line = o.buffer; got = got })

unfoldable pub collected_c : List ℕ → List ℕ → List ℕ → ℕ → List ℕ → List ℕ → CollectedC
collected_c r held lump at line got = collected_by r held got (collecting.collect (collector_of r held) lump at line)

-- bg_take_line: by what the reader said of the record that was lent
unfoldable pub took_line : List ℕ → List ℕ → List ℕ → ℕ → ℕ → TookLine
took_line r line p b i =
    let o : reading.Outcome = reading.take_line_def (reader_of r) line p in
    took_by r b i o.reader o.buffer o.says

-- bg_send_frame: the result, the output and the two numbers
pub record SentFrame : Type 0 where
  pub result : ℕ
  pub out : List ℕ
  pub sent : List ℕ

unfoldable pub sent_by : List ℕ → List ℕ → sending.Told → SentFrame
sent_by sent out (sending.is_frame n count) = record { result = 0; out = out; sent = n ∷ count ∷ [] }
sent_by sent out (sending.refused n) = record { result = n; out = out; sent = sent }

unfoldable pub sent_frame : List ℕ → ℕ → List ℕ → List ℕ → SentFrame
sent_frame body k out sent =
    let o : sending.Outcome = sending.send_frame_def body k out in
    sent_by sent o.buffer o.says
