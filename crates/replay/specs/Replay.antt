-- The replay of a recording, for every file and all that is lent: "Its end state is that of feeding the same lines by hand."
-- Assumes nothing.
use Rattle.std.specs.Prelude.{ℕ, ◌+◌, ◌*◌, List, [], ◌∷◌, ◌++◌, ltb, length, replicate}
use Rattle.std.proofs.Math.Option.{Option, none, some}
use Rattle.laws.specs.Choice.{pick}
use Rattle.laws.specs.Bytes.{pasted}
use Rattle.recording.specs.Recording.{Entry, records_of}
use Rattle.feed.specs.Feed.{Answer, Bench, feed_line_def}

-- what lines leave: what was said of each, and the bench
pub record Run : Type 0 where
  pub says : List Answer
  pub bench : Bench

-- one more answer before those of the lines after it
unfoldable pub saying : Answer → Run → Run
saying a run = record { says = a ∷ run.says; bench = run.bench }

-- the records of a recording, one after the other: a line to the controller is fed, a line from it changes nothing
unfoldable pub fed : List Entry → Bench → Run
fed [] b = record { says = []; bench = b }
fed (e ∷ es) b = pick e.is_to_controller (saying (feed_line_def b e.line).says (fed es (feed_line_def b e.line).bench)) (fed es b)

-- an answer in four numbers
abbrev pub numbers : Answer → List ℕ
numbers a = a.refusal ∷ a.replied ∷ a.rc ∷ a.place ∷ []

-- the numbers of answers, one after the other
unfoldable pub all_numbers : List Answer → List ℕ
all_numbers [] = []
all_numbers (a ∷ says) = numbers a ++ all_numbers says

-- bg_replay: the result, the bench, the answers' numbers and *count
pub record Replayed : Type 0 where
  pub result : ℕ
  pub bench : Bench
  pub answers : List ℕ
  pub count : ℕ

-- "a fresh .. memory of 255s", no session, an idle reader, and the buffers as they are lent
abbrev pub fresh : Bench → Bench
fresh b = record {
  memory = replicate (length b.memory) 255;
  session = replicate 4 0;
  tag = replicate 32 0;
  reader = replicate 4 0;
  packet = b.packet;
  reply = b.reply;
}

-- where lines end that were fed after k others: their answers' numbers stand behind those of the others
unfoldable pub ending : ℕ → List ℕ → Run → Replayed
ending k answers run =
    record { result = 0; bench = run.bench; answers = pasted answers (4 * k) (all_numbers run.says); count = k + length run.says }

-- refusal 12: everything stays
abbrev pub kept : Bench → List ℕ → ℕ → Replayed
kept b answers count = record { result = 12; bench = b; answers = answers; count = count }

-- the replay of the records of a file: refused where it has none that are readable, or there is no room for an answer to each
unfoldable pub replayed_by : Bench → List ℕ → ℕ → Option (List Entry) → Replayed
replayed_by b answers count none = kept b answers count
replayed_by b answers count (some es) = pick (ltb (length answers) (4 * length es)) (kept b answers count) (ending 0 answers (fed es (fresh b)))

-- the replay of a file
abbrev pub replayed : Bench → List ℕ → ℕ → List ℕ → Replayed
replayed b answers count file = replayed_by b answers count (records_of file)
