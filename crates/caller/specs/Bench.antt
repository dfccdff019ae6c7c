-- The text of a replay, for a caller in C: bg_write_transcript, after a bg_replay that returned 0, writes "a line per 3E record: its number (from 0, among
-- 3E records), the refusal or 0, the reply's rc or `-`; then `end` and n, or `end none`".
-- Assumes nothing.
use Rattle.std.specs.Prelude.{ℕ, ◌+◌, ◌*◌, ◌≤◌, ◌≡◌, List, [], ◌∷◌, ◌++◌, length}
use Rattle.std.proofs.Math.Option.{some}
use Rattle.laws.specs.Choice.{pick}
use Rattle.session.specs.declared.Session.{Session}
use Rattle.recording.specs.Recording.{Entry, records_of}
use Rattle.feed.specs.Feed.{Bench, Answer}
use Rattle.replay.specs.Replay.{fed, fresh, replayed}
use Rattle.transcript.specs.Transcript.{line_text, end_text, transcript}

-- the lines of answers, of which the first has the number k
unfoldable pub printed : ℕ → List Answer → List ℕ
printed k [] = []
printed k (a ∷ says) = line_text k a.refusal a.replied a.rc ++ printed (k + 1) says

-- how many records are of lines to the controller
unfoldable pub lines_to : List Entry → ℕ
lines_to [] = 0
lines_to (e ∷ es) = pick e.is_to_controller 1 0 + lines_to es

-- of a recording with these records, and room for the answers: as many answers as lines to the controller, and the text is theirs in order
abbrev pub ReplayPrinted : Type 0
ReplayPrinted =
    (b : Bench) (answers : List ℕ) (count : ℕ) (file : List ℕ) (es : List Entry) (s : Session) → records_of file ≡ some es
    → 4 * length es ≤ length answers
    → ((replayed b answers count file).count ≡ lines_to es)
    × (transcript (replayed b answers count file).answers (replayed b answers count file).count s ≡ printed 0 (fed es (fresh b)).says ++ end_text s)
