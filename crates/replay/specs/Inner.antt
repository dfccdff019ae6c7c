-- Only proofs need this file: what the inner functions of the replay promise each other.
-- Assumes nothing.
use Rattle.std.specs.Prelude.{ℕ, ◌≡◌, ◌+◌, ◌*◌, ◌≤◌, List, length}
use Rattle.laws.specs.Bytes.{pasted}
use Rattle.recording.specs.Recording.{Entry, Reads}
use Rattle.feed.specs.declared.Rig.{Rig}
use Rattle.feed.specs.Feed.{Answer}
use Rattle.feed.specs.Rig.{bench_in}
use Rattle.replay.specs.declared.Answers.{Answers}
use Rattle.replay.specs.Replay.{fed, numbers, Replayed, ending}

-- as many records as are said stand from a place on, and the reader gives them
pub record Ahead (file : List ℕ) (place number : ℕ) : Type 0 where
  pub entries : List Entry
  pub reads : Reads file place entries
  pub many : length entries ≡ number

-- there is room for this many answers more
abbrev pub Room : Answers → ℕ → Type 0
Room a more = 4 * (a.count + more) ≤ length a.numbers.now

-- one answer more stands behind the others, in the same array
pub record Pushed (before after : Answers) (a : Answer) : Type 0 where
  pub same_numbers : after.numbers.ghost_name ≡ before.numbers.ghost_name
  pub numbers_after : after.numbers.now ≡ pasted before.numbers.now (4 * before.count) (numbers a)
  pub one_more : after.count ≡ before.count + 1

-- at most so many answers more stand in the same array, which is as long as it was
pub record Grown (before after : Answers) (most : ℕ) : Type 0 where
  pub same_numbers : after.numbers.ghost_name ≡ before.numbers.ghost_name
  pub as_long : length after.numbers.now ≡ length before.numbers.now
  pub at_most : after.count ≤ before.count + most

-- where a replay ends with these records ahead of it
abbrev pub leads_to : Rig → Answers → List Entry → Replayed
leads_to r a es = ending a.count a.numbers.now (fed es (bench_in r))

-- what a replay comes to that is over
abbrev pub came_to : Rig → Answers → Replayed
came_to r a = record { result = 0; bench = bench_in r; answers = a.numbers.now; count = a.count }
