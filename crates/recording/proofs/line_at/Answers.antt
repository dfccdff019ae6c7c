-- `recording::line_at` meets its contract: each return is the definition under the test that led there.
-- Assumes nothing.
use borrow.Author.Tests.{lt-ltb, le-ltb}
use Rattle.laws.proofs.Choice.{pick_yes, pick_no}
use Rattle.recording.specs.Recording.{line_at}
use Rattle.recording.proofs.line_at.Goals as goal

pub returns-then-stop-start : goal.returns-then-stop-start
unfolding line_at
returns-then-stop-start c = simp (← c.two_at-len.ensures.0, lt-ltb _ _ c.if-stop-start.true, pick_yes)

pub returns : goal.returns
unfolding line_at
returns c = simp (← c.two_at-len.ensures.0, le-ltb _ _ c.if-stop-start.false, pick_no)
