-- `recording::step_at` meets its contract: each return is the definition under the tests that led there.
-- Assumes nothing.
use Rattle.std.proofs.Common.{arith}
use Rattle.std.proofs.lemmas.Grind.{common_steps}
use Rattle.recording.proofs.Laws.{step_short, step_over, step_cut, step_whole}
use Rattle.recording.proofs.step_at.Goals as goal

pub returns-in_err-stop : goal.returns-in_err-stop
returns-in_err-stop c = grind (arith, common_steps, step_short)

pub returns-then-at-stop : goal.returns-then-at-stop
returns-then-at-stop c = grind (arith, common_steps, step_over)

pub returns-in_err-record : goal.returns-in_err-record
returns-in_err-record c = grind (arith, common_steps, step_cut)

pub returns : goal.returns
returns c = grind (arith, common_steps, step_whole)
