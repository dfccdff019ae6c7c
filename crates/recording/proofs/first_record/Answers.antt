-- `recording::first_record` meets its contract: each return is the definition under the tests that led there.
-- Assumes nothing.
use Rattle.std.proofs.Common.{arith}
use Rattle.std.proofs.lemmas.Grind.{common_steps}
use Rattle.recording.proofs.Laws.{first_short, first_far, first_no, first_yes}
use Rattle.recording.proofs.first_record.Goals as goal

pub returns-in_err-stop : goal.returns-in_err-stop
returns-in_err-stop c = grind (arith, common_steps, first_short)

pub returns-in_err-place : goal.returns-in_err-place
returns-in_err-place c = grind (arith, common_steps, first_far)

pub returns-then-not-fills : goal.returns-then-not-fills
returns-then-not-fills c = grind (arith, common_steps, first_no)

pub returns : goal.returns
returns c = grind (arith, common_steps, first_yes)
