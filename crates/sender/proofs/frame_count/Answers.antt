-- `sender::frame_count` meets its contract: its tests are those of the definition.
-- Assumes nothing.
use mathlib.Core.Path.{sym}
use native.Mathlib.Omega.{arith}
use Rattle.sender.proofs.Count.{count_one, count_two, count_many}
use Rattle.sender.proofs.frame_count.Goals as goal

pub returns-then-b-lt-SEVERAL_FROM : goal.returns-then-b-lt-SEVERAL_FROM
returns-then-b-lt-SEVERAL_FROM c = (sym (count_one c.args.b (omega arith)), omega arith)

pub returns-then-b-le-TWO_FRAMES : goal.returns-then-b-le-TWO_FRAMES
returns-then-b-le-TWO_FRAMES c = (sym (count_two c.args.b (omega arith) (omega arith)), omega arith)

pub returns : goal.returns
returns c = (omega (arith, count_many c.args.b (omega arith)), omega arith)
