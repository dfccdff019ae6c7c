-- `sender::start_of` meets its contract: it is the lesser of two numbers.
-- Assumes nothing.
use Rattle.std.proofs.Common.{arith}
use Rattle.std.proofs.lemmas.Grind.{common_steps}
use Rattle.sender.specs.Sender.{start_of}
use Rattle.sender.proofs.start_of.Goals as goal

pub returns : goal.returns
unfolding start_of
returns c = grind (arith, common_steps)
