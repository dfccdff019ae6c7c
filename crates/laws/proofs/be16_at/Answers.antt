-- `laws::be16_at` meets its contract: the byte at the place and the one after it.
-- Assumes nothing.
use Rattle.std.proofs.Common.{arith}
use Rattle.std.proofs.lemmas.Grind.{common_steps}
use Rattle.laws.specs.Bytes.{of_be16}
use Rattle.laws.proofs.be16_at.Goals as goal

pub returns : goal.returns
unfolding of_be16
returns c = grind (arith, common_steps)
