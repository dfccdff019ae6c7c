-- `recording::four_at` meets its contract: two numbers of two bytes, the first of which is the high one.
-- Assumes nothing.
use Rattle.std.proofs.Common.{arith}
use Rattle.recording.proofs.four_at.Goals as goal

pub returns : goal.returns
returns c = (omega (arith, c.two_at.ensures, c.two_at-2.ensures), omega (arith, c.two_at.ensures, c.two_at-2.ensures))
