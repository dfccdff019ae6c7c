-- `laws::put` meets its contract: the copy fills the start of the part that begins at `at`.
-- Assumes nothing.
use Rattle.laws.proofs.Lists.{filled_part}
use Rattle.laws.proofs.put.Goals as goal

pub returns : goal.returns
returns c = filled_part c.args.buf.now c.args.at c.args.src.now c.copy_from_slice.new.self c.copy_from_slice.ensures.after
