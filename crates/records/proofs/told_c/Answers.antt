-- `records::told_c` meets its contract: the packet's length is small by its precondition.
-- Assumes nothing.
use mathlib.Core.Path.{ap}
use native.Mathlib.Omega.{arith}
use Rattle.host.specs.Write.{told}
use Rattle.records.proofs.told_c.Goals as goal

pub overflow_cast-size : goal.overflow_cast-size
overflow_cast-size c = omega (arith, c.requires _ (ap told c.in-Ok.is))
