-- `crc::Registers::new`: the table is the list of the registers after the first 256 numbers, by computation.
-- Assumes nothing.
use mathlib.Core.Path.{refl}
use Rattle.laws.specs.Table.{tab}
use Rattle.laws.specs.Choice.{pick}
use Rattle.crc.specs.Crc.{shifted, bits, byte}
use Rattle.crc.proofs.Registers.new.Goals as goal

pub invariant_of-result : goal.invariant_of-result
unfolding tab shifted bits byte pick
invariant_of-result c = record { each = refl }
