-- `decoder::Table::new`: the table is the list of the values of the first 256 numbers, by computation.
-- Assumes nothing.
use mathlib.Core.Path.{refl}
use Rattle.laws.specs.Table.{tab}
use Rattle.laws.specs.Choice.{pick, both}
use Rattle.strict_base64.specs.Base64.{value}
use Rattle.decoder.proofs.Table.new.Goals as goal

pub invariant_of-result : goal.invariant_of-result
unfolding tab value pick both
invariant_of-result c = record { each = refl }
