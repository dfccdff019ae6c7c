-- `encoder::Table::new`: the table is the list of the characters of the first 64 numbers, by computation.
-- Assumes nothing.
use mathlib.Core.Path.{refl}
use Rattle.laws.specs.Table.{tab}
use Rattle.laws.specs.Choice.{pick}
use Rattle.strict_base64.specs.Base64.{char}
use Rattle.encoder.proofs.Table.new.Goals as goal

pub invariant_of-result : goal.invariant_of-result
unfolding tab char pick
invariant_of-result c = record { each = refl }
