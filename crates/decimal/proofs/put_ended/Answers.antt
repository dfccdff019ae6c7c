-- `decimal::put_ended` meets its contract: the number and then one byte.
-- Assumes nothing.
use Rattle.std.proofs.Common.{[], ◌∷◌}
use Rattle.writer.proofs.Steps.{room_second, wrote_twice}
use Rattle.decimal.specs.Decimal.{decimal}
use Rattle.decimal.proofs.put_ended.Goals as goal

pub byte-requires : goal.byte-requires
byte-requires c = room_second _ _ (decimal c.args.more c.args.n) (c.args.last ∷ []) c.requires c.put_decimal.ensures

pub returns : goal.returns
returns c = wrote_twice _ _ _ (decimal c.args.more c.args.n) (c.args.last ∷ []) c.requires c.put_decimal.ensures c.byte.ensures
