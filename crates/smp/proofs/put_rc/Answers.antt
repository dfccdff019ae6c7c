-- `smp::put_rc` meets its contract: the map's head and then its pair.
-- Assumes nothing.
use mathlib.Core.List.{◌++◌}
use Rattle.cbor.specs.Write.{unsigned, text_of, map_of}
use Rattle.fields.specs.Keys.{name_rc}
use Rattle.writer.proofs.Steps.{room_second, wrote_twice}
use Rattle.smp.proofs.put_rc.Goals as goal

pub put_number-requires : goal.put_number-requires
put_number-requires c =
    rw c.from.ensures (room_second _ _ (map_of 1) (text_of name_rc ++ unsigned c.args.n) c.requires c.put_head.ensures)

pub returns : goal.returns
returns c =
    wrote_twice _ _ _ (map_of 1) (text_of name_rc ++ unsigned c.args.n) c.requires c.put_head.ensures (rw c.from.ensures at c.put_number.ensures)
