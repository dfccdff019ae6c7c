-- `smp::put_number` meets its contract: the key and then the number.
-- Assumes nothing.
use lib.Dec.{lit<}
use Rattle.cbor.specs.Write.{unsigned, text_of}
use Rattle.writer.proofs.Steps.{room_second, wrote_twice}
use Rattle.smp.proofs.put_number.Goals as goal

pub put_head-requires : goal.put_head-requires
put_head-requires c = (lit< tt, room_second _ _ (text_of c.args.name.now) (unsigned c.args.n) c.requires c.put_text.ensures)

pub returns : goal.returns
returns c = wrote_twice _ _ _ (text_of c.args.name.now) (unsigned c.args.n) c.requires c.put_text.ensures c.put_head.ensures
