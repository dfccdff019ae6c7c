-- `host::put_echo` meets its contract: the map's head and then its pair.
-- Assumes nothing.
use mathlib.Core.List.{◌++◌}
use lib.Dec.{lit<}
use Rattle.cbor.specs.Write.{text_of, map_of}
use Rattle.fields.specs.Keys.{name_d}
use Rattle.writer.proofs.Steps.{room_first}
use Rattle.host.specs.Write.{echo_map}
use Rattle.smp.proofs.Writing.{second_room, third_room, wrote_three}
use Rattle.host.proofs.put_echo.Goals as goal

pub put_head-requires : goal.put_head-requires
unfolding echo_map
put_head-requires c = (lit< tt, room_first c.args.out.now (map_of 1) (text_of name_d ++ text_of c.args.text.now) c.requires)

pub put_text-requires : goal.put_text-requires
unfolding echo_map
put_text-requires c = second_room _ _ (map_of 1) (text_of name_d) (text_of c.args.text.now) c.requires c.put_head.ensures

pub put_text-requires-2 : goal.put_text-requires-2
unfolding echo_map
put_text-requires-2 c = third_room _ _ (map_of 1) (text_of name_d) (text_of c.args.text.now) c.requires c.put_head.ensures _ c.put_text.ensures

pub returns : goal.returns
unfolding echo_map
returns c = wrote_three _ _ (map_of 1) (text_of name_d) (text_of c.args.text.now) c.requires c.put_head.ensures _ _ c.put_text.ensures c.put_text-2.ensures
