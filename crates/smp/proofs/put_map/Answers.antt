-- `smp::put_map` meets its contract: each reply's map is written part by part.
-- Assumes nothing.
use mathlib.Core.List.{◌++◌}
use lib.Dec.{lit<}
use Rattle.laws.specs.Parts.{part_of}
use Rattle.cbor.specs.Write.{unsigned, text_of, map_of}
use Rattle.fields.specs.Keys.{name_r, name_rc, name_off}
use Rattle.writer.proofs.Steps.{room_first}
use Rattle.smp.specs.Reply.{reply_map}
use Rattle.smp.proofs.Writing.{second_room, third_room, wrote_three, placed_parts}
use Rattle.smp.proofs.put_map.Goals as goal

pub put_rc-requires : goal.put_rc-requires
unfolding reply_map
put_rc-requires c = rw c.from.ensures (rw c.in-Refused.is at c.requires.has_room)

pub put_rc-requires-in-Done : goal.put_rc-requires-in-Done
unfolding reply_map
put_rc-requires-in-Done c = rw c.in-Done.is at c.requires.has_room

pub put_head-requires : goal.put_head-requires
put_head-requires c =
    let n = c.in-Placed.n in (
      lit< tt,
      room_first c.args.out.now (map_of 2) ((text_of name_rc ++ unsigned 0) ++ (text_of name_off ++ unsigned n))
          (rw (c.in-Placed.is, placed_parts c.args.s.now n) at c.requires.has_room),
    )

pub put_number-requires : goal.put_number-requires
put_number-requires c =
    let n = c.in-Placed.n in
    second_room _ _ (map_of 2) (text_of name_rc ++ unsigned 0) (text_of name_off ++ unsigned n)
    (rw (c.in-Placed.is, placed_parts c.args.s.now n) at c.requires.has_room) c.put_head.ensures

pub put_number-requires-in-Placed : goal.put_number-requires-in-Placed
put_number-requires-in-Placed c =
    let n = c.in-Placed.n in
    third_room _ _ (map_of 2) (text_of name_rc ++ unsigned 0) (text_of name_off ++ unsigned n)
    (rw (c.in-Placed.is, placed_parts c.args.s.now n) at c.requires.has_room) c.put_head.ensures _ c.put_number.ensures

pub returns-in-Placed : goal.returns-in-Placed
returns-in-Placed c =
    let n = c.in-Placed.n in
    rw (c.in-Placed.is, placed_parts c.args.s.now n)
    (wrote_three _ _ (map_of 2) (text_of name_rc ++ unsigned 0) (text_of name_off ++ unsigned n)
    (rw (c.in-Placed.is, placed_parts c.args.s.now n) at c.requires.has_room) c.put_head.ensures _ _ c.put_number.ensures c.put_number-in-Placed.ensures)

pub put_head-requires-in-Text : goal.put_head-requires-in-Text
unfolding reply_map
put_head-requires-in-Text c =
    let r = c.in-Text.text in
    (lit< tt, room_first c.args.out.now (map_of 1) (text_of name_r ++ text_of (part_of c.args.s.now r.start r.len)) (rw c.in-Text.is at c.requires.has_room))

pub put_text-requires : goal.put_text-requires
unfolding reply_map
put_text-requires c =
    let r = c.in-Text.text in
    second_room _ _ (map_of 1) (text_of name_r) (text_of (part_of c.args.s.now r.start r.len)) (rw c.in-Text.is at c.requires.has_room) c.put_head-in-Text.ensures

pub put_text-requires-in-Text : goal.put_text-requires-in-Text
unfolding reply_map
put_text-requires-in-Text c =
    let r = c.in-Text.text in
    rw c.of.ensures
    (third_room _ _ (map_of 1) (text_of name_r) (text_of (part_of c.args.s.now r.start r.len)) (rw c.in-Text.is at c.requires.has_room)
    c.put_head-in-Text.ensures _ c.put_text.ensures)

pub returns-in-Text : goal.returns-in-Text
unfolding reply_map
returns-in-Text c =
    let r = c.in-Text.text in
    rw c.in-Text.is
    (wrote_three _ _ (map_of 1) (text_of name_r) (text_of (part_of c.args.s.now r.start r.len)) (rw c.in-Text.is at c.requires.has_room)
    c.put_head-in-Text.ensures _ _ c.put_text.ensures (rw c.of.ensures at c.put_text-in-Text.ensures))

pub returns-in-Refused : goal.returns-in-Refused
unfolding reply_map
returns-in-Refused c = rw c.in-Refused.is (rw c.from.ensures at c.put_rc.ensures)

pub returns-in-Done : goal.returns-in-Done
unfolding reply_map
returns-in-Done c = rw c.in-Done.is c.put_rc-in-Done.ensures
