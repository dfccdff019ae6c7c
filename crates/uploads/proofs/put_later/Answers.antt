-- `uploads::put_later` meets its contract: the map's head and then its two pairs.
-- Assumes nothing.
use mathlib.Core.List.{◌++◌}
use lib.Dec.{lit<}
use Rattle.cbor.specs.Write.{unsigned, bytes_of, text_of, map_of}
use Rattle.fields.specs.Keys.{name_data, name_off}
use Rattle.writer.proofs.Steps.{room_first}
use Rattle.smp.proofs.Writing.{second_room, third_room, wrote_three}
use Rattle.uploads.proofs.Maps.{later_parts}
use Rattle.uploads.proofs.put_later.Goals as goal

pub put_head-requires : goal.put_head-requires
put_head-requires c =
    let a = c.args in (
      lit< tt,
      room_first a.out.now (map_of 2) ((text_of name_data ++ bytes_of a.«data».now) ++ (text_of name_off ++ unsigned a.off))
          (rw (later_parts a.«data».now a.off) at c.requires),
    )

pub put_bytes-requires : goal.put_bytes-requires
put_bytes-requires c =
    let a = c.args in
    second_room _ _ (map_of 2) (text_of name_data ++ bytes_of a.«data».now) (text_of name_off ++ unsigned a.off)
    (rw (later_parts a.«data».now a.off) at c.requires) c.put_head.ensures

pub put_number-requires : goal.put_number-requires
put_number-requires c =
    let a = c.args in
    third_room _ _ (map_of 2) (text_of name_data ++ bytes_of a.«data».now) (text_of name_off ++ unsigned a.off)
    (rw (later_parts a.«data».now a.off) at c.requires) c.put_head.ensures _ c.put_bytes.ensures

pub returns : goal.returns
returns c =
    let a = c.args in
    rw (later_parts a.«data».now a.off)
    (wrote_three _ _ (map_of 2) (text_of name_data ++ bytes_of a.«data».now) (text_of name_off ++ unsigned a.off)
    (rw (later_parts a.«data».now a.off) at c.requires) c.put_head.ensures _ _ c.put_bytes.ensures c.put_number.ensures)
