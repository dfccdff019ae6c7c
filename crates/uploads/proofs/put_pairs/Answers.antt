-- `uploads::put_pairs` meets its contract: the three pairs one after the other.
-- Assumes nothing.
use mathlib.Core.List.{◌++◌}
use Rattle.cbor.specs.Write.{unsigned, bytes_of, text_of}
use Rattle.fields.specs.Keys.{name_data, name_len, name_off}
use Rattle.writer.proofs.Steps.{room_first}
use Rattle.smp.proofs.Writing.{second_room, third_room, wrote_three}
use Rattle.uploads.proofs.put_pairs.Goals as goal

pub put_bytes-requires : goal.put_bytes-requires
put_bytes-requires c =
    let a = c.args in
    room_first a.out.now (text_of name_data ++ bytes_of a.«data».now) ((text_of name_len ++ unsigned a.size) ++ (text_of name_off ++ unsigned 0)) c.requires

pub put_number-requires : goal.put_number-requires
put_number-requires c =
    let a = c.args in
    second_room _ _ (text_of name_data ++ bytes_of a.«data».now) (text_of name_len ++ unsigned a.size) (text_of name_off ++ unsigned 0) c.requires c.put_bytes.ensures

pub put_number-requires-2 : goal.put_number-requires-2
put_number-requires-2 c =
    let a = c.args in
    third_room _ _ (text_of name_data ++ bytes_of a.«data».now) (text_of name_len ++ unsigned a.size) (text_of name_off ++ unsigned 0)
    c.requires c.put_bytes.ensures _ c.put_number.ensures

pub returns : goal.returns
returns c =
    let a = c.args in
    wrote_three _ _ (text_of name_data ++ bytes_of a.«data».now) (text_of name_len ++ unsigned a.size) (text_of name_off ++ unsigned 0)
    c.requires c.put_bytes.ensures _ _ c.put_number.ensures c.put_number-2.ensures
