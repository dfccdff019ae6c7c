-- `uploads::put_first` meets its contract: the map's head, its three pairs, and the tag where there is one.
-- Assumes nothing.
use mathlib.Core.Path.{sym, ◌∙◌}
use mathlib.Core.List.{◌++◌}
use lib.Dec.{lit<}
use lib.ListN.{length}
use borrow.Author.Tests.{eqb-true}
use Rattle.cbor.specs.Write.{bytes_of, text_of, map_of}
use Rattle.fields.specs.Keys.{name_sha}
use Rattle.writer.proofs.Steps.{room_first, room_second, wrote_twice}
use Rattle.smp.proofs.Writing.{second_room, third_room, wrote_three}
use Rattle.uploads.specs.Inner.{first_pairs}
use Rattle.uploads.proofs.Maps.{first_untagged, first_tagged, tag_there}
use Rattle.uploads.proofs.put_first.Goals as goal

pub put_head-requires : goal.put_head-requires
put_head-requires c =
    let a = c.args in
    let is = first_untagged a.«data».now a.size a.tag.now (eqb-true (length a.tag.now) 0 (sym c.is_empty.ensures ∙ c.if-is_empty.true)) in
    (lit< tt, room_first a.out.now (map_of 3) (first_pairs a.«data».now a.size) (rw is at c.requires))

pub put_pairs-requires : goal.put_pairs-requires
put_pairs-requires c =
    let a = c.args in
    let is = first_untagged a.«data».now a.size a.tag.now (eqb-true (length a.tag.now) 0 (sym c.is_empty.ensures ∙ c.if-is_empty.true)) in
    room_second _ _ (map_of 3) (first_pairs a.«data».now a.size) (rw is at c.requires) c.put_head.ensures

pub returns-then-is_empty : goal.returns-then-is_empty
returns-then-is_empty c =
    let a = c.args in
    let is = first_untagged a.«data».now a.size a.tag.now (eqb-true (length a.tag.now) 0 (sym c.is_empty.ensures ∙ c.if-is_empty.true)) in
    rw is (wrote_twice _ _ _ (map_of 3) (first_pairs a.«data».now a.size) (rw is at c.requires) c.put_head.ensures c.put_pairs.ensures)

pub put_head-requires-else-is_empty : goal.put_head-requires-else-is_empty
put_head-requires-else-is_empty c =
    let a = c.args in
    let is = first_tagged a.«data».now a.size a.tag.now (tag_there a.tag.now (sym c.is_empty.ensures ∙ c.if-is_empty.false)) in
    (lit< tt, room_first a.out.now (map_of 4) (first_pairs a.«data».now a.size ++ (text_of name_sha ++ bytes_of a.tag.now)) (rw is at c.requires))

pub put_pairs-requires-else-is_empty : goal.put_pairs-requires-else-is_empty
put_pairs-requires-else-is_empty c =
    let a = c.args in
    let is = first_tagged a.«data».now a.size a.tag.now (tag_there a.tag.now (sym c.is_empty.ensures ∙ c.if-is_empty.false)) in
    second_room _ _ (map_of 4) (first_pairs a.«data».now a.size) (text_of name_sha ++ bytes_of a.tag.now) (rw is at c.requires)
    c.put_head-else-is_empty.ensures

pub put_bytes-requires : goal.put_bytes-requires
put_bytes-requires c =
    let a = c.args in
    let is = first_tagged a.«data».now a.size a.tag.now (tag_there a.tag.now (sym c.is_empty.ensures ∙ c.if-is_empty.false)) in
    third_room _ _ (map_of 4) (first_pairs a.«data».now a.size) (text_of name_sha ++ bytes_of a.tag.now) (rw is at c.requires)
    c.put_head-else-is_empty.ensures _ c.put_pairs-else-is_empty.ensures

pub returns-else-is_empty : goal.returns-else-is_empty
returns-else-is_empty c =
    let a = c.args in
    let is = first_tagged a.«data».now a.size a.tag.now (tag_there a.tag.now (sym c.is_empty.ensures ∙ c.if-is_empty.false)) in
    rw is
    (wrote_three _ _ (map_of 4) (first_pairs a.«data».now a.size) (text_of name_sha ++ bytes_of a.tag.now) (rw is at c.requires)
    c.put_head-else-is_empty.ensures _ _ c.put_pairs-else-is_empty.ensures c.put_bytes.ensures)
