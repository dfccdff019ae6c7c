-- `listing::Listed::put_map` meets its contract: the map's head, the slot's pair, the version's and the hash's.
-- Assumes nothing.
use mathlib.Core.List.{◌++◌}
use lib.Dec.{lit<}
use Rattle.cbor.specs.Write.{unsigned, text_of, map_of}
use Rattle.fields.specs.Keys.{name_slot}
use Rattle.smp.proofs.Writing.{second_room, third_room, wrote_three}
use Rattle.writer.proofs.Steps.{room_first, room_second, wrote_twice}
use Rattle.listing.specs.Listing.{image_map}
use Rattle.listing.specs.Inner.{version_part, hash_part}
use Rattle.listing.proofs.Laws.{wrote_none}
use Rattle.listing.proofs.Listed.put_map.Goals as goal

pub returns-in_default : goal.returns-in_default
unfolding image_map
returns-in_default c = rw c.in_default.is (wrote_none c.args.out.now)

pub put_head-requires : goal.put_head-requires
unfolding image_map
put_head-requires c =
    let v = version_part c.in-Some.image.version in
    let h = hash_part c.args.self.now.bytes.now c.in-Some.image.hash in
    let n = text_of name_slot ++ unsigned c.args.number in
    (lit< tt, room_first c.args.out.now (map_of 3) (n ++ (v ++ h)) (rw c.in-Some.is at c.requires))

pub put_number-requires : goal.put_number-requires
unfolding image_map
put_number-requires c =
    let v = version_part c.in-Some.image.version in
    let h = hash_part c.args.self.now.bytes.now c.in-Some.image.hash in
    let n = text_of name_slot ++ unsigned c.args.number in
    second_room _ _ (map_of 3) n (v ++ h) (rw c.in-Some.is at c.requires) c.put_head.ensures

pub put_version-requires : goal.put_version-requires
unfolding image_map
put_version-requires c =
    let v = version_part c.in-Some.image.version in
    let h = hash_part c.args.self.now.bytes.now c.in-Some.image.hash in
    let n = text_of name_slot ++ unsigned c.args.number in
    room_first c.put_number.new.out v h (third_room _ _ (map_of 3) n (v ++ h) (rw c.in-Some.is at c.requires) c.put_head.ensures _ c.put_number.ensures)

pub put_hash-requires-clause-has_room : goal.put_hash-requires-clause-has_room
unfolding image_map
put_hash-requires-clause-has_room c =
    let v = version_part c.in-Some.image.version in
    let h = hash_part c.args.self.now.bytes.now c.in-Some.image.hash in
    let n = text_of name_slot ++ unsigned c.args.number in
    let rest = third_room _ _ (map_of 3) n (v ++ h) (rw c.in-Some.is at c.requires) c.put_head.ensures _ c.put_number.ensures in
    room_second _ _ v h rest c.put_version.ensures

pub returns : goal.returns
unfolding image_map
returns c =
    let v = version_part c.in-Some.image.version in
    let h = hash_part c.args.self.now.bytes.now c.in-Some.image.hash in
    let n = text_of name_slot ++ unsigned c.args.number in
    let room = rw c.in-Some.is at c.requires in
    let rest = third_room _ _ (map_of 3) n (v ++ h) room c.put_head.ensures _ c.put_number.ensures in
    let last = wrote_twice _ _ _ v h rest c.put_version.ensures c.put_hash.ensures in
    rw c.in-Some.is (wrote_three _ _ (map_of 3) n (v ++ h) room c.put_head.ensures _ _ c.put_number.ensures last)
