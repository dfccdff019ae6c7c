-- `listing::put_list` meets its contract: the map's head and key, the array's head, and the two images.
-- Assumes nothing.
use mathlib.Core.List.{List, ◌++◌}
use Prim.Native.Nat.{ℕ, ◌+◌}
use lib.Dec.{lit<}
use Rattle.cbor.specs.Write.{text_of, map_of}
use Rattle.writer.proofs.Steps.{room_first, room_second, wrote_twice}
use Rattle.listing.specs.Listing.{name_images, array_of, image_map, image_count}
use Rattle.listing.proofs.put_list.Goals.{After-count-2}
use Rattle.listing.proofs.put_list.Goals as goal

-- the array's head and the two images, and what stands before each
abbrev array : (c : After-count-2) → List ℕ
array c = array_of (image_count c.args.first.now.image + image_count c.args.second.now.image)

abbrev first : (c : After-count-2) → List ℕ
first c = image_map 0 c.args.first.now.bytes.now c.args.first.now.image

abbrev second : (c : After-count-2) → List ℕ
second c = image_map 1 c.args.second.now.bytes.now c.args.second.now.image

pub put_text-requires : goal.put_text-requires
put_text-requires c =
    let d = (goal.at.put_text-requires c).After-count-2 in
    let r = room_second _ _ (map_of 1) (text_of name_images ++ (array d ++ (first d ++ second d))) c.requires c.put_head.ensures in
    room_first c.put_head.new.out (text_of name_images) (array d ++ (first d ++ second d)) r

pub put_head-requires-2 : goal.put_head-requires-2
put_head-requires-2 c =
    let d = (goal.at.put_head-requires-2 c).After-count-2 in
    let r = room_second _ _ (map_of 1) (text_of name_images ++ (array d ++ (first d ++ second d))) c.requires c.put_head.ensures in
    let s = room_second _ _ (text_of name_images) (array d ++ (first d ++ second d)) r c.put_text.ensures in
    (lit< tt, rw (c.count.ensures.0, c.count-2.ensures.0) (room_first c.put_text.new.out (array d) (first d ++ second d) s))

pub put_map-requires : goal.put_map-requires
put_map-requires c =
    let d = (goal.at.put_map-requires c).After-count-2 in
    let r = room_second _ _ (map_of 1) (text_of name_images ++ (array d ++ (first d ++ second d))) c.requires c.put_head.ensures in
    let s = room_second _ _ (text_of name_images) (array d ++ (first d ++ second d)) r c.put_text.ensures in
    let t = room_second _ _ (array d) (first d ++ second d) s (rw (c.count.ensures.0, c.count-2.ensures.0) at c.put_head-2.ensures) in
    room_first c.put_head-2.new.out (first d) (second d) t

pub put_map-requires-2 : goal.put_map-requires-2
put_map-requires-2 c =
    let d = (goal.at.put_map-requires-2 c).After-count-2 in
    let r = room_second _ _ (map_of 1) (text_of name_images ++ (array d ++ (first d ++ second d))) c.requires c.put_head.ensures in
    let s = room_second _ _ (text_of name_images) (array d ++ (first d ++ second d)) r c.put_text.ensures in
    let t = room_second _ _ (array d) (first d ++ second d) s (rw (c.count.ensures.0, c.count-2.ensures.0) at c.put_head-2.ensures) in
    room_second _ _ (first d) (second d) t c.put_map.ensures

pub returns : goal.returns
returns c =
    let d = (goal.at.returns c).After-count-2 in
    let r = room_second _ _ (map_of 1) (text_of name_images ++ (array d ++ (first d ++ second d))) c.requires c.put_head.ensures in
    let s = room_second _ _ (text_of name_images) (array d ++ (first d ++ second d)) r c.put_text.ensures in
    let head = rw (c.count.ensures.0, c.count-2.ensures.0) at c.put_head-2.ensures in
    let t = room_second _ _ (array d) (first d ++ second d) s head in
    wrote_twice _ _ _ (map_of 1) (text_of name_images ++ (array d ++ (first d ++ second d))) c.requires c.put_head.ensures
    (wrote_twice _ _ _ (text_of name_images) (array d ++ (first d ++ second d)) r c.put_text.ensures
    (wrote_twice _ _ _ (array d) (first d ++ second d) s head
    (wrote_twice _ _ _ (first d) (second d) t c.put_map.ensures c.put_map-2.ensures)))
