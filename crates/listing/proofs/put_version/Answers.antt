-- `listing::put_version` meets its contract: the key, the head of the version's length, and the version.
-- Assumes nothing.
use lib.Dec.{lit<}
use lib.ListN.{length}
use Rattle.cbor.specs.Write.{head_of, text_of}
use Rattle.smp.proofs.Writing.{second_room, third_room, wrote_three}
use Rattle.listing.specs.Listing.{name_version, version_text}
use Rattle.listing.proofs.put_version.Goals as goal

pub put_head-requires : goal.put_head-requires
put_head-requires c =
    let t = version_text c.args.version in
    (lit< tt, rw c.version_len.ensures.0 (second_room _ _ (text_of name_version) (head_of 3 (length t)) t c.requires c.put_text.ensures))

pub put_version_text-requires : goal.put_version_text-requires
put_version_text-requires c =
    let t = version_text c.args.version in
    third_room _ _ (text_of name_version) (head_of 3 (length t)) t c.requires c.put_text.ensures _ (rw c.version_len.ensures.0 at c.put_head.ensures)

pub returns : goal.returns
returns c =
    let t = version_text c.args.version in
    wrote_three _ _ (text_of name_version) (head_of 3 (length t)) t c.requires c.put_text.ensures _ _ (rw c.version_len.ensures.0 at c.put_head.ensures)
    c.put_version_text.ensures
