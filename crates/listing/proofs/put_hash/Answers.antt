-- `listing::put_hash` meets its contract: the key and then the bytes.
-- Assumes nothing.
use Rattle.cbor.specs.Write.{bytes_of, text_of}
use Rattle.laws.specs.Parts.{part_of}
use Rattle.writer.proofs.Steps.{room_second, wrote_twice}
use Rattle.listing.specs.Listing.{name_hash}
use Rattle.listing.proofs.put_hash.Goals as goal

pub put_string-requires-clause-has_room : goal.put_string-requires-clause-has_room
put_string-requires-clause-has_room c =
    let z = bytes_of (part_of c.args.s.now c.args.hash 32) in
    rw c.of.ensures (room_second _ _ (text_of name_hash) z c.requires.has_room c.put_text.ensures)

pub returns : goal.returns
returns c =
    let z = bytes_of (part_of c.args.s.now c.args.hash 32) in
    wrote_twice _ _ _ (text_of name_hash) z c.requires.has_room c.put_text.ensures (rw c.of.ensures at c.put_string.ensures)
