-- `uploads::put_bytes` meets its contract: the key and then the byte string.
-- Assumes nothing.
use Rattle.cbor.specs.Write.{bytes_of, text_of}
use Rattle.writer.proofs.Steps.{room_second, wrote_twice}
use Rattle.uploads.proofs.put_bytes.Goals as goal

pub put_string-requires-clause-has_room : goal.put_string-requires-clause-has_room
put_string-requires-clause-has_room c = room_second _ _ (text_of c.args.name.now) (bytes_of c.args.x.now) c.requires c.put_text.ensures

pub returns : goal.returns
returns c = wrote_twice _ _ _ (text_of c.args.name.now) (bytes_of c.args.x.now) c.requires c.put_text.ensures c.put_string.ensures
