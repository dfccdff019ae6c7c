-- `smp::put_string` meets its contract: its head and then its bytes are the string.
-- Assumes nothing.
use mathlib.Core.Path.{sym, ◌∙◌}
use lib.ListN.{length}
use Rattle.writer.proofs.Steps.{wrote_twice}
use Rattle.cbor.specs.Write.{head_of}
use Rattle.cbor.proofs.Laws.{head_size}
use Rattle.smp.proofs.Writing.{room_after}
use Rattle.smp.proofs.put_string.Goals as goal

-- a head is as long whatever its major type
pub bytes-requires : goal.bytes-requires
bytes-requires c =
    let x = c.args.x.now in
    room_after _ _ (head_of c.args.major (length x)) _ x (head_size c.args.major (length x) ∙ sym (head_size _ (length x))) c.requires.has_room c.put_head.ensures

pub returns : goal.returns
returns c = wrote_twice _ _ _ (head_of c.args.major (length c.args.x.now)) c.args.x.now c.requires.has_room c.put_head.ensures c.bytes.ensures
