-- `sender::Frame::put_middle` meets its contract: the run of the body from its start to its end is copied.
-- Assumes nothing.
use Rattle.sender.proofs.Laws.{middle_is}
use Rattle.sender.proofs.Frame.put_middle.Goals as goal

pub bytes-requires : goal.bytes-requires
bytes-requires c =
    let a = c.args.self in
    rw (middle_is a.body.now a.k c.body_start-from.result c.body_end-to.result c.body_start-from.ensures c.body_end-to.ensures.0) at c.requires

pub returns : goal.returns
returns c =
    let a = c.args.self in
    rw (middle_is a.body.now a.k c.body_start-from.result c.body_end-to.result c.body_start-from.ensures c.body_end-to.ensures.0) c.bytes.ensures
