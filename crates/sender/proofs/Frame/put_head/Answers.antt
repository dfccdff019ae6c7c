-- `sender::Frame::put_head` meets its contract: total is written in frame 0 alone.
-- Assumes nothing.
use lib.ListN.{length}
use Rattle.sender.proofs.Laws.{head_first, head_later, wrote_none}
use Rattle.sender.proofs.Frame.put_head.Goals as goal

pub put_be16-requires : goal.put_be16-requires
put_be16-requires c = let a = c.args.self in rw (head_first (length a.body.now) a.k c.if-self-eq0.true) at c.requires

pub returns-then-self-eq0 : goal.returns-then-self-eq0
returns-then-self-eq0 c = let a = c.args.self in rw (head_first (length a.body.now) a.k c.if-self-eq0.true) c.put_be16.ensures

pub returns-else-self-eq0 : goal.returns-else-self-eq0
returns-else-self-eq0 c = let a = c.args.self in rw (head_later (length a.body.now) a.k c.if-self-eq0.false) (wrote_none _)
