-- `smp::put_too_long` meets its contract: a refusal has room in every reply buffer, whatever its reason.
-- Assumes nothing.
use Rattle.smp.specs.Reply.{reply_map}
use Rattle.smp.proofs.Writing.{refusal_room}
use Rattle.smp.proofs.put_too_long.Goals as goal

pub put_reply-requires-clause-reply_in_bounds : goal.put_reply-requires-clause-reply_in_bounds
put_reply-requires-clause-reply_in_bounds c = refusal_room _ _ c.requires.in_bounds

pub returns : goal.returns
unfolding reply_map
returns c = c.put_reply.ensures
