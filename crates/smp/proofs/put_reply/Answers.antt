-- `smp::put_reply` meets its contract: the map and then the header in front of it are the packet.
-- Assumes nothing.
use Rattle.std.proofs.Common.{arith, sym}
use Rattle.smp.specs.Reply.{reply_map}
use Rattle.writer.proofs.Steps.{wrote_length}
use Rattle.smp.proofs.Writing.{packet_put, starts_back}
use Rattle.smp.proofs.put_reply.Goals as goal

pub put_reply_header-requires-clause-le_end : goal.put_reply_header-requires-clause-le_end
put_reply_header-requires-clause-le_end c =
    let m = c.put_map.ensures in
    (omega (arith, m.place), omega (arith, wrote_length _ _ (reply_map c.args.s.now c.args.reply) c.requires.reply_in_bounds m, c.requires.reply_in_bounds))

pub returns : goal.returns
returns c =
    let a = c.args in
    let m = c.put_map.ensures in
    starts_back (packet_put a.h (reply_map a.s.now a.reply) _ c.requires.reply_in_bounds m.place m.written c.put_reply_header.ensures) (grind (arith, sym m.same_buffer))
