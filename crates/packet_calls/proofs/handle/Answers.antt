-- `packet_calls::handle` meets its contract: what the request call gave fits the numbers for it.
-- Assumes nothing.
use Rattle.session.specs.Session.{state_of}
use Rattle.widths.proofs.Sessions.{given_small}
use Rattle.packet_calls.proofs.handle.Goals as goal

pub told_handled-requires : goal.told_handled-requires
told_handled-requires c =
    let a = c.args in
    given_small c.layout_from-regions.result (state_of a.memory.now a.tag.now c.session_from-before.result) a.packet.now a.reply.now
    c.handle_packet-handled.result
    c.handle_packet-handled.new.memory c.handle_packet-handled.new.tag c.handle_packet-handled.new.reply c.handle_packet-handled.ensures
    c.session_from-before.ensures.1
