-- `packet_calls::read_reply` meets its contract: the numbers of a reply that was read are small.
-- Assumes nothing.
use mathlib.Core.Path.{sym, ap, ◌∙◌}
use native.Mathlib.Omega.{arith}
use Rattle.replies.specs.Read.{said}
use Rattle.widths.proofs.Reading.{reply_small}
use Rattle.packet_calls.proofs.read_reply.Goals as goal

pub reply_numbers-requires : goal.reply_numbers-requires
reply_numbers-requires c =
    let a = c.args in
    let byte = c.shared_slice_known-1.given in
    reply_small a.packet.now (omega (arith, byte 4)) (omega (arith, byte 5)) c.in-Ok.heard (sym c.read_reply.ensures ∙ ap said c.in-Ok.is)
