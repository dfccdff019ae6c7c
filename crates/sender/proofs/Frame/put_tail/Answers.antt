-- `sender::Frame::put_tail` meets its contract: the CRC is written in the last frame alone.
-- Assumes nothing.
use mathlib.Core.Path.{◌≡◌, sym, ◌∙◌}
use native.Mathlib.Omega.{arith}
use Rattle.crc.specs.Crc.{crc_of_def}
use Rattle.sender.proofs.Laws.{tail_last, tail_other, be16_length, wrote_none}
use Rattle.sender.proofs.Frame.put_tail.Goals as goal

pub put_be16-requires : goal.put_be16-requires
put_be16-requires c =
    let a = c.args.self in
    let room = rw (tail_last a.body.now a.k (c.if-self.true ∙ a.counted)) at c.requires in
    omega (arith, room, be16_length (crc_of_def a.body.now), be16_length c.from.result)

pub returns-then-self : goal.returns-then-self
returns-then-self c =
    let a = c.args.self in
    let crc : c.from.result ≡ crc_of_def a.body.now = cc in
    rw (tail_last a.body.now a.k (c.if-self.true ∙ a.counted), ← crc) c.put_be16.ensures

pub returns-else-self : goal.returns-else-self
returns-else-self c =
    let a = c.args.self in rw (tail_other a.body.now a.k (λ q. c.if-self.false (q ∙ sym a.counted))) (wrote_none _)
