-- `roundtrip::send_and_take`: the frames were sent and taken in order, and a body is of bytes, so that the round trip speaks of it.
-- Assumes nothing.
use mathlib.Core.Path.{◌∙◌}
use native.Mathlib.Omega.{arith}
use Rattle.roundtrip.proofs.Passing.{passed_back}
use Rattle.roundtrip.proofs.send_and_take.Goals as goal

pub returns-in-Ok : goal.returns-in-Ok
returns-in-Ok c =
    let a = c.args in
    let e = c.in-Ok.ensures in
    record {
      says = e.packet_after;
      line = e.line_after;
      back = λ can room. e.packet_after ∙ passed_back a.body.now a.reader a.packet.now a.line.now (λ i. omega (arith, c.type_inv.body i)) can room;
    }

pub returns-in-Err : goal.returns-in-Err
returns-in-Err c =
    let a = c.args in
    let e = c.in-Err.ensures in
    rw c.into.ensures
    (record {
      says = e.packet_after;
      line = e.line_after;
      back = λ can room. e.packet_after ∙ passed_back a.body.now a.reader a.packet.now a.line.now (λ i. omega (arith, c.type_inv.body i)) can room;
    })
