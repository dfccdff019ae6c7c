-- `host::write_empty` meets its contract: nine bytes are refused or written, the map and then the header in front of it.
-- Assumes nothing.
use mathlib.Core.Path.{sym, ◌∙◌}
use native.Mathlib.Omega.{arith}
use lib.Dec.{lit<}
use Rattle.cbor.specs.Write.{map_of}
use Rattle.writer.proofs.Steps.{wrote_length}
use Rattle.smp.proofs.Writing.{head_tiny}
use Rattle.host.proofs.Writing.{sendable_fits, request_sent, request_refused}
use Rattle.host.proofs.write_empty.Goals as goal

pub returns-then-not-is_sendable : goal.returns-then-not-is_sendable
returns-then-not-is_sendable c =
    let a = c.args in
    request_refused a.group a.sequence 5 (map_of 0) a.out.now 9 (omega (arith, head_tiny 5 0 (lit< tt)))
    (sym c.is_sendable.ensures ∙ c.if-not-is_sendable.true)

pub put_head-requires : goal.put_head-requires
put_head-requires c = (
  lit< tt,
  omega (
    arith,
    head_tiny 5 0 (lit< tt),
    sendable_fits 9 _ (sym c.is_sendable.ensures
        ∙ c.if-not-is_sendable.false),
  ),
)

pub put_front-requires : goal.put_front-requires
put_front-requires c =
    let t = sendable_fits 9 _ (sym c.is_sendable.ensures ∙ c.if-not-is_sendable.false) in
    omega (arith, c.put_head.ensures.place, wrote_length _ _ (map_of 0) (omega (arith, head_tiny 5 0 (lit< tt), t)) c.put_head.ensures, t)

pub returns : goal.returns
returns c =
    let a = c.args in
    let m = c.put_head.ensures in
    request_sent a.group a.sequence 5 (map_of 0) a.out.now 9 _ (omega (arith, head_tiny 5 0 (lit< tt)))
    (sym c.is_sendable.ensures ∙ c.if-not-is_sendable.false)
    m.place m.written c.put_front.ensures (grind (arith, sym m.same_buffer))
