-- `uploads::send_first` meets its contract: a request that is too long is refused before anything is written.
-- Assumes nothing.
use mathlib.Core.Path.{sym, ◌∙◌}
use native.Mathlib.Omega.{arith}
use Rattle.writer.proofs.Steps.{wrote_length}
use Rattle.uploads.specs.Upload.{first_map}
use Rattle.host.proofs.Writing.{sendable_fits, request_sent, request_refused}
use Rattle.uploads.proofs.send_first.Goals as goal

pub returns-then-not-is_sendable : goal.returns-then-not-is_sendable
returns-then-not-is_sendable c =
    let a = c.args in
    request_refused 1 a.sequence 1 (first_map a.«data».now a.size a.tag.now) a.out.now _ c.first_len-total.ensures
    (sym c.is_sendable.ensures ∙ c.if-not-is_sendable.true)

pub put_first-requires : goal.put_first-requires
put_first-requires c =
    let a = c.args in
    let t = sendable_fits _ _ (sym c.is_sendable.ensures ∙ c.if-not-is_sendable.false) in
    omega (arith, c.first_len-total.ensures, t)

pub put_front-requires : goal.put_front-requires
put_front-requires c =
    let a = c.args in
    let t = sendable_fits _ _ (sym c.is_sendable.ensures ∙ c.if-not-is_sendable.false) in
    omega (arith, c.put_first.ensures.place, wrote_length _ _ (first_map a.«data».now a.size a.tag.now) (omega (arith, c.first_len-total.ensures, t)) c.put_first.ensures, t)

pub returns : goal.returns
returns c =
    let a = c.args in
    let m = c.put_first.ensures in
    request_sent 1 a.sequence 1 (first_map a.«data».now a.size a.tag.now) a.out.now _ _ c.first_len-total.ensures (sym c.is_sendable.ensures ∙ c.if-not-is_sendable.false)
    m.place m.written c.put_front.ensures (grind (arith, sym m.same_buffer))
