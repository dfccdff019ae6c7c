-- `host::write_echo` meets its contract: a text that is too long is refused before anything is written; no sum wraps, as a slice is below 2^63 bytes.
-- Assumes nothing.
use mathlib.Core.Path.{sym, ◌∙◌}
use native.Mathlib.Omega.{arith}
use lib.ListN.{length}
use Rattle.writer.proofs.Steps.{wrote_length}
use Rattle.host.specs.Write.{echo_map, write_echo_def}
use Rattle.host.proofs.Writing.{sendable_fits, request_sent, request_refused, head_most, echo_length}
use Rattle.host.proofs.write_echo.Goals as goal

pub overflow_add-total : goal.overflow_add-total
overflow_add-total c = omega (arith, c.head_len.ensures, head_most 0 (length c.args.text.now))

pub overflow_add-total-2 : goal.overflow_add-total-2
overflow_add-total-2 c = omega (arith, c.head_len.ensures, head_most 0 (length c.args.text.now), c.well_formed)

pub returns-then-not-is_sendable : goal.returns-then-not-is_sendable
unfolding write_echo_def
returns-then-not-is_sendable c =
    let a = c.args in
    request_refused 0 a.sequence 0 (echo_map a.text.now) a.out.now _
    (omega (arith, echo_length a.text.now, c.head_len.ensures))
    (sym c.is_sendable.ensures ∙ c.if-not-is_sendable.true)

pub put_echo-requires : goal.put_echo-requires
put_echo-requires c =
    let t = sendable_fits _ _ (sym c.is_sendable.ensures ∙ c.if-not-is_sendable.false) in
    omega (arith, echo_length c.args.text.now, c.head_len.ensures, t)

pub put_front-requires : goal.put_front-requires
put_front-requires c =
    let t = sendable_fits _ _ (sym c.is_sendable.ensures ∙ c.if-not-is_sendable.false) in
    let e = echo_length c.args.text.now in
    omega (arith, c.put_echo.ensures.place, wrote_length _ _ (echo_map c.args.text.now) (omega (arith, e, c.head_len.ensures, t)) c.put_echo.ensures, t)

pub returns : goal.returns
unfolding write_echo_def
returns c =
    let a = c.args in
    let m = c.put_echo.ensures in
    request_sent 0 a.sequence 0 (echo_map a.text.now) a.out.now _ _ (omega (arith, echo_length a.text.now, c.head_len.ensures))
    (sym c.is_sendable.ensures ∙ c.if-not-is_sendable.false)
    m.place m.written c.put_front.ensures (grind (arith, sym m.same_buffer))
