-- `uploads::send_later` meets its contract: a request that is too long is refused before anything is written; no sum wraps, as a slice is below 2^63 bytes.
-- Assumes nothing.
use mathlib.Core.Path.{sym, ◌∙◌}
use native.Mathlib.Omega.{arith}
use lib.ListN.{length}
use Rattle.writer.proofs.Steps.{wrote_length}
use Rattle.uploads.specs.Upload.{later_map}
use Rattle.host.proofs.Writing.{sendable_fits, request_sent, request_refused, head_most}
use Rattle.uploads.proofs.Maps.{later_length}
use Rattle.uploads.proofs.send_later.Goals as goal

pub overflow_add-total : goal.overflow_add-total
overflow_add-total c = omega (arith, c.head_len.ensures, head_most 0 (length c.args.«data».now))

pub overflow_add-total-2 : goal.overflow_add-total-2
overflow_add-total-2 c = omega (arith, c.head_len.ensures, head_most 0 (length c.args.«data».now), c.well_formed)

pub overflow_add-total-3 : goal.overflow_add-total-3
overflow_add-total-3 c =
    omega (
      arith,
      c.head_len.ensures,
      head_most 0 (length c.args.«data».now),
      c.head_len-2.ensures,
      head_most 0 c.args.off,
      c.well_formed,
    )

pub returns-then-not-is_sendable : goal.returns-then-not-is_sendable
returns-then-not-is_sendable c =
    let a = c.args in
    request_refused 1 a.sequence 1 (later_map a.«data».now a.off) a.out.now _
    (omega (arith, later_length a.«data».now a.off, c.head_len.ensures, c.head_len-2.ensures))
    (sym c.is_sendable.ensures ∙ c.if-not-is_sendable.true)

pub put_later-requires : goal.put_later-requires
put_later-requires c =
    let a = c.args in
    let t = sendable_fits _ _ (sym c.is_sendable.ensures ∙ c.if-not-is_sendable.false) in
    omega (arith, later_length a.«data».now a.off, c.head_len.ensures, c.head_len-2.ensures, t)

pub put_front-requires : goal.put_front-requires
put_front-requires c =
    let a = c.args in
    let t = sendable_fits _ _ (sym c.is_sendable.ensures ∙ c.if-not-is_sendable.false) in
    omega (arith, c.put_later.ensures.place, wrote_length _ _ (later_map a.«data».now a.off) (omega (arith, later_length a.«data».now a.off, c.head_len.ensures, c.head_len-2.ensures, t)) c.put_later.ensures, t)

pub returns : goal.returns
returns c =
    let a = c.args in
    let m = c.put_later.ensures in
    request_sent 1 a.sequence 1 (later_map a.«data».now a.off) a.out.now _ _ (omega (arith, later_length a.«data».now a.off, c.head_len.ensures, c.head_len-2.ensures)) (sym c.is_sendable.ensures ∙ c.if-not-is_sendable.false)
    m.place m.written c.put_front.ensures (grind (arith, sym m.same_buffer))
