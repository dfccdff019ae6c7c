-- `roundtrip::pass_frame`: the sender refuses no frame of a body that can be sent, and what stands at the line buffer's start is the frame.
-- Assumes nothing.
use mathlib.Core.Path.{sym, ap, ◌∙◌}
use mathlib.Core.List.{List}
use Prim.Native.Nat.{ℕ}
use lib.Seq.{length-take-le}
use Rattle.std.proofs.lemmas.Result.{err_from_is_err_and}
use Rattle.reader.specs.Reader.{take_line_def}
use Rattle.roundtrip.proofs.Sent.{was_written, not_written}
use Rattle.roundtrip.proofs.pass_frame.Goals as goal

pub returns-in_err-sent : goal.returns-in_err-sent
returns-in_err-sent c =
    let a = c.args in
    let p = err_from_is_err_and c.from_residual.result c.from_residual.ensures.1 in
    rw (p.1, p.2)
    (λ h. not_written a.body.now a.k a.line.now a.packet.now c.send_frame.result c.send_frame.new.out c.in_err-sent.field-0.0 c.send_frame.ensures
    c.in_err-sent.was h)

pub slice_bounds-take_line-end : goal.slice_bounds-take_line-end
slice_bounds-take_line-end c =
    let a = c.args in
    (was_written a.body.now a.k a.line.now c.send_frame.result c.send_frame.new.out c.in_ok-sent.sent c.send_frame.ensures c.in_ok-sent.was).size

pub slice_bounds-take_line-end-2 : goal.slice_bounds-take_line-end-2
slice_bounds-take_line-end-2 c =
    let a = c.args in
    let w = was_written a.body.now a.k a.line.now c.send_frame.result c.send_frame.new.out c.in_ok-sent.sent c.send_frame.ensures c.in_ok-sent.was in
    sym (length-take-le c.in_ok-sent.sent.length c.send_frame.new.out w.size)

pub returns : goal.returns
returns c =
    let a = c.args in
    let w = was_written a.body.now a.k a.line.now c.send_frame.result c.send_frame.new.out c.in_ok-sent.sent c.send_frame.ensures c.in_ok-sent.was in
    record {
      can = w.can;
      below = w.below;
      counted = w.counted;
      packet = c.take_line-taken.ensures ∙ ap (λ (line : List ℕ). take_line_def a.reader line a.packet.now) w.frame_is;
      line = w.left;
    }
