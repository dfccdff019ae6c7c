-- `roundtrip::pass_frames`: each frame that was sent and taken leaves what the others lead to as it was, and after the last frame that is what the
-- call leaves.
-- Assumes nothing.
use mathlib.Core.Path.{sym, ◌∙◌}
use native.Mathlib.Omega.{arith}
use lib.ListN.{length}
use Rattle.std.proofs.lemmas.Result.{err_from_is_err_and}
use Rattle.reader.specs.Reader.{outcome}
use Rattle.sender.proofs.Count.{count_some}
use Rattle.roundtrip.proofs.Passing.{gone_next, gone_all, unpassed_is, unlined_is}
use Rattle.roundtrip.proofs.pass_frames.Goals as goal

pub returns-in_err-taken-clause-packet_after : goal.returns-in_err-taken-clause-packet_after
returns-in_err-taken-clause-packet_after c =
    let a = c.args in
    let p = err_from_is_err_and c.from_residual.result c.from_residual.ensures.1 in
    let s = c.in_err-taken.ensures (count_some (length a.body.now)) in
    rw (p.1, p.2, s.packet, s.number) (sym (unpassed_is a.body.now a.reader a.packet.now a.line.now s.cannot))

pub returns-in_err-taken-clause-line_after : goal.returns-in_err-taken-clause-line_after
returns-in_err-taken-clause-line_after c =
    let a = c.args in
    let s = c.in_err-taken.ensures (count_some (length a.body.now)) in
    s.line ∙ sym (unlined_is a.body.now a.line.now s.cannot)

pub loop-k-preserved : goal.loop-k-preserved
loop-k-preserved c =
    let a = c.args in
    let l = c.loop-k in
    let first = c.in_ok-taken.ensures in
    let w = c.in_ok-taken-2.ensures in
    gone_next a.body.now _ c.pass_frame.new.line 1 (outcome l.taken l.packet) l.line l.k _ _ l.invariant
    (rw l.invariant.size at w.can) w.below w.packet w.line

pub returns-clause-packet_after : goal.returns-clause-packet_after
returns-clause-packet_after c =
    let a = c.args in
    let l = c.loop-k in
    let w = c.in_ok-taken.ensures in
    (gone_all a.body.now a.reader a.packet.now a.line.now _ _ _ _ l.k w.can w.packet w.line l.invariant (omega (arith, w.counted))).0

pub returns-clause-line_after : goal.returns-clause-line_after
returns-clause-line_after c =
    let a = c.args in
    let l = c.loop-k in
    let w = c.in_ok-taken.ensures in
    (gone_all a.body.now a.reader a.packet.now a.line.now _ _ _ _ l.k w.can w.packet w.line l.invariant (omega (arith, w.counted))).1
