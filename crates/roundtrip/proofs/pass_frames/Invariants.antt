-- `roundtrip::pass_frames`: each frame that was sent and taken leaves what the others lead to as it was.
-- Assumes nothing.
use Rattle.reader.specs.Reader.{outcome}
use Rattle.roundtrip.proofs.Passing.{Gone}
use Rattle.roundtrip.proofs.pass_frames.Given as goal

abbrev pub invariant-loop-k : goal.invariant-loop-k
invariant-loop-k l = Gone l.body (outcome l.initial.taken l.initial.packet) l.initial.line 1 (outcome l.taken l.packet) l.line l.k
