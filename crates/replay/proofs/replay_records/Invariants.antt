-- `replay::replay_records` meets its contract. The loop's invariant: the records that are left come to what all of them come to, and each gets the room
-- that its answer wants.
-- Assumes nothing.
use Prim.Native.Nat.{◌-◌}
use Rattle.feed.specs.Rig.{SameRig}
use Rattle.replay.specs.Inner.{Grown}
use Rattle.replay.proofs.Laws.{Left}
use Rattle.replay.proofs.replay_records.Given as goal

abbrev pub invariant-loop : goal.invariant-loop
invariant-loop l = record {
  left : Left l.fn.file l.fn.first l.initial.rig l.initial.answers l.at (l.end - l.counter) l.rig l.answers;
  same_rig : SameRig l.initial.rig l.rig;
  grown : Grown l.initial.answers l.answers l.counter;
}
