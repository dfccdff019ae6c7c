-- `replay::replay_records` meets its contract. The loop's invariant: the records that are left come to what all of them come to, and each gets the room
-- that its answer wants. While records are left the reader gives one, so that its other answers never come.
-- Assumes nothing.
use Rattle.std.proofs.Common.{refl, rules, ◌-◌, ◌+◌, arith}
use Rattle.recording.proofs.Along.{step_inside}
use Rattle.replay.proofs.Laws.{grown_again, same_again, left_all, left_next, left_none}
use Rattle.replay.proofs.replay_records.Goals as goal

pub loop-init : goal.loop-init
loop-init c =
    let a = c.args in
    record {
      left = left_all a.file.now a.first a.rig.now a.answers.now c.requires.ahead c.requires.room;
      same_rig = search rules;
      grown = record { same_numbers = refl; as_long = refl; at_most = omega arith };
    }

pub replay_record-requires : goal.replay_record-requires
replay_record-requires c = omega (arith, c.loop.invariant.left.room)

pub of-requires : goal.of-requires
of-requires c =
    let x = c.in-Ok-Some.record in
    step_inside c.args.file.now c.loop.at x.to_controller x.line.start x.line.len (rw c.in-Ok-Some.field-0-is at c.in-Ok-Some.ensures)

pub overflow_add-at : goal.overflow_add-at
overflow_add-at c =
    let x = c.in-Ok-Some.record in
    omega (
      arith,
      step_inside c.args.file.now c.loop.at x.to_controller x.line.start x.line.len (rw c.in-Ok-Some.field-0-is at c.in-Ok-Some.ensures),
      c.well_formed,
    )

pub loop-preserved : goal.loop-preserved
loop-preserved c =
    let a = c.args in
    let l = c.loop in
    let x = c.in-Ok-Some.record in
    let d = c.replay_record in
    record {
      left =
          left_next a.file.now a.first a.rig.now a.answers.now l.at (a.first.number - l.counter) l.rig l.answers l.invariant.left x.to_controller
          x.line.start x.line.len (a.first.number - (l.counter + 1)) d.new.rig d.new.answers (omega arith)
          (rw c.in-Ok-Some.field-0-is at c.in-Ok-Some.ensures) (rw c.of.ensures at d.ensures.leads) d.ensures.grown (omega arith);
      same_rig = same_again a.rig.now l.rig d.new.rig l.invariant.same_rig d.ensures.same_rig;
      grown = grown_again a.answers.now l.answers d.new.answers l.counter l.invariant.grown d.ensures.grown;
    }

pub returns-clause-ends : goal.returns-clause-ends
returns-clause-ends c =
    let a = c.args in
    let l = c.loop in
    left_none a.file.now a.first a.rig.now a.answers.now l.at (a.first.number - l.counter) l.rig l.answers l.invariant.left (omega arith)
