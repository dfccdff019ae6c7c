-- `recording::fills` meets its contract. The loop's invariant: from here on there are as many records as are left exactly where there are all of them
-- from the start.
-- Assumes nothing.
use mathlib.Core.Path.{◌≡◌, sym, ap, ◌∙◌}
use Prim.Native.Nat.{ℕ, suc, ◌+◌, ◌-◌}
use native.Mathlib.Omega.{arith}
use Rattle.std.specs.Prelude.{Some, None}
use Rattle.recording.specs.Recording.{record_at_def, trailer_at, entries_from, is_some}
use Rattle.recording.proofs.Laws.{record_inside, entries_cut, entries_next, entry_of, some_before, some_none, some_end}
use Rattle.recording.proofs.fills.Goals as goal

pub returns-in_default : goal.returns-in_default
returns-in_default c =
    let a = c.args in
    let l = c.loop in
    let file = a.file.now in
    let one : a.number - l.counter ≡ suc (a.number - (l.counter + 1)) = omega (arith, c.loop-test.true) in
    let cut : None ≡ record_at_def file (trailer_at file) l.at = sym c.in_default.is ∙ c.record_at.ensures in
    sym
    (sym l.invariant
    ∙ ap (λ (n : ℕ). is_some (entries_from file n l.at)) one
    ∙ ap is_some (entries_cut file (a.number - (l.counter + 1)) l.at cut)
    ∙ some_none)

pub overflow_add-at : goal.overflow_add-at
overflow_add-at c =
    let file = c.args.file.now in
    let r = c.in-Some.record in
    omega (
      arith,
      record_inside file (trailer_at file) c.loop.at r.to_controller r.line.start r.line.len (sym c.in-Some.is ∙ c.record_at.ensures),
    )

pub loop-preserved : goal.loop-preserved
loop-preserved c =
    let file = c.args.file.now in
    let l = c.loop in
    let r = c.in-Some.record in
    let n = c.args.number - (l.counter + 1) in
    let one : c.args.number - l.counter ≡ suc (c.args.number - (l.counter + 1)) = omega (arith, c.loop-test.true) in
    let there : Some r ≡ record_at_def file (trailer_at file) l.at = sym c.in-Some.is ∙ c.record_at.ensures in
    sym (some_before (entry_of file r.to_controller r.line.start r.line.len) (entries_from file n (r.line.start + r.line.len)))
    ∙ sym (ap is_some (entries_next file n l.at r.to_controller r.line.start r.line.len there))
    ∙ sym (ap (λ (n : ℕ). is_some (entries_from file n l.at)) one)
    ∙ l.invariant

pub returns : goal.returns
returns c =
    let file = c.args.file.now in
    let l = c.loop in
    let zero_left : c.args.number - l.counter ≡ 0 = omega (arith, c.loop-test.false) in
    some_end file l.at ∙ sym (ap (λ (n : ℕ). is_some (entries_from file n l.at)) zero_left) ∙ l.invariant
