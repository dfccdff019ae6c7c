-- `recording::record_at` meets its contract: each return is the definition under the tests that led there.
-- Assumes nothing.
use Prim.Native.Nat.{◌-◌, ◌<◌}
use native.Mathlib.Omega.{arith}
use lib.ListN.{get_or}
use borrow.Author.Tests.{ne_eqb, lt-ltb, le-ltb}
use Rattle.laws.proofs.Choice.{pick_yes, pick_no}
use Rattle.recording.specs.Recording.{record_at_def}
use Rattle.recording.proofs.record_at.Goals as goal
use Rattle.recording.proofs.record_at.Goals.{then-stop-at-via-then-stop-at, then-stop-at-via-else-stop-at+then-stop-at-lt-HEAD}

pub returns-then-stop-at : goal.returns-then-stop-at
unfolding record_at_def
returns-then-stop-at c =
    let a = c.args in
    let h : a.stop - a.at < 3 = elim c.then-stop-at.branch [
      | then-stop-at-via-then-stop-at w ↦ omega arith
      | then-stop-at-via-else-stop-at+then-stop-at-lt-HEAD w ↦ omega arith
    ] in
    simp (lt-ltb (a.stop - a.at) 3 h, pick_yes)

pub returns-in-62 : goal.returns-in-62
unfolding record_at_def
returns-in-62 c = simp (le-ltb _ _ c.if-stop-at-lt-HEAD.false, pick_no, c.in-62.is, pick_yes, ← c.line_at.ensures)

pub returns-in-60 : goal.returns-in-60
unfolding record_at_def
returns-in-60 c = simp (le-ltb _ _ c.if-stop-at-lt-HEAD.false, pick_no, c.in-60.is, pick_yes, ← c.line_at-in-60.ensures)

pub returns-in_default : goal.returns-in_default
unfolding record_at_def
returns-in_default c =
    simp (
      le-ltb _ _ c.if-stop-at-lt-HEAD.false,
      pick_no,
      ne_eqb (get_or c.args.file.now c.args.at 0) 62 (λ e. omega (arith, e)),
      ne_eqb (get_or c.args.file.now c.args.at 0) 60 (λ e. omega (arith, e)),
    )
