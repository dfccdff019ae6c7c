-- `reader::take` meets its contract: its tests are those of the definition, in the order of the refusals.
-- Assumes nothing.
use mathlib.Core.Path.{◌≡◌, sym, ◌∙◌}
use mathlib.Core.Bool.{true, false, false≢true}
use native.Mathlib.Omega.{arith}
use Prim.Native.Nat.{◌≤◌}
use lib.ListN.{length}
use Rattle.frame.specs.Line.{partial, begins_with}
use Rattle.reader.proofs.Laws.{marked_is, line_long, line_short, line_unended, line_unmarked, line_framed}
use Rattle.reader.proofs.take.Goals as goal
use Rattle.reader.proofs.take.Goals.{then-not-initial+else-not-starts_with, else-not-initial}

pub returns-then-n-gt-LONGEST : goal.returns-then-n-gt-LONGEST
returns-then-n-gt-LONGEST c =
    let a = c.args in sym (line_long a.reader.now a.line.now a.p.now (omega arith))

pub returns-then-n-lt3 : goal.returns-then-n-lt3
returns-then-n-lt3 c =
    let a = c.args in sym (line_short a.reader.now a.line.now a.p.now (omega arith))

pub returns-then-line-n-ne-NEWLINE : goal.returns-then-line-n-ne-NEWLINE
returns-then-line-n-ne-NEWLINE c =
    let a = c.args in sym (line_unended a.reader.now a.line.now a.p.now (omega arith) (omega arith) c.if-line-n-ne-NEWLINE.true)

pub returns-then-not-starts_with : goal.returns-then-not-starts_with
returns-then-not-starts_with c =
    let a = c.args in
    let line = a.line.now in
    let low : 2 ≤ length line = omega arith in
    sym (line_unmarked a.reader.now line a.p.now (omega arith) (omega arith) c.if-line-n-ne-NEWLINE.false
    (sym (c.starts_with-initial.ensures.value ∙ marked_is _ _ line low) ∙ c.if-not-initial.true)
    (sym (c.starts_with.ensures.value ∙ marked_is _ _ line low) ∙ c.if-not-starts_with.true))

pub returns : goal.returns
returns c =
    let a = c.args in
    let line = a.line.now in
    let low : 2 ≤ length line = omega arith in
    let second : c.starts_with-initial.result ≡ false → begins_with partial line ≡ true = λ e.
    elim c.if-not-initial.branch [
      | then-not-initial+else-not-starts_with w ↦ sym (w.starts_with.ensures.value ∙ marked_is _ _ line low) ∙ w.if-not-starts_with.false
      | else-not-initial w ↦ absurd (false≢true (sym e ∙ w.if-not-initial.false))
    ]
    in
    c.take_frame.ensures
    ∙ sym (line_framed a.reader.now line a.p.now (omega arith) (omega arith) c.if-line-n-ne-NEWLINE.false
    c.starts_with-initial.result (c.starts_with-initial.ensures.value ∙ marked_is _ _ line low) second)
