-- `collector::Collector::with` meets its contract: the bytes go behind those that are held, or the line is too long.
-- Assumes nothing.
use mathlib.Core.Path.{sym, ◌∙◌}
use Rattle.collector.proofs.Laws.{longer_skipping, longer_over, longer_held}
use Rattle.collector.proofs.Collector.with.Goals as goal

pub returns-then-self : goal.returns-then-self
returns-then-self c = sym (longer_skipping _ _ c.if-self.true)

pub returns-then-there-gt-MOST : goal.returns-then-there-gt-MOST
returns-then-there-gt-MOST c = c.nothing.ensures ∙ sym (longer_over _ _ c.if-self.false c.if-there-gt-MOST.true)

pub returns : goal.returns
returns c =
    rw c.put.ensures
    (sym (longer_held _ _ c.if-self.false c.if-there-gt-MOST.false))
