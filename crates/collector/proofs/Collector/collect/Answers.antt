-- `collector::Collector::collect` meets its contract: refusals 1 and 12, then the step.
-- Assumes nothing.
use mathlib.Core.Path.{sym, ◌∙◌}
use native.Mathlib.Omega.{arith}
use Rattle.collector.proofs.Laws.{possible_count, collect_impossible, collect_long, collect_steps}
use Rattle.collector.proofs.Collector.collect.Goals as goal

pub returns-then-is_impossible : goal.returns-then-is_impossible
returns-then-is_impossible c = sym (collect_impossible _ _ _ _ (sym c.is_impossible.ensures ∙ c.if-is_impossible.true))

pub returns-then-lump-gt-LONGEST_LUMP : goal.returns-then-lump-gt-LONGEST_LUMP
returns-then-lump-gt-LONGEST_LUMP c = sym (collect_long _ _ _ _ (sym c.is_impossible.ensures ∙ c.if-is_impossible.false) c.if-lump-gt-LONGEST_LUMP.true)

pub step-requires : goal.step-requires
step-requires c = possible_count _ (sym c.is_impossible.ensures ∙ c.if-is_impossible.false)

pub returns : goal.returns
returns c =
    c.step.ensures ∙ sym
    (collect_steps _ _ _ _ (sym c.is_impossible.ensures ∙ c.if-is_impossible.false)
    (omega (arith, c.if-lump-gt-LONGEST_LUMP.false)))
