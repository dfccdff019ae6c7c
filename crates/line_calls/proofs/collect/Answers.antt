-- `line_calls::collect` meets its contract: the numbers of a step that went on are small.
-- Assumes nothing.
use mathlib.Core.Path.{sym, ap, ◌∙◌}
use native.Mathlib.Omega.{arith}
use Rattle.records.specs.Results.{went_on_def}
use Rattle.widths.proofs.Steps.{step_small}
use Rattle.line_calls.proofs.collect.Goals as goal

pub step_length-length-requires : goal.step_length-length-requires
step_length-length-requires c =
    let a = c.args in
    (step_small c.collector_from-before.result a.lump.now a.at a.line.now c.collect-step.result c.collect-step.new.line c.collector_from-before.ensures.1
    c.collect-step.ensures (ap went_on_def (sym c.step_result-result.ensures) ∙ (sym c.went_on.ensures ∙ c.if-went_on.true))).0

pub store_collector-requires : goal.store_collector-requires
store_collector-requires c =
    let a = c.args in
    (step_small c.collector_from-before.result a.lump.now a.at a.line.now c.collect-step.result c.collect-step.new.line c.collector_from-before.ensures.1
    c.collect-step.ensures (ap went_on_def (sym c.step_result-result.ensures) ∙ (sym c.went_on.ensures ∙ c.if-went_on.true))).2

pub overflow_cast-got : goal.overflow_cast-got
overflow_cast-got c =
    let a = c.args in
    omega (
      arith,
      (step_small c.collector_from-before.result a.lump.now a.at a.line.now c.collect-step.result c.collect-step.new.line c.collector_from-before.ensures.1
          c.collect-step.ensures (ap went_on_def (sym c.step_result-result.ensures) ∙ (sym c.went_on.ensures ∙ c.if-went_on.true))).1,
    )
