-- `collector::Collector::step` meets its contract: it goes to the lump's end, or past the first 0A.
-- Assumes nothing.
use Rattle.std.proofs.Common.{◌≡◌, ◌-◌, ◌∙◌, List, ℕ, min, length, take, drop, rules}
use Rattle.std.proofs.lemmas.List.{drop_min}
use Rattle.laws.proofs.Lists.{rest_all}
use Rattle.collector.proofs.Laws.{step_rest, step_line}
use Rattle.collector.proofs.Collector.step.Goals as goal

-- the rest of a list from a place on that may lie behind its end
rest_min : (at from : ℕ) (s : List ℕ) → from ≡ min at (length s) → take (length s - from) (drop from s) ≡ drop at s
rest_min at from s e = rest_all s from ∙ rw e (drop_min at s)

pub returns-in-None : goal.returns-in-None
returns-in-None c =
    let a = c.args in
    let e = rest_min a.at c.min-from.result a.lump.now c.min-from.ensures in
    step_rest a.self a.lump.now a.at a.line.now _ c.with.result e c.in-None.ensures c.with.ensures

pub returns-in-Some : goal.returns-in-Some
returns-in-Some c =
    let a = c.args in
    let e = rest_min a.at c.min-from.result a.lump.now c.min-from.ensures in
    step_line a.self a.lump.now a.at c.min-from.result a.line.now _ c.in-Some.n _ c.end.new.line _
    c.min-from.ensures e c.in-Some.ensures.0 c.in-Some.ensures.1 c.end.ensures (search rules)
