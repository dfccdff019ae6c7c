-- `map::walk` meets its contract. The invariant: the pairs that are left, from the place reached and with the fields so far, come to what all
-- of them come to.
-- Assumes nothing.
use Rattle.std.proofs.Common.{◌≡◌, ◌-◌}
use Rattle.map.specs.Walk.{pairs}
use Rattle.map.proofs.walk.Given as goal

abbrev pub invariant-loop : goal.invariant-loop
invariant-loop l = pairs l.kind l.s l.n l.from l.initial.f ≡ pairs l.kind l.s (l.n - l.counter) l.at l.f
