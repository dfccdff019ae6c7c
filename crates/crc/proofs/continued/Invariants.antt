-- `crc::continued`: the register continued over what is left of `s` is the register continued over all of it.
-- Assumes nothing.
use mathlib.Core.Path.{◌≡◌}
use lib.ListN.{drop}
use Rattle.crc.specs.Crc.{onward}
use Rattle.crc.proofs.continued.Given as goal

abbrev pub invariant-loop-b : goal.invariant-loop-b
invariant-loop-b l = onward l.r (drop l.b-index l.s) ≡ onward l.c l.s
