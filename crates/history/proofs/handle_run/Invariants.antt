-- `history::handle_run` meets its contract: each packet is one call more, and each call keeps the demand.
-- Assumes nothing.
use mathlib.Core.Path.{◌≡◌}
use Prim.Native.Nat.{◌-◌, ◌≤◌}
use lib.ListN.{length}
use Rattle.history.proofs.Calls.{Come}
use Rattle.history.proofs.handle_run.Given as goal

abbrev pub invariant-loop-at : goal.invariant-loop-at
invariant-loop-at l = (l.at ≤ length l.run)
    × (Come l.layout l.initial.memory l.run l.initial.reply l.memory l.tag l.session l.reply l.at)
    × (length l.memory ≡ length l.initial.memory)
    × (length l.reply ≡ length l.initial.reply)

abbrev pub decreases-loop-at : goal.decreases-loop-at
decreases-loop-at l = length l.run - l.at
