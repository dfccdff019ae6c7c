-- `images::find_hash` meets its contract: each turn takes one entry, and what is still to come settles the rest.
-- Assumes nothing.
use Prim.Native.Nat.{◌-◌, ◌≤◌}
use Rattle.images.proofs.Laws.{Came}
use Rattle.images.proofs.find_hash.Given as goal

abbrev pub invariant-loop-at : goal.invariant-loop-at
invariant-loop-at l = record { in_order : l.at ≤ l.area.stop; came : Came l.s l.area.start l.area.stop l.at l.hash }

abbrev pub decreases-loop-at : goal.decreases-loop-at
decreases-loop-at l = l.area.stop - l.at
