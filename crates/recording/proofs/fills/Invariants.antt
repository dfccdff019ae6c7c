-- `recording::fills` meets its contract. The loop's invariant: from here on there are as many records as are left exactly where there are all of them
-- from the start.
-- Assumes nothing.
use mathlib.Core.Path.{◌≡◌}
use Prim.Native.Nat.{◌-◌}
use Rattle.recording.specs.Recording.{entries_from, is_some}
use Rattle.recording.proofs.fills.Given as goal

abbrev pub invariant-loop : goal.invariant-loop
invariant-loop l = is_some (entries_from l.file (l.number - l.counter) l.at) ≡ is_some (entries_from l.file l.number l.place)
