-- `transcript::fits` meets its contract: the room left and the lines left are as they were before the lines that were counted.
-- Assumes nothing.
use mathlib.Core.Path.{◌≡◌}
use Prim.Native.Nat.{◌+◌, ◌-◌}
use lib.ListN.{length}
use Rattle.transcript.specs.Transcript.{lines_from}
use Rattle.transcript.proofs.fits.Given as goal

abbrev pub invariant-loop-k : goal.invariant-loop-k
invariant-loop-k l = l.left + length (lines_from l.answers l.count 0) ≡ l.initial.left + length (lines_from l.answers (l.count - l.k) l.k)
