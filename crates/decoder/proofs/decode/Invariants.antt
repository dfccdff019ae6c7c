-- `decoder::decode`: the first g groups are full, and their bytes stand at the start of out.
-- Assumes nothing.
use mathlib.Core.Path.{◌≡◌}
use mathlib.Core.List.{List}
use Prim.Native.Nat.{ℕ}
use Rattle.laws.specs.Bytes.{pasted}
use Rattle.decoder.specs.Inner.{Passed}
use Rattle.decoder.proofs.decode.Given as goal

abbrev pub invariant-loop-g : goal.invariant-loop-g
invariant-loop-g l = (x : List ℕ) × Passed l.text l.g x × (l.out ≡ pasted l.initial.out 0 x)
