-- `encoder::encode`: the text of the first g groups stands at the start of out.
-- Assumes nothing.
use mathlib.Core.Path.{◌≡◌}
use Rattle.laws.specs.Bytes.{pasted}
use Rattle.encoder.specs.Inner.{head_text}
use Rattle.encoder.proofs.encode.Given as goal

abbrev pub invariant-loop-g : goal.invariant-loop-g
invariant-loop-g l = l.out ≡ pasted l.initial.out 0 (head_text l.raw l.g)
