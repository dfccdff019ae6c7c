-- `reader::place_in` meets its contract: a text has one place.
-- Assumes nothing.
use mathlib.Core.Path.{ap}
use Prim.Native.Nat.{ℕ, ◌+◌}
use Rattle.fault.proofs.Places.{place_is, place_once}
use Rattle.frame.specs.Line.{text_of}
use Rattle.reader.specs.Reader.{place_in}
use Rattle.reader.proofs.place_in.Goals as goal

pub returns : goal.returns
unfolding place_in text_of
returns c = ap (λ (i : ℕ). i + 2) (place_once _ _ _ c.place.ensures (place_is (text_of c.args.line.now)))
