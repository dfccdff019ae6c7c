-- What a tag that is neither left out nor mis-sized is.
-- Assumes nothing.
use mathlib.Core.Path.{◌≡◌}
use mathlib.Core.Bool.{false}
use lib.Dec.{eqb}
use borrow.Author.Tests.{eqb-true, not-false}
use Rattle.laws.specs.declared.Run.{Run}
use Rattle.std.specs.Prelude.{Some}
use Rattle.rules.specs.Plan.{mis_sized_def}

-- a tag that is there and not mis-sized is of 32 bytes
pub tag_size : (r : Run) → mis_sized_def (Some r) ≡ false → r.len ≡ 32
unfolding mis_sized_def
tag_size r e = eqb-true r.len 32 (not-false (eqb r.len 32) e)
