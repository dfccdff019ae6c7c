-- `laws::equal` meets its contract: a comparison of slices holds just where the two lists are equal.
-- Assumes nothing.
use mathlib.Core.Path.{◌∙◌}
use lib.Dec.{eqb}
use lib.Pointwise.{pointwise, bytes_decides}
use Rattle.laws.proofs.Lists.{same_is}
use Rattle.laws.proofs.equal.Goals as goal

pub returns : goal.returns
returns c =
    let a = c.args in
    let d = bytes_decides a.a.now a.b.now in
    c.eq.ensures ∙ same_is a.a.now a.b.now (pointwise eqb a.a.now a.b.now) d.0 d.1
