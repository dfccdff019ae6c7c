-- `slot::clear` meets its contract: the part from the slot's start to its end is filled.
-- Assumes nothing.
use Prim.Native.Nat.{◌+◌}
use mathlib.Core.Path.{refl}
use lib.ListN.{length}
use Rattle.session.proofs.Laws.{region_bounds}
use Rattle.slot.proofs.Memory.{cleared}
use Rattle.slot.proofs.clear.Goals as goal

pub returns : goal.returns
returns c =
    let a = c.args in
    let b = region_bounds a.slot (length a.memory.now) c.requires in
    cleared a.slot (a.slot.start + a.slot.size) a.memory.now c.fill.new.self refl b.inside
    (c.fill.ensures.after (λ y e. e))
