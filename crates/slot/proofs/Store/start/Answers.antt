-- `slot::Store::start` meets its contract: the request's data is as long as it says, and fits the slot.
-- Assumes nothing.
use native.Mathlib.Omega.{arith}
use lib.ListN.{length}
use Rattle.session.proofs.Laws.{region_bounds}
use Rattle.slot.proofs.Fit.{data_size}
use Rattle.slot.proofs.Store.start.Goals as goal

pub put-requires : goal.put-requires
put-requires c =
    let a = c.args in
    let s = a.self.now in
    let r = region_bounds s.slot (length s.memory.now) c.requires.memory_value in
    let n = data_size a.source.now a.upload c.requires.data_inside.0 in
    rw c.of-data.ensures (omega (arith, r, n, c.clear.auto.memory, c.requires.data_inside.1))
