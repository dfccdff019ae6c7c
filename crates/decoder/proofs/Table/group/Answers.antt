-- `decoder::Table::group`: the bitwise or of four numbers is below 64 where each is, and the bytes of their word are the group's.
-- Assumes nothing.
use native.Mathlib.Omega.{arith}
use Rattle.decoder.proofs.Steps.{or_all, group_good, group_bad}
use Rattle.decoder.proofs.Table.group.Goals as goal

pub returns-then-a-b-ge64 : goal.returns-then-a-b-ge64
returns-then-a-b-ge64 c =
    let a = c.args in
    group_bad a.text.now a.out.now c.look-a.result c.look-b.result c.look-c.result c.look-d.result
    c.look-a.ensures c.look-b.ensures c.look-c.ensures c.look-d.ensures c.if-a-b-ge64.true

pub overflow_cast-out : goal.overflow_cast-out
overflow_cast-out c = omega (arith, or_all c.look-a.result c.look-b.result c.look-c.result c.look-d.result c.if-a-b-ge64.false)

pub returns : goal.returns
returns c =
    let a = c.args in
    rw (c.from.ensures, c.from-2.ensures, c.from-3.ensures, c.from-4.ensures)
    (group_good a.text.now a.out.now c.look-a.result c.look-b.result c.look-c.result c.look-d.result
    c.look-a.ensures c.look-b.ensures c.look-c.ensures c.look-d.ensures
    c.requires.out_bound c.if-a-b-ge64.false)
