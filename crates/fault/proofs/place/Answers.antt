-- `fault::place` meets its contract. The loop's invariant: the place is i further than that of the text from i on. The measure is how much text is left.
-- Assumes nothing.
use mathlib.Core.Path.{refl}
use Prim.Native.Nat.{◌+◌}
use native.Mathlib.Omega.{arith}
use Rattle.fault.proofs.Places.{turn_in, turn_behind, turn_on, turned}
use Rattle.fault.proofs.place.Goals as goal

pub returns-then-k-lt4 : goal.returns-then-k-lt4
returns-then-k-lt4 c =
    let a = c.args in
    let at = c.loop-i in
    turn_in a.text.now at.i _ _ _ _ c.standing-k.result refl c.byte_at-b.ensures
    c.byte_at-c.ensures c.byte_at-d.ensures c.standing-k.ensures at.invariant.1 c.if-k-lt4.true

pub returns-then-d-eq61 : goal.returns-then-d-eq61
returns-then-d-eq61 c =
    let a = c.args in
    let at = c.loop-i in
    turn_behind a.text.now at.i _ _ _ _ c.standing-k.result refl c.byte_at-b.ensures
    c.byte_at-c.ensures c.byte_at-d.ensures c.standing-k.ensures at.invariant.1 c.if-k-lt4.false c.if-d-eq61.true

pub loop-i-preserved : goal.loop-i-preserved
loop-i-preserved c =
    let a = c.args in
    let at = c.loop-i in
    turn_on a.text.now at.i _ _ _ _ c.standing-k.result refl c.byte_at-b.ensures
    c.byte_at-c.ensures c.byte_at-d.ensures c.standing-k.ensures at.invariant.1 c.if-k-lt4.false c.if-d-eq61.false

pub returns : goal.returns
returns c = turned _ _ c.loop-i-test.false c.loop-i.invariant.0 c.loop-i.invariant.1

pub returns-else-d-eq61 : goal.returns-else-d-eq61
returns-else-d-eq61 c =
    let a = c.args in
    let at = c.loop-i in
    let next =
    turn_on a.text.now at.i _ _ _ _ c.standing-k.result refl c.byte_at-b.ensures
    c.byte_at-c.ensures c.byte_at-d.ensures c.standing-k.ensures at.invariant.1 c.if-k-lt4.false c.if-d-eq61.false
    in
    turned a.text.now (at.i + 4) (omega arith) next.0 next.1
