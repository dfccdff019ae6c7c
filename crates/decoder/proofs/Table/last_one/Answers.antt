-- `decoder::Table::last_one`: each test that fails is a fault of the last group, and past them all it stands for one byte.
-- Assumes nothing.
use mathlib.Core.Path.{refl}
use mathlib.Core.List.{[], ◌∷◌}
use Prim.Native.Nat.{◌+◌, ◌*◌, ◌/◌}
use native.Mathlib.Omega.{arith}
use Rattle.laws.proofs.Lists.{set_pasted}
use Rattle.decoder.proofs.Steps.{last_bad, last_good, one_bad_first, one_bad_second, one_bad_bits, one_good}
use Rattle.decoder.proofs.Table.last_one.Goals as goal

pub returns-in_err-a : goal.returns-in_err-a
returns-in_err-a c =
    rw c.from_residual.ensures
    (last_bad _ c.args.out.now (one_bad_first _ _ _ _ _ _ c.requires.third c.requires.fourth refl refl c.in_err-a.ensures))

pub returns-in_err-b : goal.returns-in_err-b
returns-in_err-b c =
    rw c.from_residual-in_err-b.ensures
    (last_bad _ c.args.out.now (one_bad_second _ _ _ _ _ _ c.requires.third c.requires.fourth refl refl c.in_err-b.ensures))

pub returns-then-b-ne0 : goal.returns-then-b-ne0
returns-then-b-ne0 c =
    last_bad _ c.args.out.now
    (one_bad_bits _ _ _ _ _ c.in_ok-b.b c.requires.third c.requires.fourth refl c.in_ok-b.ensures.0 c.if-b-ne0.true)

pub returns : goal.returns
returns c =
    let a = c.in_ok-a in
    let b = c.in_ok-b in
    last_good _ ((a.a * 4 + b.b / 16) ∷ []) c.args.out.now _
    (one_good _ _ _ _ a.a b.b c.requires.third c.requires.fourth a.ensures.0 b.ensures.0 a.ensures.1 b.ensures.1 c.if-b-ne0.false)
    (set_pasted c.args.out.now 0 (a.a * 4 + b.b / 16) (omega arith))
