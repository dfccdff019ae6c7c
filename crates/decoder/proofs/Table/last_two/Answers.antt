-- `decoder::Table::last_two`: each test that fails is a fault of the last group, and past them all it stands for two bytes.
-- Assumes nothing.
use mathlib.Core.Path.{refl}
use mathlib.Core.List.{[], ◌∷◌}
use Prim.Native.Nat.{◌+◌, ◌*◌, ◌/◌, ◌%◌}
use native.Mathlib.Omega.{arith}
use Rattle.laws.proofs.Lists.{set_twice_pasted}
use Rattle.decoder.proofs.Steps.{last_bad, last_good, two_bad_first, two_bad_second, two_bad_third, two_bad_bits, two_good}
use Rattle.decoder.proofs.Table.last_two.Goals as goal

pub returns-in_err-a : goal.returns-in_err-a
returns-in_err-a c =
    rw c.from_residual.ensures
    (last_bad _ c.args.out.now (two_bad_first _ _ _ _ _ _ _ c.requires.third c.requires.fourth refl refl refl c.in_err-a.ensures))

pub returns-in_err-b : goal.returns-in_err-b
returns-in_err-b c =
    rw c.from_residual-in_err-b.ensures
    (last_bad _ c.args.out.now (two_bad_second _ _ _ _ _ _ _ c.requires.third c.requires.fourth refl refl refl c.in_err-b.ensures))

pub returns-in_err-c : goal.returns-in_err-c
returns-in_err-c c =
    rw c.from_residual-in_err-c.ensures
    (last_bad _ c.args.out.now (two_bad_third _ _ _ _ _ _ _ c.requires.third c.requires.fourth refl refl refl c.in_err-c.ensures))

pub returns-then-c-ne0 : goal.returns-then-c-ne0
returns-then-c-ne0 c =
    last_bad _ c.args.out.now
    (two_bad_bits _ _ _ _ _ _ c.in_ok-c.c c.requires.third c.requires.fourth refl refl c.in_ok-c.ensures.0 c.if-c-ne0.true)

pub returns : goal.returns
returns c =
    let a = c.in_ok-a in
    let b = c.in_ok-b in
    let r = c.in_ok-c in
    last_good _ ((a.a * 4 + b.b / 16) ∷ (b.b % 16 * 16 + r.c / 4) ∷ []) c.args.out.now _
    (two_good _ _ _ _ a.a b.b r.c c.requires.third c.requires.fourth a.ensures.0 b.ensures.0 r.ensures.0
    a.ensures.1 b.ensures.1 r.ensures.1 c.if-c-ne0.false)
    (set_twice_pasted c.args.out.now 0 (a.a * 4 + b.b / 16) (b.b % 16 * 16 + r.c / 4) (omega arith))
