-- `crc::continued`: a byte takes the register one step on, and where none is left it is the register after all of them.
-- Assumes nothing.
use mathlib.Core.Path.{sym, ap, ◌∙◌}
use mathlib.Core.List.{List}
use Prim.Native.Nat.{ℕ, ◌+◌}
use native.Mathlib.Omega.{arith}
use lib.ListN.{drop, drop_of_length-le}
use Rattle.crc.specs.Crc.{onward}
use Rattle.crc.proofs.Laws.{onward_none, onward_turn}
use Rattle.crc.proofs.continued.Goals as goal

pub loop-b-preserved : goal.loop-b-preserved
loop-b-preserved c =
    let s = c.args.s.now in
    let i = c.loop-b.b-index in
    ap (λ (r : ℕ). onward r (drop (i + 1) s)) c.step-r.ensures ∙ onward_turn c.loop-b.r i s (omega arith) ∙ c.loop-b.invariant

pub returns : goal.returns
returns c =
    sym (onward_none c.loop-b.r)
    ∙ ap (λ (t : List ℕ). onward c.loop-b.r t) (sym (drop_of_length-le c.args.s.now c.loop-b-test.false))
    ∙ c.loop-b.invariant
