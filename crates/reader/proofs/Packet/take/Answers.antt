-- `reader::Packet::take` meets its contract: its tests are those of the definition, in the same order.
-- Assumes nothing.
use mathlib.Core.Path.{sym, ap₂, ◌∙◌}
use mathlib.Core.List.{List}
use Prim.Native.Nat.{ℕ}
use native.Mathlib.Omega.{arith}
use Rattle.reader.specs.declared.Reader.{Reader}
use Rattle.reader.specs.Reader.{Outcome, more}
use Rattle.reader.proofs.Laws.{absorb_short, absorb_many, absorb_more, absorb_last}
use Rattle.reader.proofs.Packet.take.Goals as goal

pub returns-then-p-body : goal.returns-then-p-body
returns-then-p-body c =
    let a = c.args.self in sym (absorb_short a.total a.come a.first c.args.x.now c.args.p.now (omega arith))

pub returns-then-self-there : goal.returns-then-self-there
returns-then-self-there c =
    let a = c.args.self in sym (absorb_many a.total a.come a.first c.args.x.now c.args.p.now (omega arith) (omega arith))

pub returns-then-there-self : goal.returns-then-there-self
returns-then-there-self c =
    let a = c.args.self in
    let wanting : Reader → List ℕ → Outcome = λ r p. record { says = more; reader = r; buffer = p } in
    ap₂ wanting c.wait.ensures c.fill.ensures
    ∙ sym (absorb_more a.total a.come a.first c.args.x.now c.args.p.now (omega arith) (omega arith))

pub returns : goal.returns
returns c =
    let a = c.args.self in
    c.complete.ensures
    ∙ sym (absorb_last a.total a.come a.first c.args.x.now c.args.p.now (omega arith) (omega arith) (omega arith))
