-- `reader::Packet::fill` meets its contract: a first part of x is body, or nothing where the body is there.
-- Assumes nothing.
use mathlib.Core.Path.{sym, ap, ◌∙◌}
use mathlib.Core.List.{List}
use Prim.Native.Nat.{ℕ, ◌-◌}
use native.Mathlib.Omega.{arith}
use lib.ListN.{take}
use Rattle.std.proofs.lemmas.List.{take_min}
use Rattle.laws.specs.Bytes.{pasted}
use Rattle.reader.proofs.Laws.{filled_part, filled_none}
use Rattle.reader.proofs.Packet.fill.Goals as goal

pub returns-then-self-body : goal.returns-then-self-body
returns-then-self-body c =
    let a = c.args.self in
    let x = c.args.x.now in
    let p = c.args.p.now in
    c.put.ensures
    ∙ ap (λ (n : ℕ). pasted p a.come (take n x)) c.min-n.ensures
    ∙ ap (λ (l : List ℕ). pasted p a.come l) (take_min (c.body-body.result - a.come) x)
    ∙ ap (λ (b : ℕ). pasted p a.come (take (b - a.come) x)) c.body-body.ensures
    ∙ sym (filled_part a.total a.come x p)

pub returns-else-self-body : goal.returns-else-self-body
returns-else-self-body c =
    let a = c.args.self in sym (filled_none a.total a.come c.args.x.now c.args.p.now (omega arith))
