-- `reader::Packet::crc_due` meets its contract: the body stands in the buffer and then in x, and the CRC of two runs is that of the second continued from the first.
-- Assumes nothing.
use mathlib.Core.Path.{◌≡◌, sym, ap, ◌∙◌}
use mathlib.Core.List.{List}
use Prim.Native.Nat.{ℕ, ◌-◌}
use native.Mathlib.Omega.{arith}
use lib.ListN.{take}
use Rattle.crc.specs.Crc.{onward, crc_of_def}
use Rattle.crc.proofs.Laws.{onward_join}
use Rattle.reader.proofs.Laws.{due_both, filled_none}
use Rattle.reader.proofs.Packet.crc_due.Goals as goal

pub returns-then-self-body : goal.returns-then-self-body
returns-then-self-body c =
    let a = c.args.self in
    let x = c.args.x.now in
    let p = c.args.p.now in
    let n : c.body-body.result - a.come ≡ a.total - 2 - a.come = omega arith in
    c.continued.ensures
    ∙ ap (λ (k : ℕ). onward k (take (c.body-body.result - a.come) x)) c.continued-c.ensures
    ∙ ap (λ (k : ℕ). onward (onward 0 (take a.come p)) (take k x)) n
    ∙ sym (onward_join 0 (take a.come p) (take (a.total - 2 - a.come) x))
    ∙ ap crc_of_def (sym (due_both a.total a.come x p (omega arith) (omega arith) (omega arith)))

pub returns-else-self-body : goal.returns-else-self-body
returns-else-self-body c =
    let a = c.args.self in
    c.continued-else-self-body.ensures
    ∙ ap (λ (n : ℕ). crc_of_def (take n c.args.p.now)) c.body-body.ensures
    ∙ ap (λ (l : List ℕ). crc_of_def (take (a.total - 2) l)) (sym (filled_none a.total a.come c.args.x.now c.args.p.now (omega arith)))
