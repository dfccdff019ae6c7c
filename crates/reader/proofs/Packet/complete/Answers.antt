-- `reader::Packet::complete` meets its contract: the CRC is compared before a byte is written.
-- Assumes nothing.
use mathlib.Core.Path.{sym, ap₂, ◌∙◌}
use mathlib.Core.List.{List}
use Prim.Native.Nat.{ℕ}
use Rattle.reader.specs.declared.Reader.TheVariants.{Idle}
use Rattle.reader.specs.Reader.{Outcome, body}
use Rattle.reader.proofs.Laws.{completed_wrong, completed_right}
use Rattle.reader.proofs.Packet.complete.Goals as goal

pub returns-then-came-from : goal.returns-then-came-from
returns-then-came-from c =
    let a = c.args.self in
    sym (completed_wrong a.total a.come a.first c.args.x.now c.args.p.now
    (λ e. c.if-came-from.true (c.crc_came-came.ensures ∙ e ∙ sym (c.from.ensures ∙ c.crc_due-due.ensures))))

pub returns : goal.returns
returns c =
    let a = c.args.self in
    let kept : ℕ → List ℕ → Outcome = λ n p. record { says = body n; reader = Idle; buffer = p } in
    ap₂ kept c.body.ensures c.fill.ensures
    ∙ sym (completed_right a.total a.come a.first c.args.x.now c.args.p.now
    (sym c.crc_came-came.ensures ∙ c.if-came-from.false ∙ c.from.ensures ∙ c.crc_due-due.ensures))
