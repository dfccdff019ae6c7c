-- `reader::Packet::crc_came` meets its contract: the CRC bytes follow the body in x, or the first is the record's and the second the first of x.
-- Assumes nothing.
use mathlib.Core.Path.{◌≡◌, ap, ap₂, ◌∙◌}
use native.Mathlib.Omega.{arith}
use Prim.Native.Nat.{ℕ, ◌-◌, ◌+◌, ◌*◌}
use lib.ListN.{drop}
use Rattle.laws.specs.Bytes.{of_be16}
use Rattle.reader.proofs.Laws.{crc_in_frame, crc_in_record}
use Rattle.reader.proofs.Packet.crc_came.Goals as goal

pub returns-then-self-body : goal.returns-then-self-body
returns-then-self-body c =
    let a = c.args.self in
    let x = c.args.x.now in
    let n : c.body-body.result - a.come ≡ a.total - 2 - a.come = omega arith in
    rw (crc_in_frame a.total a.come a.first x (omega arith))
    (c.be16_at.ensures.0 ∙ ap (λ (i : ℕ). of_be16 (drop i x)) n)

pub returns-else-self-body : goal.returns-else-self-body
unfolding of_be16
returns-else-self-body c =
    let a = c.args.self in
    rw (crc_in_record a.total a.come a.first c.args.x.now (omega arith))
    (ap₂ (λ (h l : ℕ). h * 256 + l) c.from.ensures (c.from-else-self-body.ensures ∙ c.byte_at.ensures))
