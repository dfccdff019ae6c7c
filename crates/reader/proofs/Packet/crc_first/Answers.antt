-- `reader::Packet::crc_first` meets its contract: the CRC bytes follow the body in x, or the first is the record's.
-- Assumes nothing.
use mathlib.Core.Path.{◌≡◌, ap, ◌∙◌}
use native.Mathlib.Nat.{add-zero}
use native.Mathlib.Omega.{arith}
use Prim.Native.Nat.{ℕ, ◌-◌}
use lib.ListN.{get_or}
use lib.Seq.{get_or-drop}
use Rattle.reader.proofs.Laws.{crc_in_frame, crc_in_record}
use Rattle.reader.proofs.Packet.crc_first.Goals as goal

pub returns-then-self-body : goal.returns-then-self-body
returns-then-self-body c =
    let a = c.args.self in
    let x = c.args.x.now in
    let n : c.body-body.result - a.come ≡ a.total - 2 - a.come = omega arith in
    rw (crc_in_frame a.total a.come a.first x (omega arith), get_or-drop, add-zero)
    (c.byte_at.ensures ∙ ap (λ (i : ℕ). get_or x i 0) n)

pub returns-else-self-body : goal.returns-else-self-body
returns-else-self-body c =
    let a = c.args.self in rw (crc_in_record a.total a.come a.first c.args.x.now (omega arith))
