-- `crc::Registers::step`: what is looked up stands for the eight bits that leave the register.
-- Assumes nothing.
use mathlib.Core.Path.{sym, ap, ◌∙◌}
use Prim.Native.Nat.{◌*◌, ◌%◌}
use lib.Bits.{bit_xor}
use borrow.Author.Rules.{rules}
use Rattle.crc.proofs.Xor.{byte_step}
use Rattle.crc.proofs.Registers.step.Goals as goal

pub returns : goal.returns
returns c =
    let a = c.args in
    ap (bit_xor (a.c % 256 * 256)) c.look.ensures ∙ sym (byte_step a.c a.b (search rules) (search rules))
