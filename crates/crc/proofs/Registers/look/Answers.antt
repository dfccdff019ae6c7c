-- `crc::Registers::look`: what stands in the table at a byte is the register after it, from 0.
-- Assumes nothing.
use borrow.Author.Rules.{rules}
use Rattle.laws.proofs.Table.{tab_entry}
use Rattle.crc.specs.Crc.{byte}
use Rattle.crc.proofs.Registers.look.Goals as goal

pub returns : goal.returns
returns c =
    let a = c.args in
    rw c.from.ensures (tab_entry (byte 0) 256 a.k a.self.now.entries a.self.now.each (search rules))
