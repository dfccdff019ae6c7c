-- `decoder::Table::look`: what stands in the table at a character is the number that it stands for.
-- Assumes nothing.
use borrow.Author.Rules.{rules}
use Rattle.strict_base64.specs.Base64.{value}
use Rattle.laws.proofs.Table.{tab_entry}
use Rattle.decoder.proofs.Table.look.Goals as goal

pub returns : goal.returns
returns c =
    let a = c.args in
    rw c.from.ensures (tab_entry value 256 a.c a.self.now.numbers a.self.now.each (search rules))
