-- `encoder::Table::letter`: what stands in the table at a number is its character.
-- Assumes nothing.
use Rattle.strict_base64.specs.Base64.{char}
use Rattle.laws.proofs.Table.{tab_entry}
use Rattle.encoder.proofs.Table.letter.Goals as goal

pub returns : goal.returns
returns c =
    let a = c.args in
    rw c.from.ensures (tab_entry char 64 a.v a.self.now.letters a.self.now.each c.requires)
