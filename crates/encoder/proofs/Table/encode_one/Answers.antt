-- `encoder::Table::encode_one`: four stores, of two characters and `==`, are the text of one byte.
-- Assumes nothing.
use Rattle.encoder.proofs.Texts.{text_one}
use Rattle.encoder.proofs.Table.encode_one.Goals as goal

pub returns : goal.returns
returns c =
    let a = c.args in
    text_one a.out.now a.a c.letter.result c.letter-2.result c.requires c.letter.ensures c.letter-2.ensures
