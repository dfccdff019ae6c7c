-- `encoder::Table::encode_two`: four stores, of three characters and `=`, are the text of two bytes.
-- Assumes nothing.
use Rattle.encoder.proofs.Texts.{text_two}
use Rattle.encoder.proofs.Table.encode_two.Goals as goal

pub returns : goal.returns
returns c =
    let a = c.args in
    text_two a.out.now a.a a.b c.letter.result c.letter-2.result c.letter-3.result c.requires c.letter.ensures c.letter-2.ensures c.letter-3.ensures
