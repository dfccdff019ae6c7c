-- `encoder::Table::encode_group`: four stores of characters are the text of three bytes.
-- Assumes nothing.
use lib.ListN.{get_or}
use Rattle.encoder.proofs.Texts.{text_three}
use Rattle.encoder.proofs.Table.encode_group.Goals as goal

pub returns : goal.returns
returns c =
    let a = c.args in
    text_three a.out.now (get_or a.raw.now 0 0) (get_or a.raw.now 1 0) (get_or a.raw.now 2 0) c.letter-p.result
    c.letter-q.result c.letter-r.result c.letter-s.result c.requires.out_bound
    c.letter-p.ensures c.letter-q.ensures c.letter-r.ensures c.letter-s.ensures
