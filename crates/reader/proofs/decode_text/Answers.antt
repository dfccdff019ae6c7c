-- `reader::decode_text` meets its contract: the part of the line from its third byte to its last but one is its text.
-- Assumes nothing.
use Rattle.frame.specs.Line.{text_of}
use Rattle.reader.proofs.decode_text.Goals as goal

pub returns : goal.returns
unfolding text_of
returns c = c.decode.ensures
