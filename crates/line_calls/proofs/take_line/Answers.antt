-- `line_calls::take_line` meets its contract: what the reader gave fits the numbers for it.
-- Assumes nothing.
use Rattle.widths.proofs.Lines.{taken_small}
use Rattle.line_calls.proofs.take_line.Goals as goal

pub told_line-requires : goal.told_line-requires
told_line-requires c =
    let a = c.args in
    taken_small a.line.now a.packet.now c.take_line-taken.result c.take_line-taken.new.p c.reader_from-before.result c.take_line-taken.ensures
