-- `collector::first_newline` meets its contract: the library's search gives the first 0A.
-- Assumes nothing.
use Rattle.collector.proofs.Search.{newline_found}
use Rattle.collector.proofs.first_newline.Goals as goal

pub returns : goal.returns
returns c = newline_found c.args.s.now c.memchr.result c.memchr.ensures
