-- `smp::put_header` meets its contract: four pairs of bytes one after the other are the header.
-- Assumes nothing.
use Rattle.smp.proofs.Writing.{header_put}
use Rattle.smp.proofs.put_header.Goals as goal

pub returns : goal.returns
returns c = header_put c.args.h c.args.buf.now _ _ _ _ c.requires c.put.ensures c.put_be16.ensures c.put_be16-2.ensures c.put-2.ensures
