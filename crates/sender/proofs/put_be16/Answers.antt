-- `sender::put_be16` meets its contract: the two bytes stand where the writer stood.
-- Assumes nothing.
use mathlib.Core.Path.{refl}
use native.Mathlib.Omega.{arith}
use Rattle.sender.proofs.Laws.{be16_length}
use Rattle.sender.proofs.put_be16.Goals as goal

pub put_be16-requires : goal.put_be16-requires
put_be16-requires c = omega (arith, be16_length c.args.n)

pub returns : goal.returns
returns c = record { same_buffer = refl; place = omega (arith, be16_length c.args.n); written = c.put_be16.ensures }
