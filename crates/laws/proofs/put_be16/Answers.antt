-- `laws::put_be16` meets its contract: two stores one after the other are the two bytes written.
-- Assumes nothing.
use Prim.Native.Nat.{◌/◌, ◌%◌}
use Rattle.laws.specs.Bytes.{be16}
use Rattle.laws.proofs.Lists.{set_twice_pasted}
use Rattle.laws.proofs.put_be16.Goals as goal

pub returns : goal.returns
unfolding be16
returns c = set_twice_pasted c.args.buf.now c.args.at (c.args.n / 256 % 256) (c.args.n % 256) c.requires
