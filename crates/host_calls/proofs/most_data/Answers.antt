-- `host_calls::most_data` meets its contract: the most data is less than a packet, and so fits 32 bits.
-- Assumes nothing.
use native.Mathlib.Omega.{arith}
use Rattle.sizes.proofs.Size.{most_bound}
use Rattle.host_calls.proofs.most_data.Goals as goal

pub overflow_cast-result : goal.overflow_cast-result
overflow_cast-result c =
    let a = c.args in
    omega (arith, c.most_data.ensures, most_bound a.out_len a.off a.length a.tag_len)
