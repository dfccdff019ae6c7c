-- `cbor::put_wide` meets its contract: a byte written and then a number after it are the two written at once.
-- Assumes nothing.
use Rattle.std.proofs.Common.{[], ◌∷◌, arith}
use Rattle.cbor.specs.Write.{be_bytes}
use Rattle.cbor.proofs.Numbers.{last_bytes}
use Rattle.writer.proofs.Steps.{room_second, wrote_twice}
use Rattle.cbor.proofs.put_wide.Goals as goal

pub bytes-requires : goal.bytes-requires
bytes-requires c =
    let a = c.args in
    rw (last_bytes a.w a.n _ (omega arith) c.to_be_bytes.ensures) (room_second _ _ (a.first ∷ []) (be_bytes a.w a.n) c.requires.1 c.byte.ensures)

pub returns : goal.returns
returns c =
    let a = c.args in
    wrote_twice _ _ _ (a.first ∷ []) (be_bytes a.w a.n) c.requires.1 c.byte.ensures (rw (last_bytes a.w a.n _ (omega arith) c.to_be_bytes.ensures) at c.bytes.ensures)
