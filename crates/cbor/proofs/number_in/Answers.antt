-- `cbor::number_in` meets its contract: the number so far, with the bytes that are left read after it, is the whole number.
-- Assumes nothing.
use Rattle.std.proofs.Common.{ℕ, ◌+◌, ◌*◌, ◌^◌, ◌<◌, arith, drop-cons, add-one}
use lib.ListN.{drop_of_length-le}
use Rattle.cbor.specs.Read.{be_after}
use Rattle.cbor.proofs.Numbers.{byte_more, eight_bytes}
use Rattle.cbor.proofs.number_in.Goals as goal

pub overflow_mul-n : goal.overflow_mul-n
overflow_mul-n c =
    let i : ℕ = c.loop-b.b-index in
    let less : c.loop-b.n * 256 + 0 < 2 ^ 64 =
    eight_bytes _ (i + 1) (omega arith) (byte_more c.loop-b.n 0 i c.loop-b.invariant.1 (omega arith)) in
    omega arith

pub overflow_add-n : goal.overflow_add-n
overflow_add-n c =
    let i : ℕ = c.loop-b.b-index in
    let less : c.loop-b.n * 256 + c.from.result < 2 ^ 64 =
    eight_bytes _ (i + 1) (omega arith) (byte_more c.loop-b.n c.from.result i c.loop-b.invariant.1 (omega (arith, c.type_inv.s i))) in
    omega arith

pub loop-b-preserved : goal.loop-b-preserved
unfolding be_after
loop-b-preserved c =
    let i : ℕ = c.loop-b.b-index in (
      rw (add-one, c.from.ensures) (rw (drop-cons c.args.s.now i 0 (omega arith)) at c.loop-b.invariant.0),
      byte_more c.loop-b.n c.from.result i c.loop-b.invariant.1 (omega (arith, c.type_inv.s i)),
    )

pub returns : goal.returns
unfolding be_after
returns c = rw (drop_of_length-le c.args.s.now c.loop-b-test.false) at c.loop-b.invariant.0
