-- `cbor::number_in` meets its contract: the number so far, with the bytes that are left read after it, is the whole number.
-- Assumes nothing.
use Rattle.std.proofs.Common.{◌≡◌, ◌^◌, ◌<◌, drop}
use Rattle.cbor.specs.Read.{be_after}
use Rattle.cbor.proofs.number_in.Given as goal

abbrev pub invariant-loop-b : goal.invariant-loop-b
invariant-loop-b l = (be_after l.n (drop l.b-index l.s) ≡ be_after 0 l.s) × (l.n < 256 ^ l.b-index)
