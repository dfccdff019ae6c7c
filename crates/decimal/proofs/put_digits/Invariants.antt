-- `decimal::put_digits` meets its contract: the last digits are written first, and what is left of n is n without them.
-- Assumes nothing.
use Rattle.std.proofs.Common.{◌≡◌, ◌-◌, ◌/◌, ◌^◌, length, drop}
use Rattle.decimal.specs.Decimal.{digits}
use Rattle.decimal.proofs.put_digits.Given as goal

abbrev pub invariant-loop-i : goal.invariant-loop-i
invariant-loop-i l = (drop l.i l.text ≡ digits (length l.text - l.i) l.n) × (l.v ≡ l.n / 10 ^ (length l.text - l.i))
