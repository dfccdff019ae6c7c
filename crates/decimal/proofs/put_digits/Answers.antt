-- `decimal::put_digits` meets its contract: the last digits are written first, and what is left of n is n without them.
-- Assumes nothing.
use Rattle.std.proofs.Common.{ℕ, ◌/◌, length, arith, ◌∙◌, ap}
use lib.ListN.{length-set}
use Rattle.decimal.proofs.Laws.{tens_none, digits_none, digits_all, digits_turn, tens_turn}
use Rattle.decimal.proofs.put_digits.Goals as goal

pub loop-i-init : goal.loop-i-init
loop-i-init c = (digits_none c.args.text.now c.args.n, tens_none (length c.args.text.now) c.args.n)

pub loop-i-preserved : goal.loop-i-preserved
loop-i-preserved c =
    let l = c.loop-i in (
      simp length-set (digits_turn l.text l.i c.args.n l.v c.loop-i-test.true (omega arith) l.invariant.0 l.invariant.1),
      simp length-set (ap (λ (v : ℕ). v / 10) l.invariant.1 ∙ tens_turn c.args.n l.i (length l.text) c.loop-i-test.true (omega arith)),
    )

pub returns : goal.returns
returns c = digits_all c.loop-i.text c.loop-i.i (length c.args.text.now) c.args.n c.loop-i-test.false c.loop-i.auto.text c.loop-i.invariant.0
