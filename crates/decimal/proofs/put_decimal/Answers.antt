-- `decimal::put_decimal` meets its contract: as many digits are written as the number has.
-- Assumes nothing.
use Rattle.std.proofs.Common.{refl, arith}
use Rattle.decimal.specs.Decimal.{digit_count_def}
use Rattle.decimal.proofs.Laws.{digits_length, put_all}
use Rattle.decimal.proofs.put_decimal.Goals as goal

pub overflow_add-next : goal.overflow_add-next
overflow_add-next c = omega (arith, digits_length (digit_count_def c.args.more c.args.n) c.args.n)

pub slice_bounds-put_digits-end : goal.slice_bounds-put_digits-end
slice_bounds-put_digits-end c = omega (arith, digits_length (digit_count_def c.args.more c.args.n) c.args.n)

pub returns : goal.returns
returns c =
    let w = c.args.out.now in
    let p = put_all w.buf.now c.put_digits.new.text w.at c.digit_count.result c.args.more c.args.n c.digit_count.ensures.0 c.requires c.put_digits.ensures in
    record { same_buffer = refl; place = p.0; written = p.1 }
