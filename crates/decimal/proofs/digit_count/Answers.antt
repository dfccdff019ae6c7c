-- `decimal::digit_count` meets its contract: the power of ten that the library finds says how many digits stand after the first.
-- Assumes nothing.
use Rattle.std.proofs.Common.{arith}
use Rattle.std.proofs.lemmas.Grind.{common_steps}
use Rattle.decimal.proofs.Laws.{count_small, count_is}
use Rattle.decimal.proofs.digit_count.Goals as goal

pub returns : goal.returns
returns c = grind (arith, common_steps, count_small, count_is)

pub returns-then-n-lt10 : goal.returns-then-n-lt10
returns-then-n-lt10 c = grind (arith, common_steps, count_small)
