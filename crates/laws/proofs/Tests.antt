-- What the search knows of tests, of pairs of them and of choices.
-- Assumes nothing.
use Rattle.std.proofs.lemmas.Bool.Decides.{nat_tests}
use Rattle.laws.proofs.Choice.{both_yes, both_no, both_last_no, pick_yes, pick_no}

-- each test with what it tells, and a pair and a choice at each way of their first test
pub ruleset tests = (nat_tests, both_yes, both_no, both_last_no, pick_yes, pick_no)
