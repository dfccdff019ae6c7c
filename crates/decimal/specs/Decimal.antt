-- Numbers in decimal, as text in ASCII.
-- Assumes nothing.
use Rattle.std.specs.Prelude.{ℕ, zero, suc, ◌+◌, ◌/◌, ◌%◌, ◌^◌, List, [], ◌∷◌, ltb}
use Rattle.laws.specs.Choice.{pick}

-- the last w decimal digits of n, the highest first, in ASCII
unfoldable pub digits : ℕ → ℕ → List ℕ
digits zero n = []
digits (suc w) n = (48 + n / 10 ^ w % 10) ∷ digits w n

-- how many decimal digits n has, of which at most so many stand after the first
unfoldable pub digit_count_def : ℕ → ℕ → ℕ
digit_count_def zero n = 1
digit_count_def (suc more) n = pick (ltb n 10) 1 (suc (digit_count_def more (n / 10)))

-- n in decimal, where it has at most so many digits after the first: no leading zero, and 0 is one digit
abbrev pub decimal : ℕ → ℕ → List ℕ
decimal more n = digits (digit_count_def more n) n
