-- Only proofs need this file: what the inner functions of the text promise each other.
-- Assumes nothing.
use Rattle.std.specs.Prelude.{ℕ, ◌+◌, ◌*◌, List, get_or}
use Rattle.transcript.specs.declared.Printed.{Printed}

-- the numbers of answer k that are printed
abbrev pub printed_at : List ℕ → ℕ → Printed
printed_at answers k =
    record { refusal = get_or answers (4 * k) 0; replied = get_or answers (4 * k + 1) 0; rc = get_or answers (4 * k + 2) 0 }
