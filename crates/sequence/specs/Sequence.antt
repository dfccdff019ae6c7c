-- The number after a sequence number.
-- Assumes nothing.
use Rattle.std.specs.Prelude.{ℕ, ◌+◌, ◌%◌}

-- "The sequence number that follows 255 is 0."
unfoldable pub next_sequence_def : ℕ → ℕ
next_sequence_def n = (n + 1) % 256
