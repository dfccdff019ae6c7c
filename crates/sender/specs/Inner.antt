-- Only proofs need this file: a frame's raw bytes in three parts, the packet's total in frame 0, a run of the body, and the CRC in the last frame.
-- Assumes nothing.
use Rattle.std.specs.Prelude.{ℕ, ◌+◌, ◌-◌, min, List, [], eqb, length, take, drop}
use Rattle.laws.specs.Choice.{pick}
use Rattle.laws.specs.Bytes.{be16}
use Rattle.crc.specs.Crc.{crc_of_def}
use Rattle.sender.specs.Sender.{frame_count_def, start_of, stop_of}

-- total, in frame 0
unfoldable pub head_of : ℕ → ℕ → List ℕ
head_of b k = pick (eqb k 0) (be16 (b + 2)) []

-- where frame k's run of the body begins
abbrev pub from_of : ℕ → ℕ → ℕ
from_of b k = start_of b k - 2

-- where it ends
abbrev pub to_of : ℕ → ℕ → ℕ
to_of b k = min (stop_of b k - 2) b

-- frame k's run of the body
unfoldable pub middle_of : List ℕ → ℕ → List ℕ
middle_of s k = take (to_of (length s) k - from_of (length s) k) (drop (from_of (length s) k) s)

-- the CRC, in the last frame
unfoldable pub tail_of : List ℕ → ℕ → List ℕ
tail_of s k = pick (eqb (k + 1) (frame_count_def (length s))) (be16 (crc_of_def s)) []
