-- The raw bytes of each frame as parts of what follows total: frame 0 carries total and a first part, each later frame the next part.
-- Assumes nothing.
use mathlib.Core.Path.{◌≡◌, sym}
use Prim.Native.Nat.{ℕ, ◌+◌, ◌-◌, ◌<◌}
use native.Mathlib.Nat.{sub-zero}
use native.Mathlib.Omega.{arith}
use mathlib.Core.List.{List, ◌++◌}
use lib.ListN.{length, take, drop, length-append, length-take, length-drop}
use lib.Seq.{take-add}
use Rattle.laws.specs.Bytes.{Bytes, be16}
use Rattle.laws.proofs.Lists.{take_past, drop_past, bytes_join, bytes_take, bytes_drop, be16_bytes}
use Rattle.crc.specs.Crc.{crc_of_def}
use Rattle.sender.specs.Sender.{frame_count_def, raw_of, start_of, stop_of, piece_of}
use Rattle.roundtrip.specs.Inner.{after_total}
use Rattle.sender.proofs.Count.{count_some, start_first, start_later, piece_size}

-- as many bytes follow total as it says
pub after_length : (s : List ℕ) → length (after_total s) ≡ length s + 2
unfolding be16
after_length s = length-append s (be16 (crc_of_def s))

-- a packet has four bytes more than its body
raw_length : (s : List ℕ) → length (raw_of s) ≡ length s + 4
unfolding be16 raw_of
raw_length s = simp length-append (omega arith)

-- frame 0's raw bytes: total, then a first part
pub piece_first : (s : List ℕ) → piece_of s 0 ≡ be16 (length s + 2) ++ take (stop_of (length s) 0 - 2) (after_total s)
unfolding piece_of raw_of be16
piece_first s =
    rw (start_first (length s), sub-zero)
    (take_past (be16 (length s + 2)) (after_total s) (stop_of (length s) 0) (piece_size (length s) 0 (count_some (length s))).2)

-- a later frame's raw bytes: the part from its start to its end
pub piece_later : (s : List ℕ) (k : ℕ) → 0 < k
    → piece_of s k ≡ take (stop_of (length s) k - start_of (length s) k) (drop (start_of (length s) k - 2) (after_total s))
unfolding piece_of raw_of be16
piece_later s k h = rw (drop_past (be16 (length s + 2)) (after_total s) (start_of (length s) k) (start_later (length s) k h))

-- a later frame's part goes on where the frames before it ended
pub piece_joined : (s : List ℕ) (k : ℕ) → 0 < k → k < frame_count_def (length s)
    → take (start_of (length s) k - 2) (after_total s) ++ piece_of s k ≡ take (stop_of (length s) k - 2) (after_total s)
piece_joined s k h l =
    let size = piece_size (length s) k l in
    let late = start_later (length s) k h in
    let e : start_of (length s) k - 2 + (stop_of (length s) k - start_of (length s) k) ≡ stop_of (length s) k - 2 = omega arith in
    rw (piece_later s k h, ← e) (sym (take-add (start_of (length s) k - 2) (stop_of (length s) k - start_of (length s) k) (after_total s)))

-- a frame carries a raw byte at least
pub piece_some : (s : List ℕ) (k : ℕ) → k < frame_count_def (length s) → 0 < length (piece_of s k)
unfolding piece_of
piece_some s k l =
    let size = piece_size (length s) k l in
    simp (length-take, length-drop, raw_length) (omega arith)

-- what a frame carries are bytes
pub piece_bytes : (s : List ℕ) (k : ℕ) → Bytes s → Bytes (piece_of s k)
unfolding piece_of raw_of
piece_bytes s k h =
    bytes_take (stop_of (length s) k - start_of (length s) k) (drop (start_of (length s) k) (raw_of s))
    (bytes_drop (start_of (length s) k) (raw_of s)
    (bytes_join (be16 (length s + 2)) (after_total s) (be16_bytes (length s + 2)) (bytes_join s (be16 (crc_of_def s)) h (be16_bytes (crc_of_def s)))))
