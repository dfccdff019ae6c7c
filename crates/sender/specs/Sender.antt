-- The frame sender: which lines a body becomes, what it answers to a body and a frame number, and what becomes of the lent buffer.
-- Assumes nothing.
use Rattle.std.specs.Prelude.{ℕ, zero, suc, ◌+◌, ◌*◌, ◌-◌, ◌/◌, ◌≤◌, min, Bool, not, List, [], ◌∷◌, ◌++◌, ltb, leb, eqb, length, take, drop, Result, Ok, Err}
use Rattle.laws.specs.Choice.{pick, both}
use Rattle.laws.specs.Bytes.{pasted, be16}
use Rattle.refusal.specs.Number.{number_of}
use Rattle.crc.specs.Crc.{crc_of_def}
use Rattle.frame.specs.Line.{longest, raw_most, initial, partial, frame}
use Rattle.refusal.specs.declared.Refusal.{Refusal}
use Rattle.sender.specs.declared.Sent.{Sent}

-- a body of this many bytes or more takes more than one frame
abbrev pub several_from : ℕ
several_from = 90

-- "A body of 89 bytes or fewer now goes in one frame.": with total and CRC
abbrev pub one_frame : ℕ → Bool
one_frame b = ltb b several_from

-- the most body bytes of a frame that carries total or the CRC too: 91
abbrev pub body_most : ℕ
body_most = raw_most - 2

-- the longest body in two frames, one with total and one with the CRC: 182
abbrev pub two_frames : ℕ
two_frames = 2 * body_most

-- "The frame count for a body of b bytes .. is 2 plus (b - 182) / 93 rounded up, or 2 where b is at most 182." "The count formula holds
-- from 90 on"; one frame below
unfoldable pub frame_count_def : ℕ → ℕ
frame_count_def b = pick (one_frame b) 1 (pick (leb b two_frames) 2 (2 + (b - two_frames + (raw_most - 1)) / raw_most))

-- "2 + 89 + 2 = 93 fits": a body's frames carry its bytes, total and CRC, and no fewer frames of at most 93 raw bytes could
abbrev pub FewestFrames : Type 0
FewestFrames = (b : ℕ) → (b + 4 ≤ raw_most * frame_count_def b) × ((n : ℕ) → b + 4 ≤ raw_most * n → frame_count_def b ≤ n)

-- "The raw bytes of a packet are: total (2 bytes, big-endian, body length plus 2), body, CRC (2 bytes, big-endian)."
unfoldable pub raw_of : List ℕ → List ℕ
raw_of s = be16 (length s + 2) ++ (s ++ be16 (crc_of_def s))

-- where frame k's raw bytes begin, for a body of b bytes: each frame before it is full, and the CRC is left to the last
unfoldable pub start_of : ℕ → ℕ → ℕ
start_of b k = min (raw_most * k) (b + 2)

-- where they end: at the packet's end in the last frame
unfoldable pub stop_of : ℕ → ℕ → ℕ
stop_of b k = pick (eqb (k + 1) (frame_count_def b)) (b + 4) (start_of b (k + 1))

-- frame k's raw bytes
unfoldable pub piece_of : List ℕ → ℕ → List ℕ
piece_of s k = take (stop_of (length s) k - start_of (length s) k) (drop (start_of (length s) k) (raw_of s))

-- frame k's marker
abbrev pub marker_of : ℕ → List ℕ
marker_of k = pick (eqb k 0) initial partial

-- the line of frame k
unfoldable pub frame_of : List ℕ → ℕ → List ℕ
frame_of s k = frame (marker_of k) (piece_of s k)

-- "while more than 91 are left, a partial frame carries 93 of them, or all if fewer; the last frame carries the rest, perhaps none,
-- and the CRC": the raw bytes of those frames, where the first argument is at least the number of bytes left
unfoldable pub later_cuts : ℕ → List ℕ → List ℕ → List (List ℕ)
later_cuts zero left crc = (left ++ crc) ∷ []
later_cuts (suc n) left crc = pick (ltb body_most (length left)) (take raw_most left ∷ later_cuts n (drop raw_most left) crc) ((left ++ crc) ∷ [])

-- the raw bytes of each frame, as the paper cuts them: "A body of 89 bytes or fewer now goes in one frame." "Otherwise frame 0 carries
-- total and the first 91 body bytes, or all if fewer; then .."
unfoldable pub cuts : List ℕ → List (List ℕ)
cuts s =
    pick (one_frame (length s))
    (raw_of s ∷ [])
    ((be16 (length s + 2) ++ take body_most s) ∷ later_cuts (length s) (drop body_most s) (be16 (crc_of_def s)))

-- what the sender says, in the paper's terms: a frame of this length, and the frame count; or the refusal of this number
pub data Told : Type 0 where
  is_frame : ℕ → ℕ → Told
  refused : ℕ → Told

-- each answer's meaning
abbrev pub told : Result Sent Refusal → Told
told (Ok s) = is_frame s.length s.count
told (Err r) = refused (number_of r)

-- all that a call leaves: what it said, and the lent buffer
pub record Outcome : Type 0 where
  pub says : Told
  pub buffer : List ℕ

-- the outcome of a call that gave s and left out in its buffer
abbrev pub outcome : Result Sent Refusal → List ℕ → Outcome
outcome s out = record { says = told s; buffer = out }

-- "The sender refuses 12 for an output under 127 bytes or a body outside 8 to 65,533."
unfoldable pub sendable : ℕ → ℕ → Bool
sendable b room = both (leb longest room) (both (leb 8 b) (leb b 65533))

-- "The sender writes frame number k (from 0) of a body into a lent buffer of at least 127 bytes and gives its length and the frame count;
-- bytes after the frame stay.": refusals 12 and 13, then the frame
unfoldable pub send_frame_def : List ℕ → ℕ → List ℕ → Outcome
send_frame_def s k out =
    pick (not (sendable (length s) (length out))) (record { says = refused 12; buffer = out })
    (pick (not (ltb k (frame_count_def (length s)))) (record { says = refused 13; buffer = out })
    (record { says = is_frame (length (frame_of s k)) (frame_count_def (length s)); buffer = pasted out 0 (frame_of s k) }))
