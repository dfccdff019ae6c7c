-- The sender's formula cuts a packet as the paper says: as many frames as the count, with the paper's raw bytes.
-- Assumes nothing.
use mathlib.Core.Path.{◌≡◌, refl, ◌∙◌}
use Prim.Native.Nat.{ℕ, zero, suc, ◌+◌, ◌*◌, ◌-◌, ◌≤◌, ◌<◌, min}
use native.Mathlib.Omega.{arith}
use native.Mathlib.Decide.{dec_le}
use mathlib.Core.List.{List, [], ◌∷◌, ◌++◌}
use borrow.Author.Tests.{lt-ltb, le-ltb}
use lib.ListN.{length, take, drop, length-drop, drop_of_length-le}
use lib.Seq.{take_all, take-append-le, drop-append-le, drop-drop}
use Rattle.laws.specs.Bytes.{be16}
use Rattle.laws.proofs.Choice.{pick_yes, pick_no}
use Rattle.crc.specs.Crc.{crc_of_def}
use Rattle.laws.specs.Table.{tab}
use Rattle.frame.specs.Line.{raw_most}
use Rattle.sender.specs.Sender.{several_from, body_most, frame_count_def, raw_of, start_of, stop_of, piece_of, later_cuts, cuts}
use Rattle.roundtrip.specs.RoundTrip.{pieces, CutsAgree}
use Rattle.roundtrip.specs.Inner.{after_total}
use Rattle.sender.proofs.Count.{count_one, count_several, count_next, count_last, start_is, start_later, stop_next, stop_last}
use Rattle.roundtrip.proofs.Pieces.{after_length, piece_first, piece_later}

-- a part that ends within the first of two lists, or where that ends, is a part of the first
cut_short : (m : ℕ) (s c : List ℕ) → take (min m (length s)) (s ++ c) ≡ take m s
cut_short m s c = take-append-le (min m (length s)) s c (omega arith) ∙ elim (dec_le m (length s)) [
  | yes g ↦ let e : min m (length s) ≡ m = omega arith in rw e
  | no g ↦ let e : min m (length s) ≡ length s = omega arith in rw (e, take_all (length s) s (omega arith), take_all m s (omega arith))
]

-- the body's bytes left before a frame are those after a full frame for each before it, less total's two
left_is : (s : List ℕ) (k : ℕ) → drop (start_of (length s) k - 2) s ≡ drop (raw_most * k - 2) s
left_is s k =
    let e = start_is (length s) k in
    elim (dec_le (raw_most * k) (length s + 2)) [
      | yes g ↦ let n : start_of (length s) k ≡ raw_most * k = omega arith in rw n
      | no g ↦ rw (drop_of_length-le s {i = start_of (length s) k - 2} (omega arith), drop_of_length-le s {i = raw_most * k - 2} (omega arith))
    ]

-- those left before the next frame are what is left after one more
left_next : (s : List ℕ) (k : ℕ) → 0 < k → drop raw_most (drop (raw_most * k - 2) s) ≡ drop (raw_most * suc k - 2) s
left_next s k h =
    let e : raw_most * k - 2 + raw_most ≡ raw_most * suc k - 2 = omega arith in
    rw (drop-drop raw_most (raw_most * k - 2) s, e)

-- more than 91 are left before a frame between the first and the last
left_many : (s : List ℕ) (k : ℕ) → 0 < k → k + 1 < frame_count_def (length s) → body_most < length (drop (raw_most * k - 2) s)
left_many s k h l = rw length-drop (omega (arith, count_next (length s) k l))

-- at most 91 are left before the last
left_few : (s : List ℕ) (k : ℕ) → 0 < k → k + 1 ≡ frame_count_def (length s) → length (drop (raw_most * k - 2) s) ≤ body_most
left_few s k h e = rw length-drop (omega (arith, count_last (length s) k e))

-- the first frame of several carries total and 91 bytes, or all if fewer
cut_first : (s : List ℕ) → 1 < frame_count_def (length s) → piece_of s 0 ≡ be16 (length s + 2) ++ take body_most s
cut_first s h =
    let e : stop_of (length s) 0 - 2 ≡ min body_most (length s) = omega (arith, stop_next (length s) 0 (omega arith), start_is (length s) 1) in
    piece_first s ∙ rw (e, cut_short body_most s (be16 (crc_of_def s)))

-- a frame between the first and the last carries 93 of the bytes left, or all if fewer
cut_next : (s : List ℕ) (k : ℕ) → 0 < k → k + 1 < frame_count_def (length s) → piece_of s k ≡ take raw_most (drop (raw_most * k - 2) s)
cut_next s k h l =
    let long = count_next (length s) k l in
    let start : start_of (length s) k ≡ raw_most * k = omega (arith, start_is (length s) k) in
    let left = length-drop (raw_most * k - 2) s in
    let n : stop_of (length s) k - raw_most * k ≡ min raw_most (length (drop (raw_most * k - 2) s)) =
    omega (arith, stop_next (length s) k l, start_is (length s) (suc k))
    in
    piece_later s k h ∙ rw
    (start, n, drop-append-le (raw_most * k - 2) s (be16 (crc_of_def s)) (omega arith), cut_short raw_most (drop (raw_most * k - 2) s) (be16 (crc_of_def s)))

-- the last frame of several carries the bytes left, and the CRC
cut_last : (s : List ℕ) (k : ℕ) → 0 < k → k + 1 ≡ frame_count_def (length s) → piece_of s k ≡ drop (raw_most * k - 2) s ++ be16 (crc_of_def s)
cut_last s k h e =
    let start = start_is (length s) k in
    let late = start_later (length s) k h in
    let stop = stop_last (length s) k e in
    piece_later s k h
    ∙ take_all (stop_of (length s) k - start_of (length s) k) (drop (start_of (length s) k - 2) (after_total s)) (rw (length-drop, after_length) (omega arith))
    ∙ drop-append-le (start_of (length s) k - 2) s (be16 (crc_of_def s)) (omega arith)
    ∙ rw (left_is s k)

-- the only frame carries the whole packet
cut_only : (s : List ℕ) → length s < several_from → piece_of s 0 ≡ raw_of s
unfolding raw_of
cut_only s h =
    let stop = stop_last (length s) 0 (omega (arith, count_one (length s) h)) in
    piece_first s ∙ rw (take_all (stop_of (length s) 0 - 2) (after_total s) (rw after_length (omega arith)))

-- where at most 91 bytes are left the paper has one frame more
later_last : (n : ℕ) (left crc : List ℕ) → length left ≤ body_most → later_cuts n left crc ≡ (left ++ crc) ∷ []
unfolding later_cuts
later_last zero left crc h = refl
later_last (suc n) left crc h = rw (le-ltb body_most (length left) h, pick_no)

-- the frames from number k on are the paper's
later : (s : List ℕ) (n k fuel : ℕ) → 0 < k → k + suc n ≡ frame_count_def (length s) → length (drop (raw_most * k - 2) s) ≤ fuel
    → tab (piece_of s) k (suc n) ≡ later_cuts fuel (drop (raw_most * k - 2) s) (be16 (crc_of_def s))
unfolding tab later_cuts
later s zero k fuel h e f =
    let last : k + 1 ≡ frame_count_def (length s) = omega arith in
    rw (cut_last s k h last, later_last fuel (drop (raw_most * k - 2) s) (be16 (crc_of_def s)) (left_few s k h last))
later s (suc n) k zero h e f = absurd (omega (arith, left_many s k h (omega arith)))
later s (suc n) k (suc fuel) h e f =
    let next : k + 1 < frame_count_def (length s) = omega arith in
    let many = left_many s k h next in
    let rest = left_next s k h in
    let fewer : length (drop (raw_most * suc k - 2) s) ≤ fuel = rw (← rest, length-drop raw_most (drop (raw_most * k - 2) s)) (omega arith) in
    rw (lt-ltb body_most (length (drop (raw_most * k - 2) s)) many, pick_yes, cut_next s k h next, rest, later s n (suc k) fuel (omega arith) (omega arith) fewer)

-- the frames of a body in one frame are the paper's
one : (s : List ℕ) → length s < several_from → pieces s ≡ cuts s
unfolding pieces tab cuts
one s h = rw (count_one (length s) h, cut_only s h, lt-ltb (length s) several_from h, pick_yes)

-- the frames of a body in several are the paper's
several : (s : List ℕ) (n : ℕ) → several_from ≤ length s → suc (suc n) ≡ frame_count_def (length s) → tab (piece_of s) 0 (suc (suc n)) ≡ cuts s
unfolding tab cuts
several s n h e =
    let enough : length (drop body_most s) ≤ length s = rw length-drop (omega arith) in
    rw (le-ltb (length s) several_from h, pick_no, cut_first s (omega arith), later s n 1 (length s) (omega arith) (omega arith) enough)

-- the sender's formula cuts as the paper says
pub cuts_agree : CutsAgree
unfolding pieces
cuts_agree s h l = elim (dec_le several_from (length s)) [
  | no g ↦ one s (omega arith)
  | yes g ↦
      let e : suc (suc (frame_count_def (length s) - 2)) ≡ frame_count_def (length s) = omega (arith, count_several (length s) g) in
      rw e at (several s (frame_count_def (length s) - 2) g e)
]
