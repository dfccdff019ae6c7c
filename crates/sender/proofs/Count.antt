-- How many frames a body takes: which frames are followed by another, and where frames begin and end.
-- Assumes nothing.
use mathlib.Core.Path.{◌≡◌, refl, ap, ◌∙◌}
use Prim.Native.Nat.{ℕ, suc, ◌+◌, ◌*◌, ◌-◌, ◌/◌, ◌≤◌, ◌<◌, min}
use native.Mathlib.Numerals.{add-one}
use native.Mathlib.Omega.{arith}
use native.Mathlib.Decide.{dec_le}
use borrow.Author.Tests.{lt-ltb, le-ltb, le-leb, lt-leb, eq-eqb, ne_eqb}
use Rattle.laws.proofs.Choice.{pick_yes, pick_no}
use Rattle.frame.specs.Line.{raw_most}
use Rattle.sender.specs.Sender.{several_from, two_frames, frame_count_def, start_of, stop_of, FewestFrames}

-- a short body takes one frame
pub count_one : (b : ℕ) → b < several_from → frame_count_def b ≡ 1
unfolding frame_count_def
count_one b h = rw (lt-ltb b several_from h, pick_yes)

-- a longer one takes two, up to the longest in two
pub count_two : (b : ℕ) → several_from ≤ b → b ≤ two_frames → frame_count_def b ≡ 2
unfolding frame_count_def
count_two b h l = rw (le-ltb b several_from h, pick_no, le-leb b two_frames l, pick_yes)

-- and then one more for each further full frame, begun or not
pub count_many : (b : ℕ) → two_frames < b → frame_count_def b ≡ 2 + (b - two_frames + (raw_most - 1)) / raw_most
unfolding frame_count_def
count_many b h = rw (le-ltb b several_from (omega arith), pick_no, lt-leb b two_frames h, pick_no)

-- so it is the packet's raw bytes in full frames, the last begun or full
count_is : (b : ℕ) → frame_count_def b ≡ (b + 4 + (raw_most - 1)) / raw_most
count_is b = elim (dec_le several_from b) [
  | no n ↦ rw (count_one b (omega arith)) (omega arith)
  | yes l ↦ elim (dec_le b two_frames) [
    | yes r ↦ rw (count_two b l r) (omega arith)
    | no n ↦ rw (count_many b (omega arith)) (omega arith)
  ]
]

-- no fewer frames carry them
pub fewest_frames : FewestFrames
fewest_frames b = (omega (arith, count_is b), λ n h. omega (arith, count_is b))

-- there is a frame
pub count_some : (b : ℕ) → 0 < frame_count_def b
count_some b = omega (arith, count_is b)

-- a body that is not short takes several
pub count_several : (b : ℕ) → several_from ≤ b → 1 < frame_count_def b
count_several b l = omega (arith, count_is b)

-- a body that can be sent takes at most 705
pub count_most : (b : ℕ) → b ≤ 65533 → frame_count_def b ≤ 705
count_most b l = omega (arith, count_is b)

-- a frame that another follows: the body has more than would fit it beside total and CRC, besides a full frame for each before
pub count_next : (b k : ℕ) → k + 1 < frame_count_def b → raw_most * k + (raw_most - 4) < b
count_next b k h = omega (arith, count_is b)

-- the last frame: the body has at most that
pub count_last : (b k : ℕ) → k + 1 ≡ frame_count_def b → b ≤ raw_most * k + (raw_most - 4)
count_last b k e = omega (arith, count_is b)

-- where a frame begins
pub start_is : (b k : ℕ) → start_of b k ≡ min (raw_most * k) (b + 2)
unfolding start_of
start_is b k = refl

-- a frame that is not the last ends where the next begins
pub stop_other : (b k : ℕ) → (k + 1 ≡ frame_count_def b → ⊥) → stop_of b k ≡ start_of b (k + 1)
unfolding stop_of
stop_other b k h = rw (ne_eqb (k + 1) (frame_count_def b) h, pick_no)

-- so does a frame that another follows
pub stop_next : (b k : ℕ) → k + 1 < frame_count_def b → stop_of b k ≡ start_of b (suc k)
stop_next b k h = stop_other b k (λ e. omega arith) ∙ ap (λ (n : ℕ). start_of b n) (add-one k)

-- the last frame ends with the packet
pub stop_last : (b k : ℕ) → k + 1 ≡ frame_count_def b → stop_of b k ≡ b + 4
unfolding stop_of
stop_last b k e = rw (eq-eqb (k + 1) (frame_count_def b) e, pick_yes)

-- frame 0 begins at the packet's start
pub start_first : (b : ℕ) → start_of b 0 ≡ 0
start_first b = omega (arith, start_is b 0)

-- a later frame begins after total
pub start_later : (b k : ℕ) → 0 < k → 2 ≤ start_of b k
start_later b k h = omega (arith, start_is b k)

-- a frame ends after it begins, a full frame on at most, after total and within the packet
pub piece_size : (b k : ℕ) → k < frame_count_def b → (start_of b k < stop_of b k) × (stop_of b k ≤ start_of b k + raw_most) × (2 ≤ stop_of b k) × (stop_of b k ≤ b + 4)
piece_size b k h = elim (dec_le (frame_count_def b) (k + 1)) [
  | yes g ↦
      let e : k + 1 ≡ frame_count_def b = omega arith in
      omega (arith, start_is b k, stop_last b k e, count_last b k e)
  | no g ↦
      let e : k + 1 < frame_count_def b = omega arith in
      omega (arith, start_is b k, start_is b (suc k), stop_next b k e, count_next b k e)
]
