-- One frame's bytes, seen from all bytes since total: a record and a buffer that stand for u and take x answer what becomes of u and x
-- joined. It serves initial frames, where u is empty, and partial ones.
-- Assumes nothing.
use mathlib.Core.Path.{◌≡◌, refl}
use Prim.Native.Nat.{ℕ, suc, ◌+◌, ◌-◌, ◌≤◌, ◌<◌}
use native.Mathlib.Nat.{zero-add, add-zero}
use native.Mathlib.Omega.{arith}
use native.Mathlib.Decide.{dec_le}
use mathlib.Core.List.{List, [], ◌++◌}
use borrow.Author.Tests.{ltb-false, lt-ltb, le-ltb, le-leb, lt-leb, eq-eqb, ne_eqb}
use lib.Dec.{ltb}
use lib.ListN.{length, take, drop, length-append, length-take, drop_of_length-le}
use lib.Seq.{take_all, take-nil, take_at, take-append-le, drop-append-le, drop-cons, get_or-drop}
use Rattle.laws.specs.Choice.{both}
use Rattle.laws.specs.Bytes.{of_be16}
use Rattle.laws.proofs.Choice.{pick_yes, pick_no, pick_arms}
use Rattle.laws.proofs.Lists.{pasted_none, pasted_start, pasted_length, pasted_twice, take_past, drop_past}
use Rattle.crc.specs.Crc.{crc_of_def}
use Rattle.reader.specs.declared.Reader.TheVariants.{Idle}
use Rattle.reader.specs.Reader.{more, body, body_of, crc_bytes, filled, waiting, completed, possible, absorb, begin, resume}
use Rattle.roundtrip.specs.Inner.{first_of, standing, holding, closed, whole}

-- the CRC bytes that have come are what follows the body in u and x joined
crc_bytes_lem : (total : ℕ) (u x : List ℕ) → 2 ≤ total → length u < total
    → crc_bytes total (length u) (first_of total u) x ≡ drop (total - 2) (u ++ x)
unfolding crc_bytes first_of
crc_bytes_lem total u x h l = elim (dec_le (length u) (total - 2)) [
  | yes g ↦ rw (le-leb (length u) (total - 2) g, pick_yes, drop_past u x (total - 2) g)
  | no g ↦
      let e : length u + 1 ≡ total = omega arith in
      let f : total - 2 < length u = omega arith in
      rw (
        lt-leb (length u) (total - 2) f,
        pick_no,
        eq-eqb (length u + 1) total e,
        pick_yes,
        drop-append-le (total - 2) u x (omega arith),
        drop-cons u (total - 2) 0 f,
        drop_of_length-le u {i = suc (total - 2)} (omega arith),
      )
]

-- the buffer with this frame's bytes in holds u and x joined
filled_holds : (total : ℕ) (u x q : List ℕ) → length (take (total - 2) u) ≤ length q
    → filled total (length u) x (holding total u q) ≡ holding total (u ++ x) q
unfolding filled holding body_of
filled_holds total u x q h = elim (dec_le (length u) (total - 2)) [
  | yes g ↦
      let all : take (total - 2) u ≡ u = take_all (total - 2) u g in
      let room : length u ≤ length q = rw all at h in
      rw (all, take_past u x (total - 2) g) (rw zero-add at (pasted_twice q 0 u (take (total - 2 - length u) x) (omega arith)))
  | no g ↦
      let e : total - 2 - length u ≡ 0 = omega arith in
      rw (e, pasted_none, take-append-le (total - 2) u x (omega arith))
]

-- a buffer that holds a whole body begins with it
holding_start : (total : ℕ) (u q : List ℕ) → total - 2 ≤ length u → take (total - 2) (holding total u q) ≡ take (total - 2) u
unfolding holding
holding_start total u q h =
    rw pasted_start (take_at (take (total - 2) u) (drop (length (take (total - 2) u)) q) (total - 2) (rw length-take (omega arith)))

-- the packet buffer keeps its length
pub holding_length : (total : ℕ) (u q : List ℕ) → length (take (total - 2) u) ≤ length q → length (holding total u q) ≡ length q
unfolding holding
holding_length total u q h = pasted_length q 0 (take (total - 2) u) (omega arith)

-- where nothing has come the buffer is as it was
pub holding_none : (total : ℕ) (q : List ℕ) → holding total [] q ≡ q
unfolding holding
holding_none total q = rw (take-nil {A = ℕ} (total - 2)) (pasted_none q 0)

-- where nothing has come the record's last field is 0
first_none : (total : ℕ) → 2 ≤ total → first_of total [] ≡ 0
unfolding first_of
first_none total h = rw (ne_eqb 1 total (λ e. omega arith), pick_no)

-- the record of a packet that wants more stands for u and x joined
waiting_stands : (total : ℕ) (u x : List ℕ) → 2 ≤ total → length u < total
    → waiting total (length u) (first_of total u) x ≡ standing total (u ++ x)
unfolding waiting first_of
waiting_stands total u x h l =
    rw (crc_bytes_lem total u x h l, get_or-drop (total - 2) (u ++ x) 0 0, add-zero, ← length-append u x)

-- where all has come the CRC is compared with that of the body in u and x joined
completed_closes : (total : ℕ) (u x q : List ℕ) → 2 ≤ total → length u < total → length (take (total - 2) u) ≤ length q → total ≤ length (u ++ x)
    → completed total (length u) (first_of total u) x (holding total u q) ≡ closed total (u ++ x) q (holding total u q)
unfolding completed closed
completed_closes total u x q h l r all =
    rw (crc_bytes_lem total u x h l, filled_holds total u x q r, holding_start total (u ++ x) q (omega arith))

-- the step: what stands for u and takes x answers what becomes of u and x joined
pub step : (total : ℕ) (u x q : List ℕ) → 2 ≤ total → length u < total → length (take (total - 2) u) ≤ length q
    → absorb total (length u) (first_of total u) x (holding total u q) ≡ whole total (u ++ x) q (holding total u q)
unfolding absorb whole
step total u x q h l r =
    rw (← length-append u x)
    (pick_arms (ltb (length (holding total u q)) (total - 2)) (λ e. refl)
    (λ e. pick_arms (ltb total (length (u ++ x))) (λ e. refl)
    (λ e. pick_arms (ltb (length (u ++ x)) total)
    (λ e. rw (waiting_stands total u x h l, filled_holds total u x q r))
    (λ e. completed_closes total u x q h l r (ltb-false (length (u ++ x)) total e)))))

-- the step of an initial frame, by its raw bytes, where total is 10 at least
pub initial_step : (raw q : List ℕ) → 2 ≤ length raw → 10 ≤ of_be16 raw → begin raw q ≡ whole (of_be16 raw) (drop 2 raw) q q
unfolding begin
initial_step raw q h l =
    let none = holding_none (of_be16 raw) q in
    let from = step (of_be16 raw) [] (drop 2 raw) q (omega arith) (omega arith) (rw (take-nil {A = ℕ} (of_be16 raw - 2)) (omega arith)) in
    rw (le-ltb (length raw) 2 h, pick_no, le-ltb (of_be16 raw) 10 l, pick_no)
    (rw (first_none (of_be16 raw) (omega arith), none) at from)

-- the step of a partial frame, by its raw bytes, where a packet is open of which u has come
pub partial_step : (total : ℕ) (u raw q : List ℕ) → 10 ≤ total → total ≤ 65535 → length u < total → length (take (total - 2) u) ≤ length q
    → resume (standing total u) raw (holding total u q) ≡ whole total (u ++ raw) q (holding total u q)
unfolding resume possible both
partial_step total u raw q h l n r =
    rw (le-leb 10 total h, le-leb total 65535 l, lt-ltb (length u) total n, pick_yes) (step total u raw q (omega arith) n r)

-- of fewer bytes than total says it becomes the wish for more
pub whole_more : (total : ℕ) (u q p : List ℕ) → total - 2 ≤ length p → length u < total
    → whole total u q p ≡ record { says = more; reader = standing total u; buffer = holding total u q }
unfolding whole
whole_more total u q p h l =
    rw (le-ltb (length p) (total - 2) h, pick_no, le-ltb total (length u) (omega arith), pick_no, lt-ltb (length u) total l, pick_yes)

-- of as many as it says, with the CRC of the body, it becomes the body
pub whole_body : (total : ℕ) (u q p : List ℕ) → total - 2 ≤ length p → length u ≡ total → of_be16 (drop (total - 2) u) ≡ crc_of_def (take (total - 2) u)
    → whole total u q p ≡ record { says = body (total - 2); reader = Idle; buffer = holding total u q }
unfolding whole closed
whole_body total u q p h l e =
    rw (
      le-ltb (length p) (total - 2) h,
      pick_no,
      le-ltb total (length u) (omega arith),
      pick_no,
      le-ltb (length u) total (omega arith),
      pick_no,
      eq-eqb (of_be16 (drop (total - 2) u)) (crc_of_def (take (total - 2) u)) e,
      pick_yes,
    )
