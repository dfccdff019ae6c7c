-- The round trip: a packet that our sender framed is read back unchanged.
-- Assumes nothing.
use mathlib.Core.Path.{◌≡◌, refl, ap, ◌∙◌}
use Prim.Native.Nat.{ℕ, zero, suc, ◌+◌, ◌-◌, ◌≤◌, ◌<◌}
use native.Mathlib.Omega.{arith}
use mathlib.Core.List.{List, [], ◌∷◌, ◌++◌, append-nil}
use borrow.Author.Tests.{ne_eqb}
use lib.ListN.{length, take, drop, replicate, length-take}
use lib.Seq.{take_all, take_at, drop_at}
use Rattle.laws.specs.Bytes.{Bytes, pasted, be16, of_be16}
use Rattle.laws.specs.Table.{tab}
use Rattle.laws.proofs.Choice.{pick_yes, pick_no}
use Rattle.laws.proofs.Lists.{be16_back}
use Rattle.crc.specs.Crc.{crc_of_def}
use Rattle.crc.proofs.Laws.{onward_lt}
use Rattle.reader.specs.declared.Reader.{Reader}
use Rattle.reader.specs.declared.Reader.TheVariants.{Idle}
use Rattle.reader.specs.Reader.{more, body, begin, take_line_def}
use Rattle.sender.specs.Sender.{frame_count_def, start_of, stop_of, piece_of, frame_of}
use Rattle.reader.specs.Lines.{Run, saying, feed}
use Rattle.roundtrip.specs.RoundTrip.{frames, answers, read_back_def, RoundTrip}
use Rattle.roundtrip.specs.Inner.{after_total, standing, holding, whole}
use Rattle.reader.proofs.Lines.{with_noise}
use Rattle.roundtrip.proofs.Step.{holding_none, holding_length, initial_step, partial_step, whole_more, whole_body}
use Rattle.sender.proofs.Laws.{piece_length}
use Rattle.sender.proofs.Count.{count_some, start_is, start_first, stop_next, stop_last}
use Rattle.roundtrip.proofs.Pieces.{after_length, piece_first, piece_joined, piece_some, piece_bytes}
use Rattle.roundtrip.proofs.Lines.{initial_taken, partial_taken}

-- the bytes since total that the frames before number k carry
abbrev before : List ℕ → ℕ → List ℕ
before s k = take (start_of (length s) k - 2) (after_total s)

-- the bytes since total that the frames up to number k carry
abbrev through : List ℕ → ℕ → List ℕ
through s k = take (stop_of (length s) k - 2) (after_total s)

-- an initial frame that begins with total as the sender writes it
begins : (total : ℕ) (x q : List ℕ) → 10 ≤ total → total ≤ 65535 → begin (be16 total ++ x) q ≡ whole total x q q
unfolding be16
begins total x q h l =
    let e = be16_back total x (omega arith) in
    rw e at (initial_step (be16 total ++ x) q (omega arith) (omega (arith, e)))

-- the record before frame k, where that is not the first
abbrev opened : List ℕ → ℕ → Reader
opened s k = standing (length s + 2) (before s k)

-- the packet buffer before frame k
abbrev held : List ℕ → ℕ → List ℕ → List ℕ
held s k q = holding (length s + 2) (before s k) q

module _ (s q : List ℕ) (bytes : Bytes s) (low : 8 ≤ length s) (high : length s ≤ 65533) (room : length s ≤ length q) where
  -- what has come before a frame is less than total
  before_less : (k : ℕ) → length (before s k) < length s + 2
  before_less k = rw (length-take, after_length) (omega (arith, start_is (length s) k))

  -- its body part has room in the packet buffer
  before_room : (k : ℕ) → length (take (length s + 2 - 2) (before s k)) ≤ length q
  before_room k = rw length-take (omega arith)

  -- the packet buffer still has room for the body
  still_room : (k : ℕ) → length s + 2 - 2 ≤ length (held s k q)
  still_room k = rw (holding_length (length s + 2) (before s k) q (before_room k)) (omega arith)

  -- frame 0 is taken
  first_taken : (r : Reader) → take_line_def r (frame_of s 0) q ≡ whole (length s + 2) (through s 0) q q
  unfolding frame_of
  first_taken r =
      let least = count_some (length s) in
      rw pick_yes
      (initial_taken r (piece_of s 0) q (piece_bytes s 0 bytes) (piece_some s 0 least) (piece_length s 0 least)
      ∙ rw (piece_first s) (begins (length s + 2) (through s 0) q (omega arith) (omega arith)))

  -- a later frame is taken
  later_taken : (k : ℕ) → 0 < k → k < frame_count_def (length s)
      → take_line_def (opened s k) (frame_of s k) (held s k q)
      ≡ whole (length s + 2) (through s k) q (held s k q)
  unfolding frame_of
  later_taken k h l =
      rw (ne_eqb k 0 (λ e. omega arith), pick_no)
      (partial_taken (opened s k) (piece_of s k) (held s k q) (piece_bytes s k bytes) (piece_some s k l) (piece_length s k l)
      ∙ partial_step (length s + 2) (before s k) (piece_of s k) q (omega arith) (omega arith) (before_less k) (before_room k)
      ∙ rw (piece_joined s k h l))

  -- frame k is taken: from any record where it is the first, and else from what stands for the frames before it
  taken : (k : ℕ) (r : Reader) → k < frame_count_def (length s) → (0 < k → r ≡ opened s k)
      → take_line_def r (frame_of s k) (held s k q)
      ≡ whole (length s + 2) (through s k) q (held s k q)
  taken zero r l f = rw (start_first (length s), holding_none (length s + 2) q) (first_taken r)
  taken (suc k) r l f = rw (f (omega arith)) (later_taken (suc k) (omega arith) l)

  -- a frame that another follows is answered with the wish for more
  next_taken : (k : ℕ) (r : Reader) → k + 1 < frame_count_def (length s) → (0 < k → r ≡ opened s k)
      → take_line_def r (frame_of s k) (held s k q)
      ≡ record { says = more; reader = opened s (suc k); buffer = held s (suc k) q }
  next_taken k r l f =
      taken k r (omega arith) f
      ∙ rw (stop_next (length s) k l)
      (whole_more (length s + 2) (before s (suc k)) q (held s k q) (still_room k) (before_less (suc k)))

  -- the CRC that our sender frames is the body's
  crc_right : of_be16 (drop (length s) (after_total s)) ≡ crc_of_def (take (length s) (after_total s))
  crc_right =
      rw (drop_at s (be16 (crc_of_def s)) (length s) refl, take_at s (be16 (crc_of_def s)) (length s) refl)
      (rw append-nil at (be16_back (crc_of_def s) [] (onward_lt 0 s (omega arith) bytes)))

  -- with the last frame all has come
  through_last : (k : ℕ) → k + 1 ≡ frame_count_def (length s) → through s k ≡ after_total s
  through_last k e =
      let stop = stop_last (length s) k e in
      take_all (stop_of (length s) k - 2) (after_total s) (rw after_length (omega arith))

  -- what has come then is answered with the body
  all_come : (p : List ℕ) → length s + 2 - 2 ≤ length p
      → whole (length s + 2) (after_total s) q p ≡ record { says = body (length s); reader = Idle; buffer = pasted q 0 s }
  unfolding holding
  all_come p h =
      let n : length s + 2 - 2 ≡ length s = omega arith in
      whole_body (length s + 2) (after_total s) q p h (after_length s) (rw n crc_right)
      ∙ rw (n, take_at s (be16 (crc_of_def s)) (length s) refl)

  -- the last frame is answered with the body
  last_taken : (k : ℕ) (r : Reader) → k + 1 ≡ frame_count_def (length s) → (0 < k → r ≡ opened s k)
      → take_line_def r (frame_of s k) (held s k q)
      ≡ record { says = body (length s); reader = Idle; buffer = pasted q 0 s }
  last_taken k r e f =
      taken k r (omega arith) f
      ∙ rw (through_last k e) (all_come (held s k q) (still_room k))

  -- the answers to the frames from number k on, with no noise
  run : (m k : ℕ) (r : Reader) → k + suc m ≡ frame_count_def (length s) → (0 < k → r ≡ opened s k)
      → feed (tab (frame_of s) k (suc m)) r (held s k q)
      ≡ record { says = replicate m more ++ (body (length s) ∷ []); reader = Idle; buffer = pasted q 0 s }
  unfolding feed saying tab
  run zero k r e f = rw (last_taken k r e f)
  run (suc m) k r e f =
      rw (next_taken k r (omega arith) f)
      (ap (saying more) (run m (suc k) (opened s (suc k)) (omega arith) (λ h. refl)))

  -- the answers to all frames, with no noise
  pub run_all : (r : Reader) → feed (frames s) r q ≡ read_back_def (answers s) s q
  unfolding frames
  run_all r =
      let e : suc (frame_count_def (length s) - 1) ≡ frame_count_def (length s) = omega (arith, count_some (length s)) in
      rw (e, start_first (length s), holding_none (length s + 2) q) at (run (frame_count_def (length s) - 1) 0 r (omega arith) (λ h. absurd (omega arith)))

-- a packet that our sender framed is read back unchanged, with noise anywhere between its frames
pub round_trip : RoundTrip
round_trip s p r lines says bytes low high room amid =
    let all = run_all s p bytes low high room r in
    with_noise amid r p (ap (λ (run : Run). run.says) all)
    ∙ ap (λ (run : Run). record { says = says; reader = run.reader; buffer = run.buffer }) all
