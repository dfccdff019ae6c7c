-- The numbers that the writers and the sender give are small: each fits the 32 bits that C reads.
-- Assumes nothing.
use mathlib.Core.Path.{◌≡◌}
use mathlib.Core.Bool.{not}
use mathlib.Core.List.{List}
use Prim.Native.Nat.{ℕ, ◌≤◌, ◌<◌}
use native.Mathlib.Omega.{arith}
use lib.Dec.{ltb, leb, eqb}
use lib.ListN.{length}
use borrow.Author.Tests.{leb-true, ltb-true, ltb-false, not-false}
use Rattle.laws.proofs.Choice.{pick_case, both_true}
use Rattle.sender.specs.Sender as sending
use Rattle.sender.specs.Sender.{frame_count_def, piece_of, frame_of, sendable, send_frame_def}
use Rattle.sender.proofs.Count.{count_most}
use Rattle.sender.proofs.Laws.{piece_length, line_room}
use Rattle.host.specs.Write.{Outcome, packet, unsendable, put, write_echo_def, write_reset_def, write_erase_def}
use Rattle.uploads.specs.Upload.{mis_sized_def, write_first_def, write_upload_def}

-- a packet that was told is of at most 65,533 bytes
abbrev pub Small : Outcome → Type 0
Small o = (n : ℕ) → o.says ≡ packet n → n ≤ 65533

-- a refusal tells of none
never : (out : List ℕ) → Small (unsendable out)
never out n e = let z : ◌≡◌ {A = ℕ} 0 1 = cc in omega arith

-- a packet that was put is small
put_small : (p out : List ℕ) → Small (put p out)
unfolding put
put_small p out =
    pick_case Small (ltb 65533 (length p)) (unsendable out) _ (λ e. never out)
    (λ e. pick_case Small (ltb (length out) (length p)) (unsendable out) _ (λ f. never out) (λ f. same (ltb-false 65533 (length p) e)))
  where
    same : length p ≤ 65533 → (n : ℕ) → packet (length p) ≡ packet n → n ≤ 65533
    same l n e = let z : length p ≡ n = cc in omega arith

-- so is an echo, a reset and an erase
pub echo_small : (sequence : ℕ) (text out : List ℕ) → Small (write_echo_def sequence text out)
unfolding write_echo_def
echo_small sequence text out = put_small _ out

pub reset_small : (sequence : ℕ) (out : List ℕ) → Small (write_reset_def sequence out)
unfolding write_reset_def
reset_small sequence out = put_small _ out

pub erase_small : (sequence : ℕ) (out : List ℕ) → Small (write_erase_def sequence out)
unfolding write_erase_def
erase_small sequence out = put_small _ out

-- an upload at offset 0
first_small : (sequence : ℕ) (x : List ℕ) (size : ℕ) (tag out : List ℕ) → Small (write_first_def sequence x size tag out)
unfolding write_first_def
first_small sequence x size tag out =
    pick_case Small (eqb size 0) (unsendable out) _ (λ e. never out)
    (λ e. pick_case Small (ltb 4294967295 size) (unsendable out) _ (λ f. never out)
    (λ f. pick_case Small (ltb size (length x)) (unsendable out) _ (λ g. never out)
    (λ g. pick_case Small (mis_sized_def tag) (unsendable out) _ (λ h. never out) (λ h. put_small _ out))))

-- an upload at any offset
pub upload_small : (sequence : ℕ) (x : List ℕ) (off size : ℕ) (tag out : List ℕ) → Small (write_upload_def sequence x off size tag out)
unfolding write_upload_def
upload_small sequence x off size tag out =
    pick_case Small (ltb 4294967295 off) (unsendable out) _ (λ e. never out)
    (λ e. pick_case Small (eqb (length x) 0) (unsendable out) _ (λ f. never out)
    (λ f. pick_case Small (eqb off 0) (write_first_def sequence x size tag out) _ (λ g. first_small sequence x size tag out) (λ g. put_small _ out)))

-- a frame that was told is a line of at most 127 bytes, one of at most 705
abbrev pub SentSmall : sending.Outcome → Type 0
SentSmall o = (n count : ℕ) → o.says ≡ sending.is_frame n count → (n ≤ 127) × (count ≤ 705)

-- a frame's line is of at most 127 bytes
frame_small : (s : List ℕ) (k : ℕ) → k < frame_count_def (length s) → length (frame_of s k) ≤ 127
unfolding frame_of
frame_small s k h = line_room k (piece_of s k) (piece_length s k h)

-- so the sender's numbers are small
pub sent_small : (s : List ℕ) (k : ℕ) (out : List ℕ) → SentSmall (send_frame_def s k out)
unfolding send_frame_def sendable
sent_small s k out =
    pick_case SentSmall (not (sendable (length s) (length out))) _ _ (λ e. refusal 12)
    (λ e. pick_case SentSmall (not (ltb k (frame_count_def (length s)))) _ _ (λ f. refusal 13)
    (λ f.
    let a = both_true (leb 127 (length out)) _ (not-false (sendable (length s) (length out)) e) in
    let b = both_true (leb 8 (length s)) _ a.1 in
    same (frame_small s k (ltb-true k (frame_count_def (length s)) (not-false _ f))) (count_most (length s) (leb-true (length s) 65533 b.1))))
  where
    refusal : (r n count : ℕ) → sending.refused r ≡ sending.is_frame n count → (n ≤ 127) × (count ≤ 705)
    refusal r n count e = let z : ◌≡◌ {A = ℕ} 0 1 = cc in omega arith

    same : length (frame_of s k) ≤ 127 → frame_count_def (length s) ≤ 705
        → (n count : ℕ)
        → sending.is_frame (length (frame_of s k)) (frame_count_def (length s)) ≡ sending.is_frame n count
        → (n ≤ 127) × (count ≤ 705)
    same l m n count e =
        let x : length (frame_of s k) ≡ n = cc in
        let y : frame_count_def (length s) ≡ count = cc in
        (omega arith, omega arith)
