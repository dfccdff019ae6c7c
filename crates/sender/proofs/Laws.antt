-- A frame's raw bytes in three parts, its line in three parts, and the sender's definition at each way of its tests.
-- Assumes nothing.
use mathlib.Core.Path.{◌≡◌, refl, sym, ap, ap₂, ◌∙◌}
use mathlib.Core.List.{List, [], ◌∷◌, ◌++◌, append-nil}
use Prim.Native.Nat.{ℕ, zero, suc, ◌+◌, ◌-◌, ◌≤◌, ◌<◌}
use native.Mathlib.Nat.{add-zero, suc-ne-zero}
use native.Mathlib.Decide.{ℕ_discrete}
use native.Mathlib.Omega.{arith}
use mathlib.Core.Bool.{true, false}
use lib.Dec.{eqb}
use lib.ListN.{length, take, drop, length-append, length-take, length-drop}
use lib.Seq.{take_all, drop-append-le, take-append-le}
use borrow.Author.Tests.{eq-eqb, ne_eqb, le-leb, lt-leb, le-ltb, lt-ltb}
use Rattle.laws.specs.Bytes.{pasted, be16}
use Rattle.laws.proofs.Choice.{pick_yes, pick_no, pick_case, both_yes, both_no, both_last_no}
use Rattle.laws.proofs.Lists.{pasted_none, take_past, drop_past}
use Rattle.writer.specs.declared.Writer.{Writer}
use Rattle.writer.specs.Writer.{HasRoom, Wrote}
use Rattle.writer.proofs.Steps.{room_first, room_second, wrote_twice}
use Rattle.crc.specs.Crc.{crc_of_def}
use Rattle.strict_base64.specs.Base64.{encode}
use Rattle.strict_base64.proofs.Laws.{encode_length}
use Rattle.frame.specs.Line.{longest, newline, raw_most, initial, partial, frame}
use Rattle.sender.specs.Sender.{frame_count_def, raw_of, start_of, stop_of, piece_of, marker_of, frame_of, sendable, is_frame, refused, send_frame_def}
use Rattle.sender.proofs.Count.{stop_last, stop_other, start_is, start_first, piece_size}
use Rattle.sender.specs.Inner.{head_of, from_of, to_of, middle_of, tail_of}

-- the three parts at each way of their tests
pub head_first : (b k : ℕ) → k ≡ 0 → head_of b k ≡ be16 (b + 2)
unfolding head_of
head_first b k h = simp (eq-eqb _ _ h, pick_yes)

pub head_later : (b k : ℕ) → (k ≡ 0 → ⊥) → head_of b k ≡ []
unfolding head_of
head_later b k h = simp (ne_eqb _ _ h, pick_no)

pub tail_last : (s : List ℕ) (k : ℕ) → k + 1 ≡ frame_count_def (length s) → tail_of s k ≡ be16 (crc_of_def s)
unfolding tail_of
tail_last s k h = simp (eq-eqb _ _ h, pick_yes)

pub tail_other : (s : List ℕ) (k : ℕ) → (k + 1 ≡ frame_count_def (length s) → ⊥) → tail_of s k ≡ []
unfolding tail_of
tail_other s k h = simp (ne_eqb _ _ h, pick_no)

-- a number in two bytes has two
pub be16_length : (n : ℕ) → length (be16 n) ≡ 2
unfolding be16
be16_length n = refl

-- where a frame's run of the body ends, in the last frame and in another
pub to_last : (b k : ℕ) → k + 1 ≡ frame_count_def b → to_of b k ≡ b
to_last b k h =
    let e : stop_of b k ≡ b + 4 = stop_last b k h in
    rw e (omega arith)

pub to_next : (b k : ℕ) → (k + 1 ≡ frame_count_def b → ⊥) → to_of b k ≡ start_of b (k + 1) - 2
unfolding start_of
to_next b k h = rw (stop_other b k h) (omega arith)

-- frame k's run of the body, by where it begins and ends
pub middle_is : (s : List ℕ) (k from to : ℕ) → from ≡ from_of (length s) k → to ≡ to_of (length s) k → middle_of s k ≡ take (to - from) (drop from s)
unfolding middle_of
middle_is s k from to p q = ap₂ (λ (n m : ℕ). take (n - m) (drop m s)) (sym q) (sym p)

-- a run of a list from a place to the end of what follows it
cut_last : (s t : List ℕ) (from : ℕ) → from ≤ length s → take (length s + length t - from) (drop from (s ++ t)) ≡ take (length s - from) (drop from s) ++ t
cut_last s t from h =
    ap (λ (l : List ℕ). take (length s + length t - from) l) (drop-append-le from s t h)
    ∙ take_all (length s + length t - from) (drop from s ++ t) (simp (length-append, length-drop) (omega arith))
    ∙ ap (λ (l : List ℕ). l ++ t) (sym (take_all (length s - from) (drop from s) (simp length-drop (omega arith))))

-- a run of a list that ends in it
cut_inner : (s t : List ℕ) (from to : ℕ) → from ≤ length s → to ≤ length s → take (to - from) (drop from (s ++ t)) ≡ take (to - from) (drop from s) ++ []
cut_inner s t from to h k =
    ap (λ (l : List ℕ). take (to - from) l) (drop-append-le from s t h)
    ∙ take-append-le (to - from) (drop from s) t (simp length-drop (omega arith))
    ∙ sym (append-nil (take (to - from) (drop from s)))

-- after total, frame k's raw bytes are its run of the body and, in the last frame, the CRC
piece_rest : (s : List ℕ) (k : ℕ)
    → take (stop_of (length s) k - 2 - from_of (length s) k) (drop (from_of (length s) k) (s ++ be16 (crc_of_def s))) ≡ middle_of s k ++ tail_of s k
unfolding start_of middle_of
piece_rest s k =
    elim (ℕ_discrete (k + 1) (frame_count_def (length s))) [
      | yes h ↦
          let b = length s in
          let from : from_of b k ≤ b = omega arith in
          let t = be16 (crc_of_def s) in
          let size : stop_of b k - 2 - from_of b k ≡ b + length t - from_of b k = rw (stop_last b k h, be16_length (crc_of_def s)) (omega arith) in
          ap (λ (n : ℕ). take n (drop (from_of b k) (s ++ t))) size
          ∙ cut_last s t (from_of b k) from
          ∙ ap₂ (λ (n : ℕ) (l : List ℕ). take (n - from_of b k) (drop (from_of b k) s) ++ l) (sym (to_last b k h)) (sym (tail_last s k h))
      | no h ↦
          let b = length s in
          let from : from_of b k ≤ b = omega arith in
          let end : start_of b (k + 1) - 2 ≤ b = omega arith in
          ap (λ (n : ℕ). take (n - 2 - from_of b k) (drop (from_of b k) (s ++ be16 (crc_of_def s)))) (stop_other b k h)
          ∙ cut_inner s (be16 (crc_of_def s)) (from_of b k) (start_of b (k + 1) - 2) from end
          ∙ ap₂ (λ (n : ℕ) (l : List ℕ). take (n - from_of b k) (drop (from_of b k) s) ++ l) (sym (to_next b k h)) (sym (tail_other s k h))
    ]

-- frame 0's raw bytes reach past total
stop_low : (b k : ℕ) → 2 ≤ stop_of b k
stop_low b k =
    elim (ℕ_discrete (k + 1) (frame_count_def b)) [
      | yes h ↦ rw (stop_last b k h) (omega arith)
      | no h ↦ rw (stop_other b k h) (omega (arith, start_is b (k + 1)))
    ]

-- frame 0 from its third raw byte on, and a later frame
first_sizes : (b : ℕ) (t : List ℕ) → take (stop_of b 0 - 0 - length (be16 (b + 2))) t ≡ take (stop_of b 0 - 2 - from_of b 0) (drop (from_of b 0) t)
unfolding start_of
first_sizes b t =
    let begins : from_of b 0 ≡ 0 = omega arith in
    let size : stop_of b 0 - 0 - length (be16 (b + 2)) ≡ stop_of b 0 - 2 - from_of b 0 = rw (be16_length (b + 2)) (omega arith) in
    ap₂ (λ (n m : ℕ). take n (drop m t)) size (sym begins)

later_sizes : (b k : ℕ) (t : List ℕ) → (k ≡ 0 → ⊥)
    → take (stop_of b k - start_of b k) (drop (start_of b k) (be16 (b + 2) ++ t)) ≡ take (stop_of b k - 2 - from_of b k) (drop (from_of b k) t)
unfolding start_of
later_sizes b k t h =
    let low : 2 ≤ start_of b k = omega arith in
    let size : stop_of b k - start_of b k ≡ stop_of b k - 2 - from_of b k = omega arith in
    ap₂ (λ (n : ℕ) (l : List ℕ). take n l) size
    (drop_past (be16 (b + 2)) t (start_of b k) (rw (be16_length (b + 2)) low) ∙ ap (λ (n : ℕ). drop (start_of b k - n) t) (be16_length (b + 2)))

-- a frame's raw bytes in three parts
pub piece_parts : (s : List ℕ) (k : ℕ) → piece_of s k ≡ head_of (length s) k ++ (middle_of s k ++ tail_of s k)
unfolding piece_of raw_of
piece_parts s zero =
    let b = length s in
    let h = be16 (b + 2) in
    let t = s ++ be16 (crc_of_def s) in
    ap (λ (n : ℕ). take (stop_of b 0 - n) (drop n (h ++ t))) (start_first b)
    ∙ take_past h t (stop_of b 0 - 0) (rw (be16_length (b + 2)) (low b (stop_low b 0)))
    ∙ ap₂ (λ (l m : List ℕ). l ++ m) (sym (head_first b 0 refl)) (first_sizes b t ∙ piece_rest s 0)
  where
    low : (b : ℕ) → 2 ≤ stop_of b 0 → 2 ≤ stop_of b 0 - 0
    low b h = omega arith
piece_parts s (suc k) =
    later_sizes (length s) (suc k) (s ++ be16 (crc_of_def s)) (suc-ne-zero k)
    ∙ piece_rest s (suc k)
    ∙ ap (λ (l : List ℕ). l ++ (middle_of s (suc k) ++ tail_of s (suc k))) (sym (head_later (length s) (suc k) (suc-ne-zero k)))

-- a frame's raw bytes are at most those of a full one
pub piece_length : (s : List ℕ) (k : ℕ) → k < frame_count_def (length s) → length (piece_of s k) ≤ raw_most
unfolding piece_of
piece_length s k l = simp length-take (omega (arith, (piece_size (length s) k l).1))

-- the parts together are as long as the raw bytes
pub parts_length : (s : List ℕ) (k : ℕ) → length (head_of (length s) k ++ (middle_of s k ++ tail_of s k)) ≡ length (piece_of s k)
parts_length s k = ap length (sym (piece_parts s k))

-- a writer that writes nothing
pub wrote_none : (a : Writer) → Wrote a a []
wrote_none a = record { same_buffer = refl; place = sym (add-zero a.at); written = sym (pasted_none a.buf.now a.at) }

-- three pieces one after the other: room for the second and the third, and the three joined
pub second_room : {a b : Writer} (x y z : List ℕ) → Wrote a b x → HasRoom a (x ++ (y ++ z)) → HasRoom b y
second_room {a} {b} x y z u r = room_first b y z (room_second a b x (y ++ z) r u)

pub third_room : {a b c : Writer} (x y z : List ℕ) → Wrote a b x → Wrote b c y → HasRoom a (x ++ (y ++ z)) → HasRoom c z
third_room {a} {b} {c} x y z u v r = room_second b c y z (room_second a b x (y ++ z) r u) v

pub wrote_three : {a b c d : Writer} (x y z : List ℕ) → Wrote a b x → Wrote b c y → Wrote c d z → HasRoom a (x ++ (y ++ z)) → Wrote a d (x ++ (y ++ z))
wrote_three {a} {b} {c} {d} x y z u v w r = wrote_twice a b d x (y ++ z) r u (wrote_twice b c d y z (room_second a b x (y ++ z) r u) v w)

-- what a writer wrote from the start of a buffer, which then ends as the writer left it
pub written_back : {a b : Writer} {x e : List ℕ} → Wrote a b x → a.at ≡ 0 → e ≡ b.buf.now → (b.at ≡ length x) × (e ≡ pasted a.buf.now 0 x)
written_back w z same = (omega (arith, w.place), same ∙ rw z at w.written)

-- a frame's marker, by its number
pub marker_first : (k : ℕ) → k ≡ 0 → marker_of k ≡ initial
marker_first k h = simp (eq-eqb _ _ h, pick_yes)

pub marker_later : (k : ℕ) → (k ≡ 0 → ⊥) → marker_of k ≡ partial
marker_later k h = simp (ne_eqb _ _ h, pick_no)

marker_length : (k : ℕ) → length (marker_of k) ≡ 2
marker_length k = pick_case (λ (m : List ℕ). length m ≡ 2) (eqb k 0) initial partial (λ e. refl) (λ e. refl)

-- a frame's line is at most the longest
pub line_room : (k : ℕ) (raw : List ℕ) → length raw ≤ raw_most → length (frame (marker_of k) raw) ≤ longest
unfolding frame
line_room k raw h =
    let t = encode raw in
    rw (length-append (marker_of k) (t ++ (newline ∷ [])), length-append t (newline ∷ [])) (omega (arith, marker_length k, encode_length raw))

-- the sender's refusals, and a frame that it sends
pub send_unsendable : (s : List ℕ) (k : ℕ) (out : List ℕ) → sendable (length s) (length out) ≡ false
    → send_frame_def s k out ≡ record { says = refused 12; buffer = out }
unfolding send_frame_def
send_unsendable s k out h = simp (h, pick_yes)

pub sendable_small : (b room : ℕ) → room < longest → sendable b room ≡ false
unfolding sendable
sendable_small b room h = simp (lt-leb _ _ h, both_no)

pub sendable_short : (b room : ℕ) → b < 8 → sendable b room ≡ false
unfolding sendable
sendable_short b room h = simp (lt-leb _ _ h, both_no, both_last_no)

pub sendable_long : (b room : ℕ) → 65533 < b → sendable b room ≡ false
unfolding sendable
sendable_long b room h = simp (lt-leb _ _ h, both_last_no)

pub sendable_is : (b room : ℕ) → longest ≤ room → 8 ≤ b → b ≤ 65533 → sendable b room ≡ true
unfolding sendable
sendable_is b room h k l = simp (le-leb _ _ h, le-leb _ _ k, le-leb _ _ l, both_yes)

pub send_beyond : (s : List ℕ) (k : ℕ) (out : List ℕ) → sendable (length s) (length out) ≡ true → frame_count_def (length s) ≤ k
    → send_frame_def s k out ≡ record { says = refused 13; buffer = out }
unfolding send_frame_def
send_beyond s k out h l = simp (h, pick_no, le-ltb _ _ l, pick_yes)

pub send_frame_lem : (s : List ℕ) (k : ℕ) (out : List ℕ) → sendable (length s) (length out) ≡ true → k < frame_count_def (length s)
    → send_frame_def s k out ≡ record { says = is_frame (length (frame_of s k)) (frame_count_def (length s)); buffer = pasted out 0 (frame_of s k) }
unfolding send_frame_def
send_frame_lem s k out h l = simp (h, pick_no, lt-ltb _ _ l, pick_no)
