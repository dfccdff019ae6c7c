-- What the sender's answer says of the output: where it gives a frame, the frame stands at the output's start.
-- Assumes nothing.
use mathlib.Core.Path.{◌≡◌, refl, sym, ap, ◌∙◌}
use mathlib.Core.Bool.{Bool, true, false, not}
use mathlib.Core.List.{List}
use Prim.Native.Nat.{ℕ, ◌≤◌, ◌<◌}
use native.Mathlib.Omega.{arith}
use lib.Dec.{ltb, leb}
use lib.ListN.{length, take, drop}
use lib.Seq.{take_at}
use borrow.Author.Tests.{leb-true, ltb-true, not-false}
use Rattle.laws.specs.Bytes.{pasted}
use Rattle.laws.proofs.Choice.{pick_case, both_true}
use Rattle.laws.proofs.Lists.{pasted_start, pasted_length}
use Rattle.refusal.specs.declared.Refusal.{Refusal}
use Rattle.refusal.specs.Number.{number_of}
use Rattle.sender.specs.declared.Sent.{Sent}
use Rattle.std.specs.Prelude.{Result, Ok, Err}
use Rattle.frame.specs.Line.{longest}
use Rattle.sender.specs.Sender.{frame_count_def, piece_of, frame_of, is_frame, refused, told, Outcome, outcome, sendable, send_frame_def}
use Rattle.sender.proofs.Laws.{piece_length, line_room, send_frame_lem, send_unsendable}
use Rattle.roundtrip.specs.RoundTrip.{FrameStands}
use Rattle.roundtrip.specs.Inner.{Stayed}

-- a refusal is no frame
no_frame : (r n count : ℕ) → refused r ≡ is_frame n count → ⊥
no_frame r n count e = let z : ◌≡◌ {A = ℕ} 0 1 = cc in omega arith

-- a frame has one length and one count
frame_length : (n m c d : ℕ) → is_frame n c ≡ is_frame m d → n ≡ m
frame_length n m c d e = cc

frame_counted : (n m c d : ℕ) → is_frame n c ≡ is_frame m d → c ≡ d
frame_counted n m c d e = cc

-- the frame stands at the output's start
start_is : (out f : List ℕ) (n : ℕ) → length f ≡ n → take n (pasted out 0 f) ≡ f
start_is out f n e = ap (take n) (pasted_start out f) ∙ take_at f (drop (length f) out) n e

-- the sender says that it wrote a frame only where the body can be sent and the number is below the count
sent_only : (s : List ℕ) (k : ℕ) (out : List ℕ) (n count : ℕ) → (send_frame_def s k out).says ≡ is_frame n count
    → (sendable (length s) (length out) ≡ true) × (k < frame_count_def (length s))
unfolding send_frame_def
sent_only s k out n count =
    let P : Outcome → Type 0 = λ o. o.says ≡ is_frame n count → (sendable (length s) (length out) ≡ true) × (k < frame_count_def (length s)) in
    pick_case P (not (sendable (length s) (length out))) _ _ (λ t e. absurd (no_frame 12 n count e))
    (λ t. pick_case P (not (ltb k (frame_count_def (length s)))) _ _ (λ u e. absurd (no_frame 13 n count e))
    (λ u e. (not-false _ t, ltb-true k (frame_count_def (length s)) (not-false _ u))))

-- what the sender leaves at the start of any output is the frame, wherever it says that it wrote one
pub frame_stands : FrameStands
frame_stands s k out n count e =
    let only = sent_only s k out n count e in
    let is = send_frame_lem s k out only.0 only.1 in
    let same : is_frame (length (frame_of s k)) (frame_count_def (length s)) ≡ is_frame n count = sym (ap (λ (o : Outcome). o.says) is) ∙ e in
    let size : length (frame_of s k) ≡ n = frame_length (length (frame_of s k)) n (frame_count_def (length s)) count same in (
      ap (λ (o : Outcome). take n o.buffer) is ∙ start_is out (frame_of s k) n size,
      sym size,
      sym (frame_counted (length (frame_of s k)) n (frame_count_def (length s)) count same),
    )

-- a frame is no longer than a line may be
pub frame_fits : (s : List ℕ) (k : ℕ) → k < frame_count_def (length s) → length (frame_of s k) ≤ longest
unfolding frame_of
frame_fits s k h = line_room k (piece_of s k) (piece_length s k h)

-- where a body can be sent, the output has room for a line
pub sendable_room : (b room : ℕ) → sendable b room ≡ true → longest ≤ room
unfolding sendable
sendable_room b room e = leb-true longest room (both_true (leb longest room) _ e).0

-- what a call of the sender that gave a frame tells its caller
pub record Written (s : List ℕ) (k : ℕ) (out : List ℕ) (n count : ℕ) (line : List ℕ) : Type 0 where
  pub can : sendable (length s) (length out) ≡ true
  pub below : k < frame_count_def (length s)
  pub counted : count ≡ frame_count_def (length s)
  pub left : line ≡ pasted out 0 (frame_of s k)
  pub size : n ≤ length line
  pub frame_is : take n line ≡ frame_of s k

-- a call gave a frame
pub was_written : (s : List ℕ) (k : ℕ) (out : List ℕ) (t : Result Sent Refusal) (line : List ℕ) (sent : Sent) → outcome t line ≡ send_frame_def s k out
    → t ≡ Ok sent
    → Written s k out sent.length sent.count line
was_written s k out t line sent e f =
    let n = sent.length in
    let count = sent.count in
    let says : (send_frame_def s k out).says ≡ is_frame n count = sym (ap (λ (o : Outcome). o.says) e) ∙ ap told f in
    let only = sent_only s k out n count says in
    let stands = frame_stands s k out n count says in
    let left : line ≡ pasted out 0 (frame_of s k) = ap (λ (o : Outcome). o.buffer) (e ∙ send_frame_lem s k out only.0 only.1) in
    let room = sendable_room (length s) (length out) only.0 in
    let fits = frame_fits s k only.1 in
    record {
      can = only.0;
      below = only.1;
      counted = stands.2;
      left = left;
      size =
          let same : length line ≡ length out = ap length left ∙ pasted_length out 0 (frame_of s k) (omega (arith, room, fits)) in
          omega (arith, same, room, fits, stands.1);
      frame_is = ap (λ (o : Outcome). take n o.buffer) e ∙ stands.0;
    }

-- a refusal has one number
refused_number : (m n : ℕ) → refused m ≡ refused n → m ≡ n
refused_number m n e = cc

-- a call that was refused, of a number below the count, was of a body that can't be sent
pub not_written : (s : List ℕ) (k : ℕ) (out p : List ℕ) (t : Result Sent Refusal) (line : List ℕ) (why : Refusal) → outcome t line ≡ send_frame_def s k out
    → t ≡ Err why
    → k < frame_count_def (length s)
    → Stayed s p out why p line
not_written s k out p t line why e f h = by-test (sendable (length s) (length out)) refl
  where
    by-test : (b : Bool) → sendable (length s) (length out) ≡ b → Stayed s p out why p line
    by-test true can =
        absurd
        (no_frame (number_of why) (length (frame_of s k)) (frame_count_def (length s))
        (ap told (sym f) ∙ ap (λ (o : Outcome). o.says) (e ∙ send_frame_lem s k out can h)))
    by-test false can =
        let is = e ∙ send_unsendable s k out can in
        record {
          cannot = can;
          number = refused_number (number_of why) 12 (ap told (sym f) ∙ ap (λ (o : Outcome). o.says) is);
          packet = refl;
          line = ap (λ (o : Outcome). o.buffer) is;
        }
