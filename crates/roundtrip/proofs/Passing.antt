-- A body's frames sent and taken one after the other: what holds after each of them.
-- Assumes nothing.
use mathlib.Core.Path.{◌≡◌, refl, sym, ap, ◌∙◌}
use mathlib.Core.Bool.{true, false}
use mathlib.Core.List.{List, [], ◌∷◌, ◌++◌}
use Prim.Native.Nat.{ℕ, zero, suc, ◌+◌, ◌-◌, ◌≤◌, ◌<◌}
use native.Mathlib.Omega.{arith}
use lib.Dec.{leb}
use lib.ListN.{length, replicate}
use borrow.Author.Tests.{leb-true}
use Rattle.laws.specs.Bytes.{Bytes, pasted}
use Rattle.laws.specs.Table.{tab}
use Rattle.laws.proofs.Choice.{pick_yes, pick_no, both_true}
use Rattle.laws.proofs.Lists.{pasted_length}
use Rattle.frame.specs.Line.{longest}
use Rattle.reader.specs.declared.Reader.{Reader}
use Rattle.reader.specs.declared.Reader.TheVariants.{Idle}
use Rattle.reader.specs.Reader.{Said, more, body, Outcome, keeping, take_line_def}
use Rattle.reader.specs.Lines.{saying, feed}
use Rattle.sender.specs.Sender.{frame_count_def, frame_of, sendable}
use Rattle.sender.proofs.Count.{count_some}
use Rattle.roundtrip.specs.RoundTrip.{frames, last_of, end_of, inked, passed, line_after_def}
use Rattle.roundtrip.proofs.Passage.{run_all}
use Rattle.roundtrip.proofs.Sent.{frame_fits, sendable_room}

-- the frames from number k on
abbrev rest : List ℕ → ℕ → List (List ℕ)
rest s k = tab (frame_of s) k (frame_count_def (length s) - k)

-- there is one more of them below the count, and else none
rest_more : (s : List ℕ) (k : ℕ) → k < frame_count_def (length s) → rest s k ≡ frame_of s k ∷ rest s (k + 1)
unfolding tab
rest_more s k h =
    let n : frame_count_def (length s) - k ≡ suc (frame_count_def (length s) - (k + 1)) = omega arith in
    let i : suc k ≡ k + 1 = omega arith in
    ap (λ (m : ℕ). tab (frame_of s) k m) n ∙ ap (λ (j : ℕ). frame_of s k ∷ tab (frame_of s) j (frame_count_def (length s) - (k + 1))) i

rest_none : (s : List ℕ) (k : ℕ) → frame_count_def (length s) ≤ k → rest s k ≡ []
unfolding tab
rest_none s k h =
    let n : frame_count_def (length s) - k ≡ 0 = omega arith in
    ap (λ (m : ℕ). tab (frame_of s) k m) n

-- a body that can be sent is of 8 to 65,533 bytes
sendable_body : (b room : ℕ) → sendable b room ≡ true → (8 ≤ b) × (b ≤ 65533)
unfolding sendable
sendable_body b room e =
    let both_ends = both_true (leb 8 b) (leb b 65533) (both_true (leb longest room) _ e).1 in
    (leb-true 8 b both_ends.0, leb-true b 65533 both_ends.1)

-- the outcome before the first line
abbrev pub begun : Reader → List ℕ → Outcome
begun r p = record { says = more; reader = r; buffer = p }

-- the frames from number k₀ up to k were sent and taken, from one outcome and line buffer to others: what the frames from k on lead to is what those
-- from k₀ on lead to
pub record Gone (s : List ℕ) (o₀ : Outcome) (line₀ : List ℕ) (k₀ : ℕ) (o : Outcome) (line : List ℕ) (k : ℕ) : Type 0 where
  pub calls : end_of o.says (feed (rest s k) o.reader o.buffer) ≡ end_of o₀.says (feed (rest s k₀) o₀.reader o₀.buffer)
  pub ink : inked (rest s k) line ≡ inked (rest s k₀) line₀
  pub size : length line ≡ length line₀

-- none was sent yet
pub gone_none : (s : List ℕ) (o : Outcome) (line : List ℕ) (k : ℕ) → Gone s o line k o line k
gone_none s o line k = record { calls = refl; ink = refl; size = refl }

-- one more was sent and taken
pub gone_next : (s : List ℕ) (o₀ : Outcome) (line₀ : List ℕ) (k₀ : ℕ) (o : Outcome) (line : List ℕ) (k : ℕ) (o' : Outcome) (line' : List ℕ)
    → Gone s o₀ line₀ k₀ o line k
    → sendable (length s) (length line₀) ≡ true
    → k < frame_count_def (length s)
    → o' ≡ take_line_def o.reader (frame_of s k) o.buffer
    → line' ≡ pasted line 0 (frame_of s k)
    → Gone s o₀ line₀ k₀ o' line' (k + 1)
unfolding feed saying last_of inked
gone_next s o₀ line₀ k₀ o line k o' line' g can h e f =
    let room = sendable_room (length s) (length line₀) can in
    let fits = frame_fits s k h in
    record {
      calls =
          ap (λ (q : Outcome). end_of q.says (feed (rest s (k + 1)) q.reader q.buffer)) e
          ∙ ap (λ (ls : List (List ℕ)). end_of o.says (feed ls o.reader o.buffer)) (sym (rest_more s k h))
          ∙ g.calls;
      ink = ap (inked (rest s (k + 1))) f ∙ ap (λ (ls : List (List ℕ)). inked ls line) (sym (rest_more s k h)) ∙ g.ink;
      size = ap length f ∙ pasted_length line 0 (frame_of s k) (omega (arith, room, fits, g.size)) ∙ g.size;
    }

-- what sending a body and taking its lines comes to, where it can be sent
passed_is : (s : List ℕ) (r : Reader) (p out : List ℕ) → sendable (length s) (length out) ≡ true
    → passed s r p out ≡ end_of more (feed (frames s) r p)
unfolding passed
passed_is s r p out can = simp (can, pick_no)

line_is : (s out : List ℕ) → sendable (length s) (length out) ≡ true → line_after_def s out ≡ inked (frames s) out
unfolding line_after_def
line_is s out can = simp (can, pick_no)

-- and where it can't
pub unpassed_is : (s : List ℕ) (r : Reader) (p out : List ℕ) → sendable (length s) (length out) ≡ false → passed s r p out ≡ keeping 12 r p
unfolding passed
unpassed_is s r p out can = simp (can, pick_yes)

pub unlined_is : (s out : List ℕ) → sendable (length s) (length out) ≡ false → line_after_def s out ≡ out
unfolding line_after_def
unlined_is s out can = simp (can, pick_yes)

-- the last of some answers and one more is that one
last_answer : (n : ℕ) (a b : Said) → last_of a (replicate n more ++ (b ∷ [])) ≡ b
unfolding last_of
last_answer zero a b = refl
last_answer (suc n) a b = last_answer n more b

-- the frames from number 0 on are all frames
all_frames : (s : List ℕ) → rest s 0 ≡ frames s
unfolding frames
all_frames s =
    let n : frame_count_def (length s) - 0 ≡ frame_count_def (length s) = omega arith in
    ap (λ (m : ℕ). tab (frame_of s) 0 m) n

-- the first was sent and taken, then all others
pub gone_all : (s : List ℕ) (r : Reader) (p out : List ℕ) (o₁ : Outcome) (line₁ : List ℕ) (o : Outcome) (line : List ℕ) (k : ℕ)
    → sendable (length s) (length out) ≡ true
    → o₁ ≡ take_line_def r (frame_of s 0) p
    → line₁ ≡ pasted out 0 (frame_of s 0)
    → Gone s o₁ line₁ 1 o line k
    → frame_count_def (length s) ≤ k
    → (o ≡ passed s r p out) × (line ≡ line_after_def s out)
unfolding feed last_of inked
gone_all s r p out o₁ line₁ o line k can e f g h =
    let first = gone_next s (begun r p) out 0 (begun r p) out 0 o₁ line₁ (gone_none s (begun r p) out 0) can (count_some (length s)) e f in (
      sym (ap (λ (ls : List (List ℕ)). end_of o.says (feed ls o.reader o.buffer)) (rest_none s k h))
          ∙ g.calls
          ∙ first.calls
          ∙ ap (λ (ls : List (List ℕ)). end_of more (feed ls r p)) (all_frames s)
          ∙ sym (passed_is s r p out can),
      sym (ap (λ (ls : List (List ℕ)). inked ls line) (rest_none s k h))
          ∙ g.ink
          ∙ first.ink
          ∙ ap (λ (ls : List (List ℕ)). inked ls out) (all_frames s)
          ∙ sym (line_is s out can),
    )

-- the round trip's own conclusion, of a body of bytes that can be sent and has room
pub passed_back : (s : List ℕ) (r : Reader) (p out : List ℕ) → Bytes s → sendable (length s) (length out) ≡ true → length s ≤ length p
    → passed s r p out ≡ record { says = body (length s); reader = Idle; buffer = pasted p 0 s }
passed_back s r p out bytes can room =
    let b = sendable_body (length s) (length out) can in
    passed_is s r p out can
    ∙ ap (end_of more) (run_all s p bytes b.0 b.1 room r)
    ∙ ap (λ (a : Said). record { says = a; reader = Idle; buffer = pasted p 0 s }) (last_answer (frame_count_def (length s) - 1) more (body (length s)))
