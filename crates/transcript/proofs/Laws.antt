-- The text: each line's cases and how long it is, the next line and what is left to write after it, and what is said of the whole.
-- Assumes nothing.
use mathlib.Core.Path.{◌≡◌, ap, ap₂, ◌∙◌}
use mathlib.Core.Bool.{true, false}
use mathlib.Core.List.{List, [], ◌∷◌, ◌++◌, append_assoc}
use Prim.Native.Nat.{ℕ, suc, ◌+◌, ◌-◌, ◌/◌, ◌≤◌, ◌<◌}
use native.Mathlib.Nat.{zero-add}
use native.Mathlib.Omega.{arith}
use lib.Dec.{eqb}
use borrow.Author.Tests.{le-ltb, lt-ltb}
use lib.ListN.{length, length-append}
use Rattle.laws.proofs.Choice.{pick_yes, pick_no}
use Rattle.writer.specs.declared.Writer.{Writer}
use Rattle.writer.specs.Writer.{Wrote}
use Rattle.decimal.specs.Decimal.{digit_count_def}
use Rattle.decimal.proofs.Laws.{digits_length}
use Rattle.session.specs.declared.Session.{Session}
use Rattle.transcript.specs.Transcript.{
  wide,
  rc_text,
  line_text,
  line_of,
  lines_from,
  end_none_def,
  end_at,
  end_text,
  transcript,
  written,
}
use Rattle.transcript.specs.Transcript.Said.{text, refused}

-- where there is no reply, a line ends with `-`
pub rc_none : (replied rc : ℕ) → eqb replied 0 ≡ true → rc_text replied rc ≡ 0x2D ∷ 0x0A ∷ []
unfolding rc_text
rc_none replied rc e = rw (e, pick_yes)

-- where there is one, with its return code
pub rc_some : (replied rc : ℕ) → eqb replied 0 ≡ false → rc_text replied rc ≡ wide rc ++ (0x0A ∷ [])
unfolding rc_text
rc_some replied rc e = rw (e, pick_no)

-- the last line of a session that runs
pub end_at_lem : (s : Session) → s.running ≡ true → end_text s ≡ end_at ++ (wide s.place ++ (0x0A ∷ []))
unfolding end_text
end_at_lem s e = rw (e, pick_yes)

-- the last line of another
pub end_none : (s : Session) → s.running ≡ false → end_text s ≡ end_none_def
unfolding end_text
end_none s e = rw (e, pick_no)

-- how long a number is with a byte after it
pub ended_length : (n b : ℕ) → length (wide n ++ (b ∷ [])) ≡ digit_count_def 19 n + 1
ended_length n b = simp (length-append, digits_length)

-- how long a line is
pub line_length : (k refusal replied rc : ℕ) → length (line_text k refusal replied rc)
    ≡ digit_count_def 19 k + digit_count_def 19 refusal + 2 + length (rc_text replied rc)
line_length k refusal replied rc = simp (length-append, digits_length) (omega arith)

-- no line is left
pub lines_none : (answers : List ℕ) (count k : ℕ) → count ≤ k → lines_from answers (count - k) k ≡ []
unfolding lines_from
lines_none answers count k h =
    let e : count - k ≡ 0 = omega arith in
    rw e

-- the next line, and those after it
lines_turn : (answers : List ℕ) (count k : ℕ) → k < count → lines_from answers (count - k) k
    ≡ line_of answers k ++ lines_from answers (count - (k + 1)) (k + 1)
unfolding lines_from
lines_turn answers count k h =
    let e : count - k ≡ suc (count - (k + 1)) = omega arith in
    rw e

-- so the lines are as long as the next one and those after it
pub lines_length : (answers : List ℕ) (count k : ℕ) → k < count → length (lines_from answers (count - k) k)
    ≡ length (line_of answers k) + length (lines_from answers (count - (k + 1)) (k + 1))
lines_length answers count k h =
    ap (λ (l : List ℕ). length l) (lines_turn answers count k h)
    ∙ length-append (line_of answers k) (lines_from answers (count - (k + 1)) (k + 1))

-- at the start all lines are left
pub lines_all : (answers : List ℕ) (count : ℕ) → length (lines_from answers (count - 0) 0) ≡ length (lines_from answers count 0)
lines_all answers count =
    let e : count - 0 ≡ count = omega arith in
    rw e

-- how long the text is
pub text_length_lem : (answers : List ℕ) (count : ℕ) (s : Session) → length (transcript answers count s)
    ≡ length (lines_from answers count 0) + length (end_text s)
unfolding transcript
text_length_lem answers count s = length-append (lines_from answers count 0) (end_text s)

-- what is left of the text from answer k on
abbrev pub rest_from : List ℕ → ℕ → Session → ℕ → List ℕ
rest_from answers count s k = lines_from answers (count - k) k ++ end_text s

-- at the start all of it
pub rest_all : (answers : List ℕ) (count : ℕ) (s : Session) → rest_from answers count s 0 ≡ transcript answers count s
unfolding transcript
rest_all answers count s =
    let e : count - 0 ≡ count = omega arith in
    rw e

-- after the last answer the last line
pub rest_none : (answers : List ℕ) (count : ℕ) (s : Session) (k : ℕ) → count ≤ k → rest_from answers count s k ≡ end_text s
rest_none answers count s k h = rw (lines_none answers count k h)

-- before it the next line, and what is left after it
pub rest_turn : (answers : List ℕ) (count : ℕ) (s : Session) (k : ℕ) → k < count → rest_from answers count s k
    ≡ line_of answers k ++ rest_from answers count s (k + 1)
rest_turn answers count s k h =
    ap (λ (l : List ℕ). l ++ end_text s) (lines_turn answers count k h)
    ∙ append_assoc (line_of answers k) (lines_from answers (count - (k + 1)) (k + 1)) (end_text s)

-- answers that are fewer than was said are refused
pub written_few : (answers : List ℕ) (count : ℕ) (s : Session) (out : List ℕ) → length answers / 4 < count
    → record { says = refused 12; out = out } ≡ written answers count s out
unfolding written
written_few answers count s out few = simp (lt-ltb _ _ few, pick_yes)

-- so is a text that is longer than the output
pub written_long : (answers : List ℕ) (count : ℕ) (s : Session) (out : List ℕ) → count ≤ length answers / 4
    → length out < length (transcript answers count s)
    → record { says = refused 12; out = out } ≡ written answers count s out
unfolding written
written_long answers count s out all long = simp (le-ltb _ _ all, lt-ltb _ _ long, pick_yes, pick_no)

-- another is written to the output's start, whichever way it comes back
pub written_whole : (answers : List ℕ) (count : ℕ) (s : Session) {a b : Writer} {l : List ℕ} → count ≤ length answers / 4
    → length (transcript answers count s) ≤ length a.buf.now
    → a.at ≡ 0
    → Wrote a b (transcript answers count s)
    → l ≡ b.buf.now
    → record { says = text b.at; out = l } ≡ written answers count s a.buf.now
unfolding written
written_whole answers count s {a} {b} {l} all fits start w back =
    simp (le-ltb _ _ all, le-ltb _ _ fits, pick_no)
    (ap₂ (λ (n : ℕ) (l : List ℕ). record { says = text n; out = l }) (rw start at w.place ∙ zero-add _) (back ∙ rw start at w.written))
