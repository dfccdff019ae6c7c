-- The place that the reader gives is that of the paper's sentence.
-- Assumes nothing.
use mathlib.Core.Path.{◌≡◌, refl, sym}
use Prim.Native.Nat.{ℕ, ◌+◌, ◌-◌, ◌≤◌, ◌<◌}
use native.Mathlib.Omega.{arith}
use mathlib.Core.Bool.{Bool}
use mathlib.Core.List.{List}
use mathlib.Core.Logic.{inl, inr}
use mathlib.Core.Option.{Option, none, some}
use lib.ListN.{length, take, drop, length-take, length-drop}
use lib.Seq.{take-take}
use borrow.Author.Tests.{ltb-false}
use Rattle.laws.proofs.Choice.{pick_case}
use Rattle.strict_base64.specs.Base64.{decode}
use Rattle.fault.specs.Fault.{Place, place_of_def}
use Rattle.fault.proofs.Places.{place_is}
use Rattle.frame.specs.Line.{text_of}
use Rattle.reader.specs.declared.Reader.{Reader}
use Rattle.reader.specs.Reader.{Said, is_bad_text, refused, Outcome, place_in, decoded, take_line_def}
use Rattle.reader.specs.Place.{up_to, PlaceIn, PlaceGiven}
use Rattle.reader.proofs.Plain.{Plain, plain_framed}

-- what stands in a line up to a place of its text is a part of the text
up_to_lem : (line : List ℕ) (j : ℕ) → 2 ≤ j → j + 1 < length line → up_to line j ≡ take (j - 1) (text_of line)
unfolding text_of
up_to_lem line j h k = sym (take-take (j - 1) (length line - 1 - 2) (drop 2 line) (omega arith))

-- the place in the text is that place in the line
in_line : (line : List ℕ) → 3 ≤ length line → decode (text_of line) ≡ none → PlaceIn line (place_in line)
unfolding place_in text_of
in_line line h e =
    let p : Place (text_of line) (place_of_def (text_of line)) = place_is (text_of line) in
    let size : length (text_of line) ≡ length line - 3 = simp (length-take, length-drop) (omega arith) in
    record {
      bad = e;
      within = (omega arith, omega (arith, p.within));
      before = λ j l k.
          let n : j - 2 + 1 ≡ j - 1 = omega arith in
          rw (up_to_lem line j l (omega (arith, p.within)), ← n) (p.before (j - 2) (omega arith));
      there = λ l b.
          let n : place_of_def (text_of line) + 2 - 1 ≡ place_of_def (text_of line) + 1 = omega arith in
          p.there (omega arith) (rw (up_to_lem line (place_of_def (text_of line) + 2) (omega arith) l, n) at b);
    }

-- no other refusal has a place
no_place : (n i : ℕ) → refused n ≡ is_bad_text i → ⊥
no_place n i e = let z : ◌≡◌ {A = ℕ} 0 1 = cc in omega arith

-- nor has what is said of raw bytes
plain_no_place : (a : Said) (i : ℕ) → Plain a → a ≡ is_bad_text i → ⊥
plain_no_place a i (inl e) f = let z : ◌≡◌ {A = ℕ} 0 1 = cc in omega arith
plain_no_place a i (inr (inl (n, e))) f = let z : ◌≡◌ {A = ℕ} 0 1 = cc in omega arith
plain_no_place a i (inr (inr (n, e))) f = let z : ◌≡◌ {A = ℕ} 0 1 = cc in omega arith

-- a frame's place is that of its text
of_text : (first : Bool) (r : Reader) (line p : List ℕ) (i : ℕ) (t : Option (List ℕ)) → 3 ≤ length line → decode (text_of line) ≡ t
    → (decoded first r (place_in line) t p).says ≡ is_bad_text i
    → PlaceIn line i
unfolding decoded
of_text first r line p i none h e f = let same : place_in line ≡ i = cc in rw same at (in_line line h e)
of_text first r line p i (some raw) h e f = absurd (plain_no_place _ i (plain_framed first r raw p) f)

-- the place that the reader gives is that one
pub place_given : PlaceGiven
unfolding take_line_def
place_given r line p i =
    let Told : Outcome → Type 0 = λ o. o.says ≡ is_bad_text i → PlaceIn line i in
    pick_case Told _ _ _ (λ e f. absurd (no_place 2 i f))
    (λ e. pick_case Told _ _ _ (λ e f. absurd (no_place 3 i f))
    (λ low. let h : 3 ≤ length line = ltb-false (length line) 3 low in
    pick_case Told _ _ _ (λ e f. absurd (no_place 3 i f))
    (λ e. pick_case Told _ _ _ (λ e. of_text _ r line p i (decode (text_of line)) h refl)
    (λ e. pick_case Told _ _ _ (λ e. of_text _ r line p i (decode (text_of line)) h refl)
    (λ e f. absurd (no_place 3 i f))))))
