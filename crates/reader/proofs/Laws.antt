-- The reader's definitions at each way of its tests, in the terms that the code leaves.
-- Assumes nothing.
use mathlib.Core.Path.{◌≡◌, refl, sym, ap, ◌∙◌}
use mathlib.Core.Bool.{Bool, true, false}
use mathlib.Core.Option.{Option, none, some}
use mathlib.Core.List.{List, [], ◌∷◌, ◌++◌}
use Rattle.std.specs.List.{starts_with}
use Prim.Native.Nat.{ℕ, ◌+◌, ◌-◌, ◌≤◌, ◌<◌}
use native.Mathlib.Omega.{arith}
use native.Mathlib.Decide.{ℕ_discrete}
use lib.Dec.{eqb}
use lib.ListN.{length, get_or, take, drop, length-take, length-drop}
use lib.Seq.{length-take-le}
use borrow.Author.Tests.{le-leb, lt-leb, le-ltb, lt-ltb, eq-eqb, ne_eqb}
use Rattle.laws.specs.Choice.{pick}
use Rattle.laws.specs.Bytes.{pasted, of_be16}
use Rattle.laws.proofs.Choice.{pick_yes, pick_no, both_yes, both_no, both_last_no}
use Rattle.laws.proofs.Lists.{pasted_none, pasted_take}
use Rattle.crc.specs.Crc.{crc_of_def}
use Rattle.strict_base64.specs.Base64.{decode}
use Rattle.frame.specs.Line.{longest, newline, initial, partial, marked, begins_with, ended, text_of}
use Rattle.reader.specs.declared.Reader.{Reader}
use Rattle.reader.specs.declared.Reader.TheVariants.{Idle, Open}
use Rattle.reader.specs.Reader.{more, body, is_bad_text, keeping, dropping, possible, body_of, crc_bytes, filled, waiting, completed, absorb}
use Rattle.reader.specs.Reader.{begin, resume, framed, place_in, decoded, take_line_def}

-- the CRC bytes stand in x after the body
pub crc_in_frame : (total come first : ℕ) (x : List ℕ) → come ≤ total - 2 → crc_bytes total come first x ≡ drop (total - 2 - come) x
unfolding crc_bytes
crc_in_frame total come first x h = simp (le-leb come (total - 2) h, pick_yes)

-- or the first is the record's
pub crc_in_record : (total come first : ℕ) (x : List ℕ) → total - 2 < come → crc_bytes total come first x ≡ first ∷ x
unfolding crc_bytes
crc_in_record total come first x h = simp (lt-leb come (total - 2) h, pick_no)

-- the start of x is body
pub filled_part : (total come : ℕ) (x p : List ℕ) → filled total come x p ≡ pasted p come (take (total - 2 - come) x)
unfolding filled body_of
filled_part total come x p = refl

-- nothing of x is body
pub filled_none : (total come : ℕ) (x p : List ℕ) → total - 2 ≤ come → filled total come x p ≡ p
unfolding filled body_of
filled_none total come x p h =
    let e : total - 2 - come ≡ 0 = omega arith in
    rw e (pasted_none p come)

-- the body that a packet ends with stands in the buffer and in x
pub due_both : (total come : ℕ) (x p : List ℕ) → come < total - 2 → total - 2 ≤ length p → total ≤ come + length x
    → take (total - 2) (filled total come x p) ≡ take come p ++ take (total - 2 - come) x
due_both total come x p h room all =
    let n : length (take (total - 2 - come) x) ≡ total - 2 - come = length-take-le (total - 2 - come) x (omega arith) in
    let e : come + length (take (total - 2 - come) x) ≡ total - 2 = omega arith in
    ap (λ (l : List ℕ). take (total - 2) l) (filled_part total come x p)
    ∙ ap (λ (k : ℕ). take k (pasted p come (take (total - 2 - come) x))) (sym e)
    ∙ pasted_take p come (take (total - 2 - come) x) (omega arith)

-- a packet whose CRC differs, and one whose CRC is right
pub completed_wrong : (total come first : ℕ) (x p : List ℕ)
    → (of_be16 (crc_bytes total come first x) ≡ crc_of_def (take (total - 2) (filled total come x p)) → ⊥)
    → completed total come first x p ≡ dropping 9 p
unfolding completed
completed_wrong total come first x p h = simp (ne_eqb _ _ h, pick_no)

pub completed_right : (total come first : ℕ) (x p : List ℕ) → of_be16 (crc_bytes total come first x) ≡ crc_of_def (take (total - 2) (filled total come x p))
    → completed total come first x p ≡ record { says = body (total - 2); reader = Idle; buffer = filled total come x p }
unfolding completed
completed_right total come first x p h = simp (eq-eqb _ _ h, pick_yes)

-- bytes that come: refusals 7 and 8, more, and the last ones
pub absorb_short : (total come first : ℕ) (x p : List ℕ) → length p < total - 2 → absorb total come first x p ≡ dropping 7 p
unfolding absorb
absorb_short total come first x p h = simp (lt-ltb _ _ h, pick_yes)

pub absorb_many : (total come first : ℕ) (x p : List ℕ) → total - 2 ≤ length p → total < come + length x → absorb total come first x p ≡ dropping 8 p
unfolding absorb
absorb_many total come first x p h k = simp (le-ltb _ _ h, pick_no, lt-ltb _ _ k, pick_yes)

pub absorb_more : (total come first : ℕ) (x p : List ℕ) → total - 2 ≤ length p → come + length x < total
    → absorb total come first x p ≡ record { says = more; reader = waiting total come first x; buffer = filled total come x p }
unfolding absorb
absorb_more total come first x p h k =
    let n : come + length x ≤ total = omega arith in
    simp (le-ltb _ _ h, le-ltb _ _ n, pick_no, lt-ltb _ _ k, pick_yes)

pub absorb_last : (total come first : ℕ) (x p : List ℕ) → total - 2 ≤ length p → come + length x ≤ total → total ≤ come + length x
    → absorb total come first x p ≡ completed total come first x p
unfolding absorb
absorb_last total come first x p h k l = simp (le-ltb _ _ h, le-ltb _ _ k, le-ltb _ _ l, pick_no)

-- a record outside its bounds, by each of them, and one within
pub possible_small : (total come : ℕ) → total < 10 → possible total come ≡ false
unfolding possible
possible_small total come h = simp (lt-leb _ _ h, both_no)

pub possible_large : (total come : ℕ) → 65535 < total → possible total come ≡ false
unfolding possible
possible_large total come h = simp (lt-leb _ _ h, both_no, both_last_no)

pub possible_past : (total come : ℕ) → total ≤ come → possible total come ≡ false
unfolding possible
possible_past total come h = simp (le-ltb _ _ h, both_last_no)

pub possible_is : (total come : ℕ) → 10 ≤ total → total ≤ 65535 → come < total → possible total come ≡ true
unfolding possible
possible_is total come h k l = simp (le-leb _ _ h, le-leb _ _ k, lt-ltb _ _ l, both_yes)

-- a partial frame: no packet open, an impossible record, and a possible one
pub resume_idle : (r : Reader) → r ≡ Idle → (raw p : List ℕ) → keeping 5 r p ≡ resume r raw p
unfolding resume
resume_idle r e raw p = rw e

pub resume_impossible : (r : Reader) (total come first : ℕ) → r ≡ Open total come first → possible total come ≡ false
    → (raw p : List ℕ)
    → keeping 5 r p ≡ resume r raw p
unfolding resume
resume_impossible r total come first e h raw p = rw (e, h, pick_no)

pub resume_possible : (r : Reader) (total come first : ℕ) → r ≡ Open total come first → possible total come ≡ true
    → (raw p : List ℕ)
    → absorb total come first raw p ≡ resume r raw p
unfolding resume
resume_possible r total come first e h raw p = rw (e, h, pick_yes)

-- an initial frame: too short, a small total, and a packet that begins
pub begin_short : (raw p : List ℕ) → length raw < 2 → begin raw p ≡ dropping 6 p
unfolding begin
begin_short raw p h = simp (lt-ltb _ _ h, pick_yes)

pub begin_small : (raw p : List ℕ) → 2 ≤ length raw → of_be16 raw < 10 → begin raw p ≡ dropping 6 p
unfolding begin
begin_small raw p h k = simp (le-ltb _ _ h, pick_no, lt-ltb _ _ k, pick_yes)

pub begin_packet_lem : (raw p : List ℕ) → 2 ≤ length raw → 10 ≤ of_be16 raw → begin raw p ≡ absorb (of_be16 raw) 0 0 (drop 2 raw) p
unfolding begin
begin_packet_lem raw p h k = simp (le-ltb _ _ h, le-ltb _ _ k, pick_no)

-- a frame whose text is not well formed, and one whose text stands for raw bytes
pub decoded_bad : (first : Bool) (r : Reader) (i : ℕ) (t : Option (List ℕ)) (p : List ℕ) → t ≡ none
    → decoded first r i t p ≡ record { says = is_bad_text i; reader = Idle; buffer = p }
unfolding decoded
decoded_bad first r i t p e = rw e refl

pub decoded_good : (first : Bool) (r : Reader) (i : ℕ) (t : Option (List ℕ)) (raw p : List ℕ) → t ≡ some raw
    → decoded first r i t p ≡ framed first r raw p
unfolding decoded
decoded_good first r i t raw p e = rw e refl

-- a line's marker, by its two bytes
pub marked_is : (a b : ℕ) (line : List ℕ) → 2 ≤ length line → starts_with eqb line (a ∷ b ∷ []) ≡ marked a b line
unfolding marked
marked_is a b [] h = absurd (omega (arith, h))
marked_is a b (x ∷ []) h = absurd (omega (arith, h))
marked_is a b (x ∷ y ∷ s) h = elim (ℕ_discrete x a) [
  | no n ↦ rw (ne_eqb a x (λ q. n (sym q)), ne_eqb x a n, both_no) refl
  | yes e ↦ elim (ℕ_discrete y b) [
    | no n ↦ rw (eq-eqb a x (sym e), eq-eqb x a e, ne_eqb b y (λ q. n (sym q)), ne_eqb y b n, both_yes) refl
    | yes f ↦ rw (eq-eqb a x (sym e), eq-eqb x a e, eq-eqb b y (sym f), eq-eqb y b f, both_yes) refl
  ]
]

-- a line that is too long, too short, or not ended
pub line_long : (r : Reader) (line p : List ℕ) → longest < length line → take_line_def r line p ≡ keeping 2 r p
unfolding take_line_def
line_long r line p h = simp (lt-ltb _ _ h, pick_yes)

pub line_short : (r : Reader) (line p : List ℕ) → length line < 3 → take_line_def r line p ≡ keeping 3 r p
unfolding take_line_def
line_short r line p h =
    let n : length line ≤ longest = omega arith in
    simp (le-ltb _ _ n, pick_no, lt-ltb _ _ h, pick_yes)

pub line_unended : (r : Reader) (line p : List ℕ) → 3 ≤ length line → length line ≤ longest
    → (get_or line (length line - 1) 0 ≡ newline → ⊥)
    → take_line_def r line p ≡ keeping 3 r p
unfolding take_line_def ended
line_unended r line p h k e = simp (le-ltb _ _ k, le-ltb _ _ h, pick_no, ne_eqb _ _ e, pick_yes)

-- a line that passes these tests: by its marker, or with none
module _ (r : Reader) (line p : List ℕ) (low : 3 ≤ length line) (high : length line ≤ longest) (end : get_or line (length line - 1) 0 ≡ newline) where
  by_marker : take_line_def r line p
      ≡ pick (begins_with initial line) (decoded true r (place_in line) (decode (text_of line)) p)
      (pick (begins_with partial line) (decoded false r (place_in line) (decode (text_of line)) p)
      (keeping 3 r p))
  unfolding take_line_def ended
  by_marker = simp (le-ltb _ _ high, le-ltb _ _ low, pick_no, eq-eqb _ _ end)

  pub line_framed : (first : Bool) → first ≡ begins_with initial line → (first ≡ false → begins_with partial line ≡ true)
      → take_line_def r line p ≡ decoded first r (place_in line) (decode (text_of line)) p
  line_framed true e f = by_marker ∙ rw (← e, pick_yes)
  line_framed false e f = by_marker ∙ rw (← e, pick_no, f refl, pick_yes)

  pub line_unmarked : begins_with initial line ≡ false → begins_with partial line ≡ false → take_line_def r line p ≡ keeping 3 r p
  line_unmarked e f = by_marker ∙ rw (e, pick_no, f, pick_no)

-- a text is three bytes shorter than its line
pub text_size : (line : List ℕ) → length (text_of line) ≤ length line - 3
unfolding text_of
text_size line = simp (length-take, length-drop) (omega arith)
