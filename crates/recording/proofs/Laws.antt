-- Laws of the records of a file: where a record that begins at a place lies, and how records follow each other.
-- Assumes nothing.
use mathlib.Core.Path.{◌≡◌, refl, sym, subst⁻¹, ◌∙◌}
use mathlib.Core.Bool.{Bool, true, false}
use mathlib.Core.List.{List, []}
use mathlib.Core.Option.{Option, none, some}
use Prim.Native.Nat.{ℕ, suc, ◌+◌, ◌-◌, ◌≤◌, ◌<◌}
use native.Mathlib.Omega.{arith}
use lib.Dec.{ltb, eqb}
use lib.ListN.{length, get_or}
use borrow.Author.Tests.{ltb-false, eqb-true, lt-ltb, le-ltb, eq-eqb, ne_eqb}
use Rattle.laws.specs.Choice.{pick}
use Rattle.laws.specs.Parts.{part_of}
use Rattle.laws.proofs.Choice.{pick_yes, pick_no, pick_case}
use Rattle.std.specs.Prelude.{Some, None}
use Rattle.std.specs.Prelude as std
use Rattle.recording.specs.declared.Record.{Record}
use Rattle.recording.specs.Recording.{
  Entry,
  whole,
  to_mark,
  from_mark,
  be16_at,
  line_at,
  record_at_def,
  trailer_at,
  before,
  entry_then,
  entries_from,
  is_some,
  distance_in,
  number_in_def,
  records_of,
  first_at,
  unreadable,
  is_record,
  over,
  refused,
  said_of,
  step_at_def,
  first_record_def,
}

-- where a whole record lies: its first byte says where it goes, its line follows its two bytes of length, and ends before the end that is asked for
pub record LiesAt (file : List ℕ) (stop at : ℕ) (to : Bool) (start len : ℕ) : Type 0 where
  pub head : at + 3 ≤ stop
  pub mark : get_or file at 0 ≡ pick to to_mark from_mark
  pub line : start ≡ at + 3
  pub size : len ≡ be16_at file (at + 1)
  pub end : start + len ≤ stop

abbrev Lies : List ℕ → ℕ → ℕ → std.Option Record → Type 0
Lies file stop at (Some r) = LiesAt file stop at r.to_controller r.line.start r.line.len
Lies file stop at None = Unit {0}

line_lies : (file : List ℕ) (stop at : ℕ) (to : Bool) → at + 3 ≤ stop → get_or file at 0 ≡ pick to to_mark from_mark → Lies file stop at (line_at file stop at to)
unfolding line_at
line_lies file stop at to h m =
    pick_case (Lies file stop at) (ltb (stop - (at + 3)) (be16_at file (at + 1))) _ _ (λ e. tt)
    (λ e. record { head = h; mark = m; line = refl; size = refl; end = omega (arith, ltb-false (stop - (at + 3)) (be16_at file (at + 1)) e) })

record_lies : (file : List ℕ) (stop at : ℕ) → Lies file stop at (record_at_def file stop at)
unfolding record_at_def
record_lies file stop at =
    pick_case (Lies file stop at) (ltb (stop - at) 3) _ _ (λ e. tt)
    (λ e.
    let h : at + 3 ≤ stop = omega (arith, ltb-false (stop - at) 3 e) in
    pick_case (Lies file stop at) (eqb (get_or file at 0) to_mark) _ _
    (λ f. line_lies file stop at true h (eqb-true (get_or file at 0) to_mark f ∙ sym (pick_yes to_mark from_mark)))
    (λ f.
    pick_case (Lies file stop at) (eqb (get_or file at 0) from_mark) _ _
    (λ g. line_lies file stop at false h (eqb-true (get_or file at 0) from_mark g ∙ sym (pick_no to_mark from_mark))) (λ g. tt)))

pub record_inside : (file : List ℕ) (stop at : ℕ) (to : Bool) (start len : ℕ) → Some (whole to start len) ≡ record_at_def file stop at → LiesAt file stop at to start len
record_inside file stop at to start len e = subst⁻¹ (λ (f : std.Option Record). Lies file stop at f) e (record_lies file stop at)

-- the entry of a record whose line starts at a place of a file
abbrev pub entry_of : List ℕ → Bool → ℕ → ℕ → Entry
entry_of file to start len = record { is_to_controller = to; line = part_of file start len }

-- no record begins there
pub entries_cut : (file : List ℕ) (n at : ℕ) → None ≡ record_at_def file (trailer_at file) at → entries_from file (suc n) at ≡ none
unfolding entries_from entry_then
entries_cut file n at e = rw (← e)

-- a record, and those behind it
pub entries_next : (file : List ℕ) (n at : ℕ) (to : Bool) (start len : ℕ) → Some (whole to start len) ≡ record_at_def file (trailer_at file) at
    → entries_from file (suc n) at ≡ before (entry_of file to start len) (entries_from file n (start + len))
unfolding entries_from entry_then
entries_next file n at to start len e = rw (← e)

-- there are records where there are those behind the first
pub some_before : (e : Entry) (o : Option (List Entry)) → is_some (before e o) ≡ is_some o
unfolding is_some before
some_before e none = refl
some_before e (some es) = refl

-- and none where there are none
pub some_none : is_some none ≡ false
unfolding is_some
some_none = refl

-- no record is left to come: there is none more to ask for where the trailer begins, and elsewhere they do not fill the distance
pub some_end : (file : List ℕ) (at : ℕ) → eqb at (trailer_at file) ≡ is_some (entries_from file 0 at)
unfolding entries_from is_some pick
some_end file at = picked (eqb at (trailer_at file))
  where
    picked : (b : Bool) → b ≡ is_some (pick b (some []) none)
    picked true = refl
    picked false = refl

-- what is said of a place: the file is too short for a trailer, the records are over, no record stands there, or one does
pub step_short : (file : List ℕ) (at : ℕ) → length file < 8 → step_at_def file at ≡ refused 12
unfolding step_at_def
step_short file at h = simp (lt-ltb (length file) 8 h, pick_yes)

pub step_over : (file : List ℕ) (at : ℕ) → 8 ≤ length file → at ≡ trailer_at file → step_at_def file at ≡ over
unfolding step_at_def
step_over file at h e = simp (le-ltb (length file) 8 h, pick_no, eq-eqb at (trailer_at file) e, pick_yes)

module _ (file : List ℕ) (at : ℕ) (h : 8 ≤ length file) (ne : at ≡ trailer_at file → ⊥) where
  pub step_cut : None ≡ record_at_def file (trailer_at file) at → step_at_def file at ≡ refused 12
  unfolding step_at_def said_of
  step_cut e = simp (le-ltb (length file) 8 h, pick_no, ne_eqb at (trailer_at file) ne, ← e)

  pub step_whole : (r : Record) → Some r ≡ record_at_def file (trailer_at file) at → step_at_def file at ≡ is_record r.to_controller r.line.start r.line.len
  unfolding step_at_def said_of
  step_whole r e = simp (le-ltb (length file) 8 h, pick_no, ne_eqb at (trailer_at file) ne, ← e)

-- what is said of a file: too short for a trailer, a distance beyond its start, or by its records
pub first_short : (file : List ℕ) → length file < 8 → first_record_def file ≡ unreadable 12
unfolding first_record_def records_of is_some
first_short file h = simp (lt-ltb (length file) 8 h, pick_yes, pick_no)

pub first_far : (file : List ℕ) → 8 ≤ length file → trailer_at file < distance_in file → first_record_def file ≡ unreadable 12
unfolding first_record_def records_of is_some
first_far file h f = simp (le-ltb (length file) 8 h, lt-ltb (trailer_at file) (distance_in file) f, pick_yes, pick_no)

module _ (file : List ℕ) (d n : ℕ) (h : 8 ≤ length file) (e : d ≡ distance_in file) (f : n ≡ number_in_def file) (l : d ≤ trailer_at file) where
  first_by : pick (is_some (entries_from file n (trailer_at file - d))) (first_at (trailer_at file - d) n) (unreadable 12) ≡ first_record_def file
  unfolding first_record_def records_of
  first_by = simp (e, f, le-ltb (length file) 8 h, le-ltb (trailer_at file) (distance_in file) (rw e at l), pick_no)

  pub first_no : is_some (entries_from file n (trailer_at file - d)) ≡ false → unreadable 12 ≡ first_record_def file
  first_no g = rw (g, pick_no) at first_by

  pub first_yes : is_some (entries_from file n (trailer_at file - d)) ≡ true → first_at (trailer_at file - d) n ≡ first_record_def file
  first_yes g = rw (g, pick_yes) at first_by
