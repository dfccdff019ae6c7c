-- For whoever goes through a recording with the reader: where its first record stands, and what the reader gives while records are left.
-- Assumes nothing.
use Prim.{Unit}
use mathlib.Core.Path.{◌≡◌, refl, sym, ap, subst, ◌∙◌}
use mathlib.Core.Bool.{Bool}
use mathlib.Core.List.{List, [], ◌∷◌}
use mathlib.Core.Option.{Option, none, some}
use Prim.Native.Nat.{ℕ, ◌+◌, ◌≤◌, ◌<◌}
use native.Mathlib.Omega.{arith}
use lib.Dec.{ltb, eqb}
use lib.ListN.{length}
use Rattle.std.specs.Prelude.{Some, None}
use Rattle.std.specs.Prelude as std
use Rattle.recording.specs.declared.Record.{Record}
use Rattle.recording.specs.Recording.{Entry, record_at_def, trailer_at, Said, is_record, over, refused, said_of, step_at_def, number_in_def, first_in, records_of, is_some, first_at, unreadable, first_record_def, Reads, ends, goes_on}
use Rattle.laws.proofs.Choice.{pick_yes, pick_no}
use Rattle.recording.proofs.Laws.{record_inside, entry_of}
use Rattle.recording.proofs.Form.{pick_second, reads_them}

-- the records of a file that has a first one at this place, or would have it there: as many as are said, and the reader gives them
pub record Begins (file : List ℕ) (place number : ℕ) : Type 0 where
  pub entries : List Entry
  pub are : records_of file ≡ some entries
  pub reads : Reads file place entries
  pub many : length entries ≡ number

-- a file that is said to have a first record has these
pub first_begins : (file : List ℕ) (place number : ℕ) → first_at place number ≡ first_record_def file → Begins file place number
unfolding first_record_def is_some
first_begins file place number e = by-records (records_of file) refl
  where
    same_place : {a b c d : ℕ} → first_at a b ≡ first_at c d → a ≡ c
    same_place e = cc

    same_number : {a b c d : ℕ} → first_at a b ≡ first_at c d → b ≡ d
    same_number e = cc

    by-records : (o : Option (List Entry)) → records_of file ≡ o → Begins file place number
    by-records none f =
        let never : first_at place number ≡ unreadable 12 = rw (f, pick_no) at e in
        let z : ◌≡◌ {A = ℕ} 0 1 = cc in
        absurd (omega arith)
    by-records (some es) f =
        let there : first_at place number ≡ first_at (first_in file) (number_in_def file) = rw (f, pick_yes) at e in
        let r = reads_them file es f in
        record {
          entries = es;
          are = f;
          reads = subst (λ (at : ℕ). Reads file at es) (sym (same_place there)) r.0;
          many = r.1 ∙ sym (same_number there);
        }

-- a file that is refused has none
pub first_none : (file : List ℕ) (n : ℕ) → unreadable n ≡ first_record_def file → records_of file ≡ none
unfolding first_record_def is_some
first_none file n e = by-records (records_of file) refl
  where
    by-records : (o : Option (List Entry)) → records_of file ≡ o → records_of file ≡ none
    by-records none f = f
    by-records (some es) f =
        let never : unreadable n ≡ first_at (first_in file) (number_in_def file) = rw (f, pick_yes) at e in
        let z : ◌≡◌ {A = ℕ} 0 1 = cc in
        absurd (omega arith)

-- what is said of a place is that a record stands there
abbrev pub IsRecord : Said → Type 0
IsRecord (is_record to start len) = Unit {0}
IsRecord over = ⊥
IsRecord (refused n) = ⊥

-- while records are left the reader gives one
pub reads_record : (file : List ℕ) (at : ℕ) (es : List Entry) (s : Said) → Reads file at es → 0 < length es → s ≡ step_at_def file at → IsRecord s
reads_record file at [] s (ends e) h f = absurd (omega arith)
reads_record file at (x ∷ es) s (goes_on to start len e r) h f = subst IsRecord (sym (f ∙ e)) tt

-- the next record and those behind it
pub record Goes (file : List ℕ) (es : List Entry) (to : Bool) (start len : ℕ) : Type 0 where
  pub rest : List Entry
  pub are : es ≡ entry_of file to start len ∷ rest
  pub reads : Reads file (start + len) rest

-- two records of which the same is said start at one place and are of one length
same_start : {a b : Bool} {c d i j : ℕ} → is_record a c i ≡ is_record b d j → c ≡ d
same_start e = cc

same_len : {a b : Bool} {c d i j : ℕ} → is_record a c i ≡ is_record b d j → i ≡ j
same_len e = cc

-- the record that the reader gives is the first of those that are left
pub reads_next : (file : List ℕ) (at : ℕ) (es : List Entry) (to : Bool) (start len : ℕ) → Reads file at es → 0 < length es
    → is_record to start len ≡ step_at_def file at → Goes file es to start len
reads_next file at [] to start len (ends e) h f = absurd (omega arith)
reads_next file at (x ∷ es) to start len (goes_on to' start' len' e r) h f = there (f ∙ e)
  where
    same-to : {a b : Bool} {c d i j : ℕ} → is_record a c i ≡ is_record b d j → a ≡ b
    same-to e = cc

    there : is_record to start len ≡ is_record to' start' len' → Goes file (entry_of file to' start' len' ∷ es) to start len
    there p = record {
      rest = es;
      are = rw (same-to p, same_start p, same_len p);
      reads = rw (same_start p, same_len p) r;
    }

-- the reader gives the same records whenever it goes through them
pub reads_once : (file : List ℕ) (at : ℕ) (es fs : List Entry) → Reads file at es → Reads file at fs → es ≡ fs
reads_once file at [] [] (ends e) (ends f) = refl
reads_once file at [] (y ∷ fs) (ends e) (goes_on to start len f r) =
    let never : over ≡ is_record to start len = sym e ∙ f in
    let z : ◌≡◌ {A = ℕ} 0 1 = cc in
    absurd (omega arith)
reads_once file at (x ∷ es) [] (goes_on to start len e r) (ends f) =
    let never : over ≡ is_record to start len = sym f ∙ e in
    let z : ◌≡◌ {A = ℕ} 0 1 = cc in
    absurd (omega arith)
reads_once file at (x ∷ es) (y ∷ fs) (goes_on to start len e r) f =
    let g = reads_next file at (y ∷ fs) to start len f (omega arith) (sym e) in
    ap (λ (l : List Entry). entry_of file to start len ∷ l) (reads_once file (start + len) es g.rest r g.reads) ∙ sym g.are

-- a record that the reader gives lies within the file
pub step_inside : (file : List ℕ) (at : ℕ) (to : Bool) (start len : ℕ) → is_record to start len ≡ step_at_def file at → start + len ≤ length file
unfolding step_at_def said_of
step_inside file at to start len e =
    let long = pick_second (ltb (length file) 8) (refused 12) _ (is_record to start len) (λ p. let z : ◌≡◌ {A = ℕ} 0 1 = cc in omega arith) (sym e) in
    let here = pick_second (eqb at (trailer_at file)) over _ (is_record to start len) (λ p. let z : ◌≡◌ {A = ℕ} 0 1 = cc in omega arith) long.1 in
    by-found (record_at_def file (trailer_at file) at) refl here.1
  where
    by-found : (f : std.Option Record) → f ≡ record_at_def file (trailer_at file) at → said_of f ≡ is_record to start len → start + len ≤ length file
    by-found (Some r) p q =
        omega (arith, (record_inside file (trailer_at file) at r.to_controller r.line.start r.line.len p).end, same_start q, same_len q)
    by-found None p q = let z : ◌≡◌ {A = ℕ} 0 1 = cc in absurd (omega arith)
