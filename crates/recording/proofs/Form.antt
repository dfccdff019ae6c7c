-- The records of a file are those that it has by the paper's form; and the reader gives them one by one.
-- Assumes nothing.
use mathlib.Core.Path.{◌≡◌, refl, sym, ap, ap₂, subst, ◌∙◌}
use mathlib.Core.Bool.{Bool, true, false}
use mathlib.Core.List.{List, [], ◌∷◌, ◌++◌, append_assoc, append-nil}
use mathlib.Core.Option.{Option, none, some, some-injective}
use Prim.Native.Nat.{ℕ, zero, suc, ◌+◌, ◌*◌, ◌-◌, ◌/◌, ◌%◌, ◌^◌, ◌≤◌, ◌<◌}
use native.Mathlib.Nat.{add-zero}
use native.Mathlib.Numerals.{add-one}
use native.Mathlib.Omega.{arith}
use lib.Dec.{ltb, eqb}
use lib.ListN.{length, take, drop, get_or, length-append, length-take, length-drop, take-append-drop}
use lib.Seq.{get_or-append-add, take_at, take-add, drop-drop, drop-cons, drop-length, drop-append-add, get_or-append_seam}
use borrow.Author.Tests.{ltb-false, le-ltb, eq-eqb, ne_eqb, eqb-true}
use Rattle.laws.specs.Choice.{pick}
use Rattle.laws.specs.Bytes.{Bytes, be16}
use Rattle.laws.specs.Parts.{part_of}
use Rattle.laws.proofs.Choice.{pick_yes, pick_no, pick_keep}
use Rattle.std.specs.Prelude.{Some, None}
use Rattle.std.specs.Prelude as std
use Rattle.recording.specs.declared.Record.{Record}
use Rattle.recording.specs.Recording.{
  Entry,
  whole,
  to_mark,
  from_mark,
  entry_bytes,
  entries_bytes,
  be32,
  trailer_of,
  Short,
  short_none,
  short_next,
  Recorded,
  be16_at,
  be32_at,
  line_at,
  record_at_def,
  trailer_at,
  is_record,
  said_of,
  step_at_def,
  before,
  entry_then,
  entries_from,
  distance_in,
  number_in_def,
  first_in,
  records_of,
  RecordsAre,
  Reads,
  ends,
  goes_on,
  ReadsThem,
}
use Rattle.recording.proofs.Laws.{LiesAt, record_inside, entry_of}

-- a file from a place on is the byte there and what follows
next_byte : (file : List ℕ) (i : ℕ) → i < length file → drop i file ≡ get_or file i 0 ∷ drop (i + 1) file
next_byte file i h = rw add-one (drop-cons file i 0 h)

-- and three bytes, and what follows them
next_three : (file : List ℕ) (i : ℕ) → i + 3 ≤ length file
    → drop i file ≡ get_or file i 0 ∷ get_or file (i + 1) 0 ∷ get_or file (i + 2) 0 ∷ drop (i + 3) file
next_three file i h =
    let two : i + 1 + 1 ≡ i + 2 = omega arith in
    let three : i + 2 + 1 ≡ i + 3 = omega arith in
    next_byte file i (omega arith)
    ∙ ap (λ (l : List ℕ). get_or file i 0 ∷ l) (next_byte file (i + 1) (omega arith))
    ∙ rw (two, next_byte file (i + 2) (omega arith), three)

-- a number of two bytes in two bytes is those bytes
two_back : (a b : ℕ) → a < 256 → b < 256 → be16 (a * 256 + b) ≡ a ∷ b ∷ []
unfolding be16
two_back a b h l =
    let high : (a * 256 + b) / 256 % 256 ≡ a = omega arith in
    let low : (a * 256 + b) % 256 ≡ b = omega arith in
    rw (high, low)

-- a whole record's bytes are those of its entry
entry_is : (file : List ℕ) (stop at : ℕ) (to : Bool) (start len : ℕ) → Bytes file → stop ≤ length file → LiesAt file stop at to start len
    → take (3 + len) (drop at file) ≡ entry_bytes (entry_of file to start len)
unfolding entry_bytes
entry_is file stop at to start len bytes h l =
    let size : length (part_of file start len) ≡ len = simp (length-take, length-drop) (omega (arith, l.end)) in
    let more : 3 + len ≡ suc (suc (suc len)) = omega arith in
    let heads : be16 len ≡ get_or file (at + 1) 0 ∷ get_or file (at + 2) 0 ∷ [] =
    ap be16 l.size ∙ ap (λ (i : ℕ). be16 (get_or file (at + 1) 0 * 256 + get_or file i 0)) (plus-two at)
    ∙ two_back (get_or file (at + 1) 0) (get_or file (at + 2) 0) (bytes (at + 1)) (bytes (at + 2)) in
    ap₂ (λ (n : ℕ) (s : List ℕ). take n s) more (next_three file at (omega (arith, l.head)))
    ∙ ap₂ (λ (x : ℕ) (s : List ℕ). x ∷ get_or file (at + 1) 0 ∷ get_or file (at + 2) 0 ∷ take len s) l.mark (ap (λ (n : ℕ). drop n file) (sym l.line))
    ∙ ap (λ (s : List ℕ). pick to to_mark from_mark ∷ (s ++ part_of file start len)) (sym heads)
    ∙ ap (λ (n : ℕ). pick to to_mark from_mark ∷ (be16 n ++ part_of file start len)) (sym size)
  where
    plus-two : (at : ℕ) → at + 1 + 1 ≡ at + 2
    plus-two at = omega arith

-- one entry more was put before others that are there
before_some : (e : Entry) (o : Option (List Entry)) (es : List Entry) → before e o ≡ some es → (rest : List Entry) × ((o ≡ some rest) × (e ∷ rest ≡ es))
unfolding before
before_some e none es p = let z : ◌≡◌ {A = ℕ} 0 1 = cc in absurd (omega arith)
before_some e (some rest) es p = (rest, (refl, some-injective (e ∷ rest) es p))

-- records that were found from a place on: their bytes fill the file up to the trailer, and they are as many as were asked for
record Filled (file : List ℕ) (n at : ℕ) (es : List Entry) : Type 0 where
  low : at ≤ trailer_at file
  bytes : take (trailer_at file - at) (drop at file) ≡ entries_bytes es
  number : length es ≡ n
  short : Short es

module _ (file : List ℕ) (all : Bytes file) (long : 8 ≤ length file) where
  -- one record more before them
  filled_next : (n at : ℕ) (to : Bool) (start len : ℕ) (es : List Entry) → LiesAt file (trailer_at file) at to start len → Filled file n (start + len) es
      → Filled file (suc n) at (entry_of file to start len ∷ es)
  unfolding entries_bytes
  filled_next n at to start len es l f =
      let whole : trailer_at file - at ≡ 3 + len + (trailer_at file - (start + len)) = omega (arith, l.head, l.line, l.end) in
      let next : at + (3 + len) ≡ start + len = omega (arith, l.line) in
      let a : ℕ = at + 1 in
      let size : length (part_of file start len) < 65536 =
      simp (length-take, length-drop) (omega (arith, l.size, all (at + 1), all (at + 1 + 1))) in
      record {
        low = omega (arith, l.head);
        bytes =
            ap (λ (k : ℕ). take k (drop at file)) whole
            ∙ take-add (3 + len) (trailer_at file - (start + len)) (drop at file)
            ∙ ap₂ (λ (x y : List ℕ). x ++ y) (entry_is file (trailer_at file) at to start len all (omega arith) l)
            (ap (λ (s : List ℕ). take (trailer_at file - (start + len)) s) (drop-drop (3 + len) at file ∙ ap (λ (k : ℕ). drop k file) next) ∙ f.bytes);
        number = ap suc f.number;
        short = short_next size f.short;
      }

  filled : (n at : ℕ) (es : List Entry) → entries_from file n at ≡ some es → Filled file n at es
  unfolding entries_from entry_then entries_bytes
  filled zero at es e =
      let k = pick_keep (eqb at (trailer_at file)) (some []) none (some es) (λ p. let z : ◌≡◌ {A = ℕ} 0 1 = cc in omega arith) e in
      let here : at ≡ trailer_at file = eqb-true at (trailer_at file) k.0 in
      let empty : [] ≡ es = some-injective [] es k.1 in
      subst (λ (l : List Entry). Filled file 0 at l) empty
      (record {
        low = omega arith;
        bytes = let z : trailer_at file - at ≡ 0 = omega arith in rw z;
        number = refl;
        short = short_none;
      })
  filled (suc n) at es e = found (record_at_def file (trailer_at file) at) refl e (λ end rest p. filled n end rest p)
    where
      found : (f : std.Option Record) → f ≡ record_at_def file (trailer_at file) at → entry_then file (λ end. entries_from file n end) f ≡ some es
          → ((end : ℕ) (rest : List Entry) → entries_from file n end ≡ some rest → Filled file n end rest) → Filled file (suc n) at es
      found None p q deeper = let z : ◌≡◌ {A = ℕ} 0 1 = cc in absurd (omega arith)
      found (Some r) p q deeper =
          let b = before_some (entry_of file r.to_controller r.line.start r.line.len) (entries_from file n (r.line.start + r.line.len)) es q in
          subst (λ (l : List Entry). Filled file (suc n) at l) b.1.1
          (filled_next n at r.to_controller r.line.start r.line.len b.0 (record_inside file (trailer_at file) at r.to_controller r.line.start r.line.len p) (deeper (r.line.start + r.line.len) b.0 b.1.0))

-- a choice that is z and whose first arm can't be z took the second
pub pick_second : {A : Type 0} (t : Bool) (a b z : A) → (a ≡ z → ⊥) → pick t a b ≡ z → (t ≡ false) × (b ≡ z)
unfolding pick
pick_second true a b z never e = absurd (never e)
pick_second false a b z never e = (refl, e)

-- four bytes of a file are those of the number that they hold
four_back : (a b c d : ℕ) → a < 256 → b < 256 → c < 256 → d < 256 → be32 ((a * 256 + b) * 65536 + (c * 256 + d)) ≡ a ∷ b ∷ c ∷ d ∷ []
unfolding be32 be16
four_back a b c d ha hb hc hd =
    let n : ℕ = (a * 256 + b) * 65536 + (c * 256 + d) in
    let w : n / 65536 / 256 % 256 ≡ a = omega arith in
    let x : n / 65536 % 256 ≡ b = omega arith in
    let y : n / 256 % 256 ≡ c = omega arith in
    let z : n % 256 ≡ d = omega arith in
    rw (w, x, y, z)

four_bytes : (file : List ℕ) (i : ℕ) → Bytes file → i + 4 ≤ length file → drop i file ≡ be32 (be32_at file i) ++ drop (i + 4) file
four_bytes file i all h =
    let two : i + 1 + 1 ≡ i + 2 = omega arith in
    let three : i + 2 + 1 ≡ i + 3 = omega arith in
    let four : i + 3 + 1 ≡ i + 4 = omega arith in
    let number : be32_at file i ≡ (get_or file i 0 * 256 + get_or file (i + 1) 0) * 65536 + (get_or file (i + 2) 0 * 256 + get_or file (i + 3) 0) = rw three in
    next_three file i (omega arith)
    ∙ ap (λ (s : List ℕ). get_or file i 0 ∷ get_or file (i + 1) 0 ∷ get_or file (i + 2) 0 ∷ s) (next_byte file (i + 3) (omega arith) ∙ rw four)
    ∙ ap (λ (s : List ℕ). s ++ drop (i + 4) file)
    (sym (ap be32 number ∙ four_back (get_or file i 0) (get_or file (i + 1) 0) (get_or file (i + 2) 0) (get_or file (i + 3) 0) (all i) (all (i + 1)) (all (i + 2)) (all (i + 3))))

-- a file whose records were found has the paper's form
recorded : (file : List ℕ) (es : List Entry) → Bytes file → records_of file ≡ some es → Recorded file es
unfolding records_of trailer_of
recorded file es all e =
    let never : none ≡ some es → ⊥ = λ p. let z : ◌≡◌ {A = ℕ} 0 1 = cc in omega arith in
    let k = pick_second (ltb (length file) 8) none _ (some es) never e in
    let l = pick_second (ltb (trailer_at file) (distance_in file)) none _ (some es) never k.1 in
    let long : 8 ≤ length file = ltb-false (length file) 8 k.0 in
    let near : distance_in file ≤ trailer_at file = ltb-false (trailer_at file) (distance_in file) l.0 in
    let f = filled file all long (number_in_def file) (first_in file) es l.1 in
    let stop : ℕ = trailer_at file in
    let whole : length (entries_bytes es) ≡ distance_in file = ap length (sym f.bytes) ∙ simp (length-take, length-drop) (omega (arith, near, long)) in
    let middle : first_in file + (stop - first_in file) ≡ stop = omega (arith, near) in
    let eight : stop + 4 + 4 ≡ length file = omega (arith, long) in
    let trailer : drop stop file ≡ be32 (length (entries_bytes es)) ++ be32 (length es) =
    four_bytes file stop all (omega (arith, long))
    ∙ ap₂ (λ (x y : List ℕ). x ++ y) (ap be32 (sym whole))
    (four_bytes file (stop + 4) all (omega (arith, eight))
    ∙ ap (λ (n : ℕ). be32 (be32_at file (stop + 4)) ++ drop n file) eight
    ∙ rw (drop-length, append-nil) (ap be32 (sym f.number))) in
    record {
      preface = take (first_in file) file;
      short = f.short;
      distance = omega (arith, whole, all stop, all (stop + 1), all (stop + 2), all (stop + 2 + 1));
      is =
          sym (take-append-drop (first_in file) file)
          ∙ ap (λ (s : List ℕ). take (first_in file) file ++ s)
          (sym (take-append-drop (stop - first_in file) (drop (first_in file) file))
          ∙ ap₂ (λ (x y : List ℕ). x ++ y) f.bytes (drop-drop (stop - first_in file) (first_in file) file ∙ ap (λ (n : ℕ). drop n file) middle ∙ trailer));
    }

-- a record stands where its first byte, its length and its line do
record_is : (file : List ℕ) (stop at : ℕ) (to : Bool) → at + 3 + be16_at file (at + 1) ≤ stop → get_or file at 0 ≡ pick to to_mark from_mark
    → record_at_def file stop at ≡ Some (whole to (at + 3) (be16_at file (at + 1)))
unfolding record_at_def line_at pick
record_is file stop at true h m =
    let low : stop - at < 3 → ⊥ = λ l. omega arith in
    rw (le-ltb (stop - at) 3 (omega arith), m, le-ltb (stop - (at + 3)) (be16_at file (at + 1)) (omega arith))
record_is file stop at false h m =
    rw (le-ltb (stop - at) 3 (omega arith), m, le-ltb (stop - (at + 3)) (be16_at file (at + 1)) (omega arith))

-- how long a record is
entry_length : (e : Entry) → length (entry_bytes e) ≡ 3 + length e.line
unfolding entry_bytes be16
entry_length e = omega arith

-- a record's bytes with others behind them, one by one
entry_split : (e : Entry) (r t : List ℕ)
    → (entry_bytes e ++ r) ++ t
    ≡ pick e.is_to_controller to_mark from_mark ∷ length e.line / 256 % 256 ∷ length e.line % 256 ∷ (e.line ++ (r ++ t))
unfolding entry_bytes be16
entry_split e r t =
    ap (λ (s : List ℕ). pick e.is_to_controller to_mark from_mark ∷ length e.line / 256 % 256 ∷ length e.line % 256 ∷ s) (append_assoc e.line r t)

-- a record that stands behind some bytes of a file is found there, with its line
module _ (e : Entry) (file p r : List ℕ) (small : length e.line < 65536) (stop : ℕ) (room : length p + 3 + length e.line ≤ stop)
    (is : file ≡ p ++ (pick e.is_to_controller to_mark from_mark ∷ length e.line / 256 % 256 ∷ length e.line % 256 ∷ (e.line ++ r))) where
  abbrev tail : List ℕ
  tail = pick e.is_to_controller to_mark from_mark ∷ length e.line / 256 % 256 ∷ length e.line % 256 ∷ (e.line ++ r)

  byte : (i : ℕ) → get_or file (length p + i) 0 ≡ get_or tail i 0
  byte i = ap (λ (s : List ℕ). get_or s (length p + i) 0) is ∙ get_or-append-add p tail i 0

  size_there : be16_at file (length p + 1) ≡ length e.line
  size_there =
      let two : length p + 1 + 1 ≡ length p + 2 = omega arith in
      let low : get_or file (length p + 1 + 1) 0 ≡ length e.line % 256 = rw two (byte 2) in
      omega (arith, byte 1, low)

  entry_there : record_at_def file stop (length p) ≡ Some (whole e.is_to_controller (length p + 3) (length e.line))
  entry_there =
      let mark : get_or file (length p) 0 ≡ pick e.is_to_controller to_mark from_mark =
      ap (λ (s : List ℕ). get_or s (length p) 0) is ∙ get_or-append_seam p (pick e.is_to_controller to_mark from_mark) _ 0 in
      record_is file stop (length p) e.is_to_controller (omega (arith, size_there)) mark ∙ ap (λ (n : ℕ). Some (whole e.is_to_controller (length p + 3) n)) size_there

  line_there : part_of file (length p + 3) (length e.line) ≡ e.line
  line_there =
      ap (λ (s : List ℕ). take (length e.line) (drop (length p + 3) s)) is
      ∙ ap (λ (s : List ℕ). take (length e.line) s) (drop-append-add p tail 3)
      ∙ take_at e.line r (length e.line) refl

-- the records of the paper's form are found, from behind whatever stands before them
found : (es : List Entry) (file p t : List ℕ) → file ≡ p ++ (entries_bytes es ++ t) → length t ≡ 8 → Short es → entries_from file (length es) (length p) ≡ some es
unfolding entries_from entries_bytes entry_then before
found [] file p t e eight short_none =
    let size : length p ≡ trailer_at file = omega (arith, ap length e, length-append p t) in
    rw (eq-eqb (length p) (trailer_at file) size, pick_yes)
found (e ∷ es) file p t is eight (short_next small shorts) =
    let n : ℕ = length e.line in
    let r : List ℕ = entries_bytes es ++ t in
    let is' = is ∙ ap (λ (s : List ℕ). p ++ s) (entry_split e (entries_bytes es) t) in
    let total : length file ≡ length p + (3 + n + (length (entries_bytes es) + 8)) =
    ap length is ∙ simp (length-append, entry_length, eight) (omega arith) in
    let room : length p + 3 + n ≤ trailer_at file = omega (arith, total) in
    let next : length p + 3 + n ≡ length (p ++ entry_bytes e) = simp (length-append, entry_length) (omega arith) in
    let shifted : file ≡ (p ++ entry_bytes e) ++ r =
    is ∙ ap (λ (s : List ℕ). p ++ s) (append_assoc (entry_bytes e) (entries_bytes es) t) ∙ sym (append_assoc p (entry_bytes e) r) in
    ap (λ (f : std.Option Record). entry_then file (λ end. entries_from file (length es) end) f) (entry_there e file p r small (trailer_at file) room is')
    ∙ ap₂ (λ (x : List ℕ) (o : Option (List Entry)). before (record { is_to_controller = e.is_to_controller; line = x }) o) (line_there e file p r small (trailer_at file) room is')
    (ap (λ (k : ℕ). entries_from file (length es) k) next ∙ found es file (p ++ entry_bytes e) t shifted eight shorts)

-- a number of four bytes has four
four_long : (n : ℕ) → length (be32 n) ≡ 4
unfolding be32 be16
four_long n = refl

-- a number of four bytes that stands behind some bytes of a file is read back
number_there : (file q r : List ℕ) (n at : ℕ) → file ≡ q ++ (be32 n ++ r) → length q ≡ at → n < 2 ^ 32 → be32_at file at ≡ n
unfolding be32 be16
number_there file q r n at is here small =
    let tail : List ℕ = be32 n ++ r in
    let byte : (i : ℕ) → get_or file (at + i) 0 ≡ get_or tail i 0 = λ i.
    ap₂ (λ (s : List ℕ) (k : ℕ). get_or s (k + i) 0) is (sym here) ∙ get_or-append-add q tail i 0 in
    let zeroth : get_or file at 0 ≡ get_or tail 0 0 = ap (λ (k : ℕ). get_or file k 0) (sym (add-zero at)) ∙ byte 0 in
    let three : at + 2 + 1 ≡ at + 3 = omega arith in
    let last : get_or file (at + 2 + 1) 0 ≡ get_or tail 3 0 = rw three (byte 3) in
    omega (arith, zeroth, byte 1, byte 2, last)

-- there are no more records than bytes of them
no_more_than : (es : List Entry) → length es ≤ length (entries_bytes es)
unfolding entries_bytes
no_more_than [] = omega arith
no_more_than (e ∷ es) = simp (length-append, entry_length) (omega (arith, no_more_than es))

-- the records of a file of the paper's form are found
read_back : (file : List ℕ) (es : List Entry) → Recorded file es → records_of file ≡ some es
unfolding records_of trailer_of
read_back file es h =
    let p : List ℕ = h.preface in
    let body : List ℕ = entries_bytes es in
    let d : List ℕ = be32 (length body) in
    let m : List ℕ = be32 (length es) in
    let eight : length (d ++ m) ≡ 8 = simp (length-append, four_long) refl in
    let total : length file ≡ length p + (length body + 8) = ap length h.is ∙ simp (length-append, four_long) refl in
    let stop : length (p ++ body) ≡ trailer_at file = simp length-append (omega (arith, total)) in
    let first : file ≡ (p ++ body) ++ (d ++ m) = h.is ∙ sym (append_assoc p body (d ++ m)) in
    let second : file ≡ ((p ++ body) ++ d) ++ (m ++ []) =
    first ∙ sym (append_assoc (p ++ body) d m) ∙ ap (λ (s : List ℕ). ((p ++ body) ++ d) ++ s) (sym (append-nil m)) in
    let distance : distance_in file ≡ length body = number_there file (p ++ body) m (length body) (trailer_at file) first stop h.distance in
    let number : number_in_def file ≡ length es =
    number_there file ((p ++ body) ++ d) [] (length es) (trailer_at file + 4) second (simp (length-append, four_long) (omega (arith, total)))
    (omega (arith, h.distance, no_more_than es)) in
    let place : first_in file ≡ length p = omega (arith, total, distance) in
    rw (le-ltb (length file) 8 (omega (arith, total)), pick_no, le-ltb (trailer_at file) (distance_in file) (omega (arith, total, distance)), pick_no, number, place)
    (found es file p (d ++ m) h.is eight h.short)

-- the records of a file are those of the paper's form
pub records_are : RecordsAre
records_are file es all = (recorded file es all, read_back file es)

-- records that were found from a place on are what the reader gives from there
reads : (file : List ℕ) (n at : ℕ) (es : List Entry) → 8 ≤ length file → entries_from file n at ≡ some es → Reads file at es × (length es ≡ n)
unfolding entries_from entry_then step_at_def said_of
reads file zero at es long e =
    let k = pick_keep (eqb at (trailer_at file)) (some []) none (some es) (λ p. let z : ◌≡◌ {A = ℕ} 0 1 = cc in omega arith) e in
    let empty : [] ≡ es = some-injective [] es k.1 in
    subst (λ (l : List Entry). Reads file at l × (length l ≡ 0)) empty (ends (rw (le-ltb (length file) 8 long, pick_no, k.0, pick_yes)), refl)
reads file (suc n) at es long e = found-there (record_at_def file (trailer_at file) at) refl e (λ end rest p. reads file n end rest long p)
  where
    found-there : (f : std.Option Record) → f ≡ record_at_def file (trailer_at file) at → entry_then file (λ end. entries_from file n end) f ≡ some es
        → ((end : ℕ) (rest : List Entry) → entries_from file n end ≡ some rest → Reads file end rest × (length rest ≡ n))
        → Reads file at es × (length es ≡ suc n)
    found-there None p q deeper = let z : ◌≡◌ {A = ℕ} 0 1 = cc in absurd (omega arith)
    found-there (Some r) p q deeper =
        let b = before_some (entry_of file r.to_controller r.line.start r.line.len) (entries_from file n (r.line.start + r.line.len)) es q in
        let d = deeper (r.line.start + r.line.len) b.0 b.1.0 in
        let l = record_inside file (trailer_at file) at r.to_controller r.line.start r.line.len p in
        let here : step_at_def file at ≡ is_record r.to_controller r.line.start r.line.len =
        rw (le-ltb (length file) 8 long, pick_no, ne_eqb at (trailer_at file) (λ z. omega (arith, l.head)), pick_no, ← p) in
        subst (λ (x : List Entry). Reads file at x × (length x ≡ suc n)) b.1.1 (goes_on r.to_controller r.line.start r.line.len here d.0, ap suc d.1)

-- so from the first record on it gives the records of the file
pub reads_them : ReadsThem
unfolding records_of
reads_them file es e =
    let never : none ≡ some es → ⊥ = λ p. let z : ◌≡◌ {A = ℕ} 0 1 = cc in omega arith in
    let k = pick_second (ltb (length file) 8) none _ (some es) never e in
    let l = pick_second (ltb (trailer_at file) (distance_in file)) none _ (some es) never k.1 in
    reads file (number_in_def file) (first_in file) es (ltb-false (length file) 8 k.0) l.1
