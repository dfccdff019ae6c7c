-- What the reader says and leaves fits the arrays of 32-bit numbers.
-- Assumes nothing.
use mathlib.Core.Path.{◌≡◌, refl, sym, subst}
use mathlib.Core.Bool.{true, false, not, true≢false}
use mathlib.Core.List.{List}
use mathlib.Core.Option.{Option, none, some}
use Prim.Native.Nat.{ℕ, ◌+◌, ◌-◌, ◌≤◌}
use native.Mathlib.Omega.{arith}
use lib.Dec.{ltb, leb, eqb}
use lib.ListN.{length, drop, take}
use borrow.Author.Tests.{ltb-true, ltb-false, leb-true}
use Rattle.laws.specs.Choice.{both}
use Rattle.laws.specs.Bytes.{Bytes, of_be16}
use Rattle.laws.proofs.Choice.{pick_case, both_true}
use Rattle.reader.specs.declared.Taken.{Taken}
use Rattle.crc.specs.Crc.{crc_of_def}
use Rattle.strict_base64.specs.Base64.{decode}
use Rattle.strict_base64.proofs.Laws.{decode_bytes}
use Rattle.fault.proofs.Places.{place_is}
use Rattle.frame.specs.Line.{marked, ended, text_of}
use Rattle.reader.specs.declared.Reader.{Reader}
use Rattle.reader.specs.declared.Reader.TheVariants.{Idle, Open}
use Rattle.reader.specs.Reader.{
  Outcome,
  outcome,
  said,
  is_bad_text,
  keeping,
  dropping,
  possible,
  crc_bytes,
  filled,
  waiting,
  completed,
  absorb,
  begin,
  resume,
  place_in,
  decoded,
  take_line_def,
}
use Rattle.reader.proofs.Laws.{text_size}
use Rattle.records.specs.Inner.{Storable, SmallBy}

-- an outcome can be handed over, and a record that could be leaves one that can
abbrev Small : Reader → Outcome → Type 0
Small r o = SmallBy o.says o.reader × (Storable r → Storable o.reader)

-- a refusal that drops the unfinished packet
dropped : (n : ℕ) (r : Reader) (p : List ℕ) → Small r (dropping n p)
dropped n r p = (λ f. tt, λ s. tt)

-- a packet that completes
small_completed : (r : Reader) (total come first : ℕ) (x p : List ℕ) → total ≤ 65535 → Small r (completed total come first x p)
unfolding completed
small_completed r total come first x p h =
    pick_case (Small r) (eqb (of_be16 (crc_bytes total come first x)) (crc_of_def (take (total - 2) (filled total come x p)))) _ (dropping 9 p)
    (λ e. ((omega arith, tt), λ s. tt)) (λ e. dropped 9 r p)

-- bytes that come
small_absorb : (r : Reader) (total come first : ℕ) (x p : List ℕ) → total ≤ 65535 → Small r (absorb total come first x p)
unfolding absorb waiting
small_absorb r total come first x p h =
    pick_case (Small r) (ltb (length p) (total - 2)) (dropping 7 p) _ (λ e. dropped 7 r p)
    (λ e. pick_case (Small r) (ltb total (come + length x)) (dropping 8 p) _ (λ f. dropped 8 r p)
    (λ f. pick_case (Small r) (ltb (come + length x) total) _ (completed total come first x p)
    (λ g.
    let fits : come + length x ≤ 65535 = omega (arith, ltb-true (come + length x) total g) in
    ((h, fits), λ s. (h, fits)))
    (λ g. small_completed r total come first x p h)))

-- a number of two bytes
two_small : (raw : List ℕ) → Bytes raw → of_be16 raw ≤ 65535
unfolding of_be16
two_small raw b = omega (arith, b 0, b 1)

-- an initial frame
small_begin : (r : Reader) (raw p : List ℕ) → Bytes raw → Small r (begin raw p)
unfolding begin
small_begin r raw p b =
    pick_case (Small r) (ltb (length raw) 2) (dropping 6 p) _ (λ e. dropped 6 r p)
    (λ e. pick_case (Small r) (ltb (of_be16 raw) 10) (dropping 6 p) _ (λ f. dropped 6 r p)
    (λ f. small_absorb r (of_be16 raw) 0 0 (drop 2 raw) p (two_small raw b)))

-- a partial frame
small_resume : (r : Reader) (raw p : List ℕ) → Small r (resume r raw p)
unfolding resume possible both
small_resume Idle raw p = (λ e. tt, λ s. tt)
small_resume (Open total come first) raw p =
    pick_case (Small (Open total come first)) (both (leb 10 total) (both (leb total 65535) (ltb come total))) (absorb total come first raw p)
    (keeping 5 (Open total come first) p)
    (λ e. small_absorb (Open total come first) total come first raw p (leb-true total 65535 (both_true (leb total 65535) (ltb come total)
    (both_true (leb 10 total) (both (leb total 65535) (ltb come total)) e).1).0))
    (λ e. (λ f. absurd (true≢false f), λ s. s))

-- bad text: its place is in the line
bad_text : (r : Reader) (line p : List ℕ) → length line ≤ 127 → Small r (record { says = is_bad_text (place_in line); reader = Idle; buffer = p })
unfolding place_in
bad_text r line p h = ((omega (arith, (place_is (text_of line)).within, text_size line), tt), λ s. tt)

-- any line
pub small_line : (r : Reader) (line p : List ℕ) → Small r (take_line_def r line p)
unfolding take_line_def decoded both
small_line r line p =
    pick_case (Small r) (ltb 127 (length line)) (keeping 2 r p) _ (λ e. (λ f. absurd (true≢false f), λ s. s))
    (λ e. pick_case (Small r) (ltb (length line) 3) (keeping 3 r p) _ (λ f. (λ g. absurd (true≢false g), λ s. s))
    (λ f. pick_case (Small r) (not (ended line)) (keeping 3 r p) _ (λ g. (λ h. absurd (true≢false h), λ s. s))
    (λ g. pick_case (Small r) (marked 0x06 0x09 line) _ _ (λ h. initial (decode (text_of line)) refl (ltb-false 127 (length line) e))
    (λ h. pick_case (Small r) (marked 0x04 0x14 line) _ (keeping 3 r p) (λ i. partial (decode (text_of line)) (ltb-false 127 (length line) e))
    (λ i. (λ j. absurd (true≢false j), λ s. s))))))
  where
    initial : (t : Option (List ℕ)) → decode (text_of line) ≡ t → length line ≤ 127 → Small r (decoded true r (place_in line) t p)
    initial none e h = bad_text r line p h
    initial (some raw) e h = small_begin r raw p (decode_bytes (text_of line) raw e)

    partial : (t : Option (List ℕ)) → length line ≤ 127 → Small r (decoded false r (place_in line) t p)
    partial none h = bad_text r line p h
    partial (some raw) h = small_resume r raw p

-- it can be handed over
pub taken_small : (line p : List ℕ) (t : Taken) (p' : List ℕ) (before : Reader) → outcome t p' ≡ take_line_def before line p → SmallBy (said t.answer) t.reader
taken_small line p t p' before f = subst (λ (o : Outcome). SmallBy o.says o.reader) (sym f) (small_line before line p).0
