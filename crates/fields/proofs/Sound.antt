-- Fields whose strings lie within the bytes that they were read from: those of which nothing has been read, and those with such a string stored.
-- Assumes nothing.
use Rattle.std.proofs.Common.{◌≡◌, ℕ, ◌≤◌, ◌<◌, List, length, refl, ap, arith}
use native.Mathlib.Decide.{dec_le}
use lib.ListN.{length-set}
use Rattle.std.specs.Prelude.{Some}
use Rattle.laws.specs.Parts.{Within}
use Rattle.cbor.specs.declared.Value.{Value}
use Rattle.cbor.specs.declared.Value.TheVariants.{Unsigned, Negative, Bytes, Text, Flag, Null}
use Rattle.cbor.specs.Inner.{Inside}
use Rattle.fields.specs.declared.Key.{Key}
use Rattle.fields.specs.declared.Fields.{Fields}
use Rattle.fields.specs.Keys.{type_of, type_for_def, type_number}
use Rattle.fields.specs.Fields.{index_of, nothing, under, stored, first_of, second_of, as_run, run_in_def}
use Rattle.fields.proofs.Places.{keys_apart, stored_here, others_stay}

-- the fields of the keys that hold strings, which are the first three, name parts of s
pub record Sound (s : List ℕ) (f : Fields) : Type 0 where
  size : length f.values ≡ 9
  inside : (k : Key) → index_of k < 3 → Within s (as_run (under k f))

-- nothing has been read
pub nothing_sound : (s : List ℕ) → Sound s nothing
unfolding index_of as_run
nothing_sound s = record { size = refl; inside = each }
  where
    each : (k : Key) → index_of k < 3 → Within s (as_run (under k nothing))
    each Key.Text h = tt
    each Key.Data h = tt
    each Key.Sha h = tt
    each Key.Off h = tt
    each Key.Len h = tt
    each Key.Image h = tt
    each Key.Upgrade h = tt
    each Key.Slot h = tt
    each Key.Rc h = tt

-- a value whose type is that of a string is a part of s
string_inside : (s : List ℕ) (v : Value) (t : ℕ) → 2 ≤ t → t ≤ 3 → type_number (type_of v) ≡ t → Inside s v → Within s (as_run (Some v))
unfolding type_of type_number first_of second_of as_run
string_inside s (Unsigned n) t a b e h = absurd (omega arith)
string_inside s (Negative n) t a b e h = absurd (omega arith)
string_inside s (Bytes r) t a b e h = h
string_inside s (Text r) t a b e h = h
string_inside s (Flag x) t a b e h = absurd (omega arith)
string_inside s Null t a b e h = absurd (omega arith)

-- the first three keys hold strings
string_key : (k : Key) → index_of k < 3 → (2 ≤ type_number (type_for_def k)) × (type_number (type_for_def k) ≤ 3)
unfolding index_of type_for_def type_number
string_key Key.Text h = (omega arith, omega arith)
string_key Key.Data h = (omega arith, omega arith)
string_key Key.Sha h = (omega arith, omega arith)
string_key Key.Off h = absurd (omega arith)
string_key Key.Len h = absurd (omega arith)
string_key Key.Image h = absurd (omega arith)
string_key Key.Upgrade h = absurd (omega arith)
string_key Key.Slot h = absurd (omega arith)
string_key Key.Rc h = absurd (omega arith)

-- a value stored under a key of its type
pub stored_sound : (s : List ℕ) (f : Fields) (k : Key) (v : Value) → type_of v ≡ type_for_def k → Inside s v → Sound s f → Sound s (stored k v f)
unfolding stored
stored_sound s f k v type within o = record { size = simp length-set o.size; inside = each }
  where
    here : (j : Key) → index_of j ≡ index_of k → index_of j < 3 → Within s (as_run (under j (stored k v f)))
    here j e h =
        let key = string_key k (omega arith) in
        rw (keys_apart j k e, stored_here k v f o.size) (string_inside s v (type_number (type_for_def k)) key.0 key.1 (ap type_number type) within)

    beside : (j : Key) → (index_of j ≡ index_of k → ⊥) → index_of j < 3 → Within s (as_run (under j (stored k v f)))
    beside j e h = rw (others_stay j k v f (λ p. e (ap index_of p))) (o.inside j h)

    each : (j : Key) → index_of j < 3 → Within s (as_run (under j (stored k v f)))
    each j h = elim (dec_le (index_of j) (index_of k)) [
      | yes a ↦ elim (dec_le (index_of k) (index_of j)) [ yes b ↦ here j (omega arith) h | no b ↦ beside j (λ e. omega arith) h ]
      | no a ↦ beside j (λ e. omega arith) h
    ]

-- the string under a key of sound fields lies within the bytes
pub run_sound : (s : List ℕ) (f : Fields) (k : Key) → index_of k < 3 → Sound s f → Within s (run_in_def f k)
unfolding run_in_def
run_sound s f k h o = o.inside k h
