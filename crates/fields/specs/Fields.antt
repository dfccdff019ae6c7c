-- The fields of a map: what has been read for each known key, in a row, with none where the key has not been there. What is read of a field are the
-- numbers of its value: a number, and 0; false or true as 0 or 1, and 0; or where a string starts in the packet, and its length. So a field holds
-- what its key's type says, and is absent only where its key is.
-- Assumes nothing.
use Rattle.std.specs.Prelude.{ℕ, ◌≡◌, Bool, true, false, eqb, length, get_or, set, replicate, Option, Some, None, is_some}
use Rattle.laws.specs.declared.Run.{Run}
use Rattle.cbor.specs.declared.Value.{Value}
use Rattle.cbor.specs.declared.Value.TheVariants.{Unsigned, Negative, Bytes, Text, Flag, Null}
use Rattle.fields.specs.declared.Key.{Key}
use Rattle.fields.specs.declared.Fields.{Fields}

-- the keys in a row
unfoldable pub index_of : Key → ℕ
index_of Key.Text = 0
index_of Key.Data = 1
index_of Key.Sha = 2
index_of Key.Off = 3
index_of Key.Len = 4
index_of Key.Image = 5
index_of Key.Upgrade = 6
index_of Key.Slot = 7
index_of Key.Rc = 8

-- a map of which nothing has been read
abbrev pub nothing : Fields
nothing = record { values = replicate 9 None }

-- what has been read for a key
abbrev pub under : Key → Fields → Option Value
under k f = get_or f.values (index_of k) None

-- a key is there
abbrev pub there : Key → Fields → Bool
there k f = is_some (under k f)

-- false or true as a number
unfoldable pub flag_number_def : Bool → ℕ
flag_number_def true = 1
flag_number_def false = 0

-- the two numbers of a value
unfoldable pub first_of : Value → ℕ
first_of (Unsigned n) = n
first_of (Negative n) = n
first_of (Bytes r) = r.start
first_of (Text r) = r.start
first_of (Flag b) = flag_number_def b
first_of Null = 0

unfoldable pub second_of : Value → ℕ
second_of (Unsigned n) = 0
second_of (Negative n) = 0
second_of (Bytes r) = r.len
second_of (Text r) = r.len
second_of (Flag b) = 0
second_of Null = 0

-- the fields with a value under a key
unfoldable pub stored : Key → Value → Fields → Fields
stored k v f = record { values = set f.values (index_of k) (Some v) }

-- the number of a value that may be there, its string and its flag: none, or for a flag false, only where no value is
unfoldable pub as_number : Option Value → Option ℕ
as_number None = None
as_number (Some v) = Some (first_of v)

unfoldable pub as_run : Option Value → Option Run
as_run None = None
as_run (Some v) = Some (record { start = first_of v; len = second_of v })

unfoldable pub as_flag : Option Value → Bool
as_flag None = false
as_flag (Some v) = eqb (first_of v) 1

-- the number, the string and the flag under a key; a flag that is left out is false
unfoldable pub number_in_def : Fields → Key → Option ℕ
number_in_def f k = as_number (under k f)

unfoldable pub run_in_def : Fields → Key → Option Run
run_in_def f k = as_run (under k f)

unfoldable pub flag_in_def : Fields → Key → Bool
flag_in_def f k = as_flag (under k f)

-- what is shown of the fields: no two keys have one place
abbrev pub KeysApart : Type 0
KeysApart = (j k : Key) → index_of j ≡ index_of k → j ≡ k

-- what is stored under a key is read there
abbrev pub StoredBack : Type 0
StoredBack = (k : Key) (v : Value) (f : Fields) → length f.values ≡ 9 → (there k (stored k v f) ≡ true) × (under k (stored k v f) ≡ Some v)

-- and what stands under the other keys stays
abbrev pub OthersStay : Type 0
OthersStay = (j k : Key) (v : Value) (f : Fields) → (j ≡ k → ⊥) → under j (stored k v f) ≡ under j f
