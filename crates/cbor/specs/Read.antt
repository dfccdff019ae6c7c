-- Reading CBOR out of a list of bytes, at a place. "Integer and length heads may have any width; strings are definite-length"; a value is
-- "an integer, a byte or text string, false, true or null; anything else is malformed".
-- Assumes nothing.
use Rattle.std.specs.Prelude.{ℕ, ◌+◌, ◌*◌, ◌-◌, ◌/◌, ◌%◌, ◌^◌, true, false, not, List, [], ◌∷◌, ltb, eqb, length, get_or, take, drop, Option, Some, None}
use Rattle.laws.specs.Choice.{pick}
use Rattle.cbor.specs.declared.Value.{Value}
use Rattle.cbor.specs.declared.Value.TheVariants.{Unsigned, Negative, Bytes, Text, Flag, Null}
use Rattle.cbor.specs.declared.Head.{Head}
use Rattle.cbor.specs.declared.Item.{Item}

-- a number in bytes, the high one first, after the number n
unfoldable pub be_after : ℕ → List ℕ → ℕ
be_after n [] = n
be_after n (b ∷ s) = be_after (n * 256 + b) s

-- how many bytes follow an initial byte whose five low bits are 24, 25, 26 or 27: one, two, four or eight
unfoldable pub width_of : ℕ → ℕ
width_of info = 2 ^ (info - 24)

-- the head with the initial byte b before place `at`: its argument is in the five low bits where they are below 24; 24 to 27 say how
-- many bytes hold it; 28 to 31 are malformed
unfoldable pub head_after : List ℕ → ℕ → ℕ → Option Head
head_after s b at =
    pick (ltb (b % 32) 24) (Some (record { major = b / 32; argument = b % 32; next = at }))
    (pick (ltb 27 (b % 32)) None
    (pick (ltb (length s - at) (width_of (b % 32))) None
    (Some (record { major = b / 32; argument = be_after 0 (take (width_of (b % 32)) (drop at s)); next = at + width_of (b % 32) }))))

-- the head at a place; none where it is malformed
unfoldable pub head_at_def : List ℕ → ℕ → Option Head
head_at_def s at = pick (ltb at (length s)) (head_after s (get_or s at 0) (at + 1)) None

-- a string of n bytes from a place on, where they are there
unfoldable pub string_from_def : List ℕ → Value → ℕ → ℕ → Option Item
string_from_def s v n at = pick (ltb (length s - at) n) None (Some (record { value = v; next = at + n }))

-- the value that a head of this major type and argument begins
unfoldable pub value_after_def : List ℕ → Option Head → Option Item
value_after_def s None = None
value_after_def s (Some h) =
    pick (eqb h.major 0) (Some (record { value = Unsigned h.argument; next = h.next }))
    (pick (eqb h.major 1) (Some (record { value = Negative h.argument; next = h.next }))
    (pick (eqb h.major 2) (string_from_def s (Bytes (record { start = h.next; len = h.argument })) h.argument h.next)
    (pick (eqb h.major 3) (string_from_def s (Text (record { start = h.next; len = h.argument })) h.argument h.next)
    None)))

-- the item at a place, none where it is malformed: false, true and null are the bytes F4, F5 and F6
unfoldable pub item_at : List ℕ → ℕ → Option Item
item_at s at =
    pick (not (ltb at (length s))) None
    (pick (eqb (get_or s at 0) 0xF4) (Some (record { value = Flag false; next = at + 1 }))
    (pick (eqb (get_or s at 0) 0xF5) (Some (record { value = Flag true; next = at + 1 }))
    (pick (eqb (get_or s at 0) 0xF6) (Some (record { value = Null; next = at + 1 }))
    (value_after_def s (head_at_def s at)))))
