-- The known keys of each kind of map, and the type that each has.
-- Assumes nothing.
use Rattle.std.specs.Prelude.{ℕ, Bool, List, [], ◌∷◌, eqb, Option, Some, None}
use Rattle.laws.specs.Choice.{pick}
use Rattle.laws.specs.Bytes.{same}
use Rattle.cbor.specs.declared.Value.{Value}
use Rattle.cbor.specs.declared.Value.TheVariants.{Unsigned, Negative, Bytes, Null}
use Rattle.fields.specs.declared.Kind.{Kind}
use Rattle.fields.specs.declared.Kind.TheVariants.{Echo, Bare, Upload, Erase, Reply}
use Rattle.fields.specs.declared.Key.{Key}
use Rattle.fields.specs.declared.ValueType.{ValueType}

-- the keys' names, in ASCII: "d", "r", "data", "sha", "off", "len", "image", "upgrade", "slot", "rc"
abbrev pub name_d : List ℕ
name_d = 0x64 ∷ []

abbrev pub name_r : List ℕ
name_r = 0x72 ∷ []

abbrev pub name_data : List ℕ
name_data = 0x64 ∷ 0x61 ∷ 0x74 ∷ 0x61 ∷ []

abbrev pub name_sha : List ℕ
name_sha = 0x73 ∷ 0x68 ∷ 0x61 ∷ []

abbrev pub name_off : List ℕ
name_off = 0x6F ∷ 0x66 ∷ 0x66 ∷ []

abbrev pub name_len : List ℕ
name_len = 0x6C ∷ 0x65 ∷ 0x6E ∷ []

abbrev pub name_image : List ℕ
name_image = 0x69 ∷ 0x6D ∷ 0x61 ∷ 0x67 ∷ 0x65 ∷ []

abbrev pub name_upgrade : List ℕ
name_upgrade = 0x75 ∷ 0x70 ∷ 0x67 ∷ 0x72 ∷ 0x61 ∷ 0x64 ∷ 0x65 ∷ []

abbrev pub name_slot : List ℕ
name_slot = 0x73 ∷ 0x6C ∷ 0x6F ∷ 0x74 ∷ []

abbrev pub name_rc : List ℕ
name_rc = 0x72 ∷ 0x63 ∷ []

-- "Known keys, those listed for the command": echo "d"; reset and the state read none; upload "data", "off", "len", "image", "sha", "upgrade"; erase "slot";
-- a reply "rc", "off", "r"
unfoldable pub key_of : Kind → List ℕ → Option Key
key_of Echo k = pick (same k name_d) (Some Key.Text) None
key_of Bare k = None
key_of Upload k =
    pick (same k name_data) (Some Key.Data)
    (pick (same k name_off) (Some Key.Off)
    (pick (same k name_len) (Some Key.Len)
    (pick (same k name_image) (Some Key.Image)
    (pick (same k name_sha) (Some Key.Sha)
    (pick (same k name_upgrade) (Some Key.Upgrade)
    None)))))
key_of Erase k = pick (same k name_slot) (Some Key.Slot) None
key_of Reply k = pick (same k name_rc) (Some Key.Rc) (pick (same k name_off) (Some Key.Off) (pick (same k name_r) (Some Key.Text) None))

-- a value's type
unfoldable pub type_of : Value → ValueType
type_of (Unsigned n) = ValueType.Unsigned
type_of (Negative n) = ValueType.Negative
type_of (Bytes r) = ValueType.Bytes
type_of (Value.Text r) = ValueType.Text
type_of (Value.Flag b) = ValueType.Flag
type_of Null = ValueType.Null

-- the type listed for a key: "data" and "sha" bytes; "off", "len", "image", "slot" and "rc" unsigned; "d" and "r" text; "upgrade" bool
unfoldable pub type_for_def : Key → ValueType
type_for_def Key.Text = ValueType.Text
type_for_def Key.Data = ValueType.Bytes
type_for_def Key.Sha = ValueType.Bytes
type_for_def Key.Off = ValueType.Unsigned
type_for_def Key.Len = ValueType.Unsigned
type_for_def Key.Image = ValueType.Unsigned
type_for_def Key.Upgrade = ValueType.Flag
type_for_def Key.Slot = ValueType.Unsigned
type_for_def Key.Rc = ValueType.Unsigned

-- a type as a number: the major type, or for false and true 20 and for null 22
unfoldable pub type_number : ValueType → ℕ
type_number ValueType.Unsigned = 0
type_number ValueType.Negative = 1
type_number ValueType.Bytes = 2
type_number ValueType.Text = 3
type_number ValueType.Flag = 20
type_number ValueType.Null = 22

-- a value has the type that is listed for a key
abbrev pub typed : Key → Value → Bool
typed k v = eqb (type_number (type_of v)) (type_number (type_for_def k))
