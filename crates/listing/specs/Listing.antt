-- The list of images: "The reply is {"images": [...]} without "rc". Each valid image gives slot, version as major.minor.revision, and hash, in
-- that order; others are skipped."
-- Assumes nothing.
use Rattle.std.specs.Prelude.{ℕ, ◌+◌, ◌≤◌, List, [], ◌∷◌, ◌++◌, length, Option, Some, None}
use Rattle.laws.specs.Bytes.{Bytes}
use Rattle.laws.specs.Parts.{part_of}
use Rattle.decimal.specs.Decimal.{decimal}
use Rattle.cbor.specs.Write.{head_of, unsigned, bytes_of, text_of, map_of}
use Rattle.fields.specs.Keys.{name_slot}
use Rattle.session.specs.declared.Slot.{Slot}
use Rattle.session.specs.declared.Layout.{Layout}
use Rattle.slot.specs.History.{slot_in}
use Rattle.images.specs.declared.Version.{Version}
use Rattle.images.specs.declared.Image.{Image}
use Rattle.images.specs.Image.{image_in_def}

-- "images", "version" and "hash", in ASCII
abbrev pub name_images : List ℕ
name_images = 0x69 ∷ 0x6D ∷ 0x61 ∷ 0x67 ∷ 0x65 ∷ 0x73 ∷ []

abbrev pub name_version : List ℕ
name_version = 0x76 ∷ 0x65 ∷ 0x72 ∷ 0x73 ∷ 0x69 ∷ 0x6F ∷ 0x6E ∷ []

abbrev pub name_hash : List ℕ
name_hash = 0x68 ∷ 0x61 ∷ 0x73 ∷ 0x68 ∷ []

-- a number below 100,000 in decimal
abbrev pub five : ℕ → List ℕ
five n = decimal 4 n

-- a version as text: "major.minor.revision"
abbrev pub version_text : Version → List ℕ
version_text v = (five v.major ++ (0x2E ∷ [])) ++ ((five v.minor ++ (0x2E ∷ [])) ++ five v.revision)

-- an array's head
abbrev pub array_of : ℕ → List ℕ
array_of n = head_of 4 n

-- the map of the image of a slot with this number, where s are the slot's bytes; nothing where it has none
unfoldable pub image_map : ℕ → List ℕ → Option Image → List ℕ
image_map number s None = []
image_map number s (Some i) =
    map_of 3
    ++ ((text_of name_slot ++ unsigned number)
    ++ ((text_of name_version ++ text_of (version_text i.version))
    ++ (text_of name_hash ++ bytes_of (part_of s i.hash 32))))

-- how many images there are in a slot
unfoldable pub image_count : Option Image → ℕ
image_count None = 0
image_count (Some i) = 1

-- the image of a slot in a memory
abbrev pub image_at_def : List ℕ → Slot → Option Image
image_at_def m slot = image_in_def (slot_in slot m)

-- the list's map, slot 0 before slot 1
unfoldable pub list_map : List ℕ → Layout → List ℕ
list_map m layout =
    map_of 1
    ++ (text_of name_images
    ++ (array_of (image_count (image_at_def m layout.slot0) + image_count (image_at_def m layout.slot1))
    ++ (image_map 0 (slot_in layout.slot0 m) (image_at_def m layout.slot0) ++ image_map 1 (slot_in layout.slot1 m) (image_at_def m layout.slot1))))

-- a list of the images in any memory of bytes is a reply of at most 153 bytes, its header counted
abbrev pub ListFits : Type 0
ListFits = (m : List ℕ) (layout : Layout) → Bytes m → 8 + length (list_map m layout) ≤ 153
