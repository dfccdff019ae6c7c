-- A valid image in a region of memory: "the header check of source document 000 passes, header size is at least 32, header and body fit the
-- region, and MCUboot's public TLV area after them is well formed, ends in the region and holds exactly one SHA-256 entry, of 32 bytes". Numbers
-- are little-endian, and sums are exact.
-- Assumes nothing.
use Rattle.std.specs.Prelude.{ℕ, zero, suc, ◌+◌, ◌*◌, ◌-◌, Bool, not, List, [], ◌∷◌, ltb, eqb, length, get_or, Option, Some, None}
use Rattle.laws.specs.Choice.{pick, both}
use Rattle.images.specs.declared.Area.{Area}
use Rattle.images.specs.declared.Version.{Version}
use Rattle.images.specs.declared.Image.{Image}

-- the number in two bytes of s, the low one first
abbrev pub le16_at : List ℕ → ℕ → ℕ
le16_at s at = get_or s at 0 + get_or s (at + 1) 0 * 256

-- the number in four bytes of s, the low one first
abbrev pub le32_at : List ℕ → ℕ → ℕ
le32_at s at = le16_at s at + le16_at s (at + 2) * 65536

-- the header check of source document 000: the magic number; load address, protected area's size and flags 0
unfoldable pub header_ok : List ℕ → Bool
header_ok s = both (eqb (le32_at s 0) 0x96F3B83D) (both (eqb (le32_at s 4) 0) (both (eqb (le16_at s 10) 0) (eqb (le32_at s 16) 0)))

-- the area after header and body, which end at a place: where its entries stand. Its head, a magic number and a total size, lies in the region, so
-- header and body fit it too; the magic number is 6907 hex; the total counts the head and ends in the region
unfoldable pub area_after_def : List ℕ → ℕ → Option Area
area_after_def s end =
    pick (ltb (length s) (end + 4)) None
    (pick (not (eqb (le16_at s end) 0x6907)) None
    (pick (ltb (le16_at s (end + 2)) 4) None
    (pick (ltb (length s) (end + le16_at s (end + 2))) None
    (Some (record { start = end + 4; stop = end + le16_at s (end + 2) })))))

-- the area of a region: the header check, the header's size, and what stands after header and body
unfoldable pub area_in_def : List ℕ → Option Area
area_in_def s = pick (not (header_ok s)) None (pick (ltb (le16_at s 8) 32) None (area_after_def s (le16_at s 8 + le32_at s 12)))

-- one entry of an area: its type, where its bytes start and how many they are
pub record Entry : Type 0 where
  pub kind : ℕ
  pub place : ℕ
  pub size : ℕ

-- the entry whose head of four bytes is at a place
abbrev pub entry_at : List ℕ → ℕ → Entry
entry_at s at = record { kind = le16_at s at; place = at + 4; size = le16_at s (at + 2) }

-- an entry before others, where these are well formed
unfoldable pub followed : Entry → Option (List Entry) → Option (List Entry)
followed e None = None
followed e (Some es) = Some (e ∷ es)

-- the entries of s from a place to a stop, n at most: well formed where they fill the distance
unfoldable pub entries_from : List ℕ → ℕ → ℕ → ℕ → Option (List Entry)
entries_from s stop zero at = pick (eqb at stop) (Some []) None
entries_from s stop (suc n) at =
    pick (eqb at stop) (Some [])
    (pick (ltb (stop - at) 4) None
    (pick (ltb (stop - (at + 4)) (entry_at s at).size) None
    (followed (entry_at s at) (entries_from s stop n (at + 4 + (entry_at s at).size)))))

-- all entries from a place to a stop; each takes four bytes or more
abbrev pub entries : List ℕ → ℕ → ℕ → Option (List Entry)
entries s start stop = entries_from s stop (stop - start) start

-- the SHA-256 entries among others: those of type 10 hex
unfoldable pub hashes : List Entry → List Entry
hashes [] = []
hashes (e ∷ es) = pick (eqb e.kind 0x10) (e ∷ hashes es) (hashes es)

-- "exactly one SHA-256 entry, of 32 bytes": where its bytes start
unfoldable pub only_hash : List Entry → Option ℕ
only_hash [] = None
only_hash (e ∷ []) = pick (eqb e.size 32) (Some e.place) None
only_hash (e ∷ f ∷ es) = None

-- the same of entries that may not be well formed
unfoldable pub hash_of : Option (List Entry) → Option ℕ
hash_of None = None
hash_of (Some es) = only_hash (hashes es)

-- the version that a header has
abbrev pub version_of : List ℕ → Version
version_of s = record { major = get_or s 20 0; minor = get_or s 21 0; revision = le16_at s 22 }

-- the image whose hash was found: its version, as the header check has it, and where its hash stands
unfoldable pub image_with : List ℕ → Option ℕ → Option Image
image_with s None = None
image_with s (Some hash) = Some (record { version = version_of s; hash = hash })

-- the image of an area
unfoldable pub image_of : List ℕ → Option Area → Option Image
image_of s None = None
image_of s (Some a) = image_with s (hash_of (entries s a.start a.stop))

-- the image of a region
abbrev pub image_in_def : List ℕ → Option Image
image_in_def s = image_of s (area_in_def s)
