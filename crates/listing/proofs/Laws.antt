-- The list's parts, in the order in which they are written, and how long each is.
-- Assumes nothing.
use Prim.{Unit}
use mathlib.Core.Path.{◌≡◌, refl, sym}
use Rattle.std.specs.Prelude.{Option, Some, None}
use mathlib.Core.List.{List, [], ◌++◌}
use Prim.Native.Nat.{ℕ, ◌+◌, ◌≤◌, ◌<◌}
use native.Mathlib.Omega.{arith}
use lib.Dec.{lit<}
use lib.ListN.{length, drop, length-append, length-take, length-drop}
use Rattle.laws.specs.Bytes.{Bytes}
use Rattle.laws.specs.Parts.{part_of}
use Rattle.writer.specs.declared.Writer.{Writer}
use Rattle.writer.specs.Writer.{Wrote}
use Rattle.laws.proofs.Lists.{pasted_none, bytes_take, bytes_drop}
use Rattle.decimal.specs.Decimal.{digit_count_def}
use Rattle.decimal.proofs.Laws.{digits_length, count_most, byte_digits}
use Rattle.cbor.specs.Write.{unsigned, bytes_of, text_of, map_of}
use Rattle.cbor.proofs.Laws.{head_size, form_one}
use Rattle.fields.specs.Keys.{name_slot}
use Rattle.session.specs.declared.Slot.{Slot}
use Rattle.session.specs.declared.Layout.{Layout}
use Rattle.slot.specs.History.{slot_in}
use Rattle.smp.proofs.Writing.{head_tiny}
use Rattle.images.specs.declared.Version.{Version}
use Rattle.images.specs.declared.Image.{Image}
use Rattle.images.specs.declared.Area.{Area}
use Rattle.images.specs.Image.{area_in_def, entries, hash_of, image_with, image_of, image_in_def}
use Rattle.images.specs.Inner.{ImageWithin}
use Rattle.images.proofs.Laws.{image_within_lem}
use Rattle.listing.specs.Listing.{
  name_images,
  name_version,
  name_hash,
  version_text,
  array_of,
  image_map,
  image_count,
  image_at_def,
  list_map,
  ListFits,
}
use Rattle.listing.specs.Inner.{image_length}

-- nothing was written
pub wrote_none : (w : Writer) → Wrote w w []
wrote_none w = record { same_buffer = refl; place = omega arith; written = sym (pasted_none w.buf.now w.at) }

-- how long a version is
pub version_length : (v : Version) → length (version_text v) ≡ digit_count_def 4 v.major + digit_count_def 4 v.minor + digit_count_def 4 v.revision + 2
version_length v = simp (length-append, digits_length) (omega arith)

-- at most 17 bytes
version_most : (v : Version) → length (version_text v) ≤ 17
version_most v = omega (arith, version_length v, count_most 4 v.major, count_most 4 v.minor, count_most 4 v.revision)

-- a text below 24 bytes takes one byte more
text_length_lem : (x : List ℕ) → length x < 24 → length (text_of x) ≡ 1 + length x
text_length_lem x h = rw length-append (omega (arith, head_tiny 3 (length x) h))

-- a hash takes two bytes more than its 32
hash_length : (s : List ℕ) (hash : ℕ) → hash + 32 ≤ length s → length (bytes_of (part_of s hash 32)) ≡ 34
hash_length s hash h =
    let e : length (part_of s hash 32) ≡ 32 = simp (length-take, length-drop) (omega arith) in
    rw (length-append, e) (omega (arith, head_size 2 32, (form_one 32 (lit< tt) (lit< tt)).1))

-- how long the map of an image is, in a slot whose number is below 24
image_length_lem : (number : ℕ) (s : List ℕ) (image : Option Image) → number < 24 → ImageWithin s image
    → length (image_map number s image) ≡ image_length image
unfolding image_map image_length
image_length_lem number s None h k = refl
image_length_lem number s (Some i) h k =
    let v : List ℕ = version_text i.version in
    omega (
      arith,
      sums (map_of 3) (text_of name_slot) (unsigned number) (text_of name_version) (text_of v) (text_of name_hash) (bytes_of (part_of s i.hash 32)),
      head_tiny 5 3 (lit< tt),
      text_length_lem name_slot (lit< tt),
      head_tiny 0 number h,
      text_length_lem name_version (lit< tt),
      text_length_lem v (omega (arith, version_most i.version)),
      text_length_lem name_hash (lit< tt),
      hash_length s i.hash k,
    )
  where
    sums : (a b c d e f g : List ℕ) → length (a ++ ((b ++ c) ++ ((d ++ e) ++ (f ++ g))))
        ≡ length a + length b + length c + length d + length e + length f + length g
    sums a b c d e f g = simp length-append (omega arith)

-- a slot has at most one image
one_image : (image : Option Image) → image_count image ≤ 1
unfolding image_count
one_image None = omega arith
one_image (Some i) = lit< tt

-- how long the list's map is
pub list_long : (m : List ℕ) (layout : Layout) → length (list_map m layout)
    ≡ 9 + image_length (image_at_def m layout.slot0) + image_length (image_at_def m layout.slot1)
unfolding list_map
list_long m layout =
    let first : Option Image = image_at_def m layout.slot0 in
    let second : Option Image = image_at_def m layout.slot1 in
    let n : ℕ = image_count first + image_count second in
    omega (
      arith,
      sums (map_of 1) (text_of name_images) (array_of n) (image_map 0 (slot_in layout.slot0 m) first) (image_map 1 (slot_in layout.slot1 m) second),
      head_tiny 5 1 (lit< tt),
      text_length_lem name_images (lit< tt),
      head_tiny 4 n (omega (arith, one_image first, one_image second)),
      image_length_lem 0 (slot_in layout.slot0 m) first (lit< tt) (image_within_lem (slot_in layout.slot0 m)),
      image_length_lem 1 (slot_in layout.slot1 m) second (lit< tt) (image_within_lem (slot_in layout.slot1 m)),
    )
  where
    sums : (a b c d e : List ℕ) → length (a ++ (b ++ (c ++ (d ++ e)))) ≡ length a + length b + length c + length d + length e
    sums a b c d e = simp length-append (omega arith)

-- an image's major and minor number are bytes where its region's are
abbrev Numbered : Option Image → Type 0
Numbered None = Unit {0}
Numbered (Some i) = (i.version.major < 256) × (i.version.minor < 256)

image_numbered : (s : List ℕ) → Bytes s → Numbered (image_in_def s)
unfolding image_of image_with
image_numbered s bytes = by-area (area_in_def s)
  where
    by-hash : (x : Option ℕ) → Numbered (image_with s x)
    by-hash None = tt
    by-hash (Some hash) = (bytes 20, bytes 21)

    by-area : (a : Option Area) → Numbered (image_of s a)
    by-area None = tt
    by-area (Some a) = by-hash (hash_of (entries s a.start a.stop))

-- so its map has at most 68 bytes
image_most : (image : Option Image) → Numbered image → image_length image ≤ 68
unfolding image_length
image_most None h = omega arith
image_most (Some i) h =
    let v = i.version in
    omega (arith, version_length v, byte_digits 4 v.major h.0, byte_digits 4 v.minor h.1, count_most 4 v.revision)

-- and the reply with a list at most 153
pub list_fits : ListFits
list_fits m layout bytes =
    let slot : (r : Slot) → Bytes (slot_in r m) = λ r. bytes_take r.size (drop r.start m) (bytes_drop r.start m bytes) in
    omega (
      arith,
      list_long m layout,
      image_most (image_at_def m layout.slot0) (image_numbered (slot_in layout.slot0 m) (slot layout.slot0)),
      image_most (image_at_def m layout.slot1) (image_numbered (slot_in layout.slot1 m) (slot layout.slot1)),
    )

-- whatever stands in the memory, a list's map is short
pub list_length : (m : List ℕ) (layout : Layout) → length (list_map m layout) ≤ 153
unfolding image_length
list_length m layout = omega (arith, list_long m layout, short (image_at_def m layout.slot0), short (image_at_def m layout.slot1))
  where
    short : (image : Option Image) → image_length image ≤ 72
    short None = omega arith
    short (Some i) = omega (arith, version_most i.version)
