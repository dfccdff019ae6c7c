-- Only proofs need this file: the parts in which the list is written, and how long an image's map is.
-- Assumes nothing.
use Rattle.std.specs.Prelude.{ℕ, ◌+◌, List, ◌++◌, length, Option, Some, None}
use Rattle.laws.specs.Parts.{part_of}
use Rattle.cbor.specs.Write.{bytes_of, text_of, map_of}
use Rattle.images.specs.declared.Version.{Version}
use Rattle.images.specs.declared.Image.{Image}
use Rattle.listing.specs.Listing.{name_images, name_version, name_hash, version_text, array_of, image_map, image_count}

-- a version's key and text
abbrev pub version_part : Version → List ℕ
version_part v = text_of name_version ++ text_of (version_text v)

-- the key and the bytes of the hash that stands at a place of s
abbrev pub hash_part : List ℕ → ℕ → List ℕ
hash_part s hash = text_of name_hash ++ bytes_of (part_of s hash 32)

-- how long an image's map is
unfoldable pub image_length : Option Image → ℕ
image_length None = 0
image_length (Some i) = 55 + length (version_text i.version)

-- the list's map, of two slots' bytes and their images
abbrev pub map_listed : List ℕ → Option Image → List ℕ → Option Image → List ℕ
map_listed s first t second =
    map_of 1
    ++ (text_of name_images
    ++ (array_of (image_count first + image_count second)
    ++ (image_map 0 s first ++ image_map 1 t second)))
