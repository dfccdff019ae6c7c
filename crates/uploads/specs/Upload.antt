-- The writer of upload requests: "emits upload keys in the order data, len, off, sha; len and sha only at offset 0". A tag of no bytes is an
-- absent one.
-- Assumes nothing.
use Rattle.std.specs.Prelude.{ℕ, Bool, not, List, ◌++◌, ltb, eqb, length}
use Rattle.laws.specs.Choice.{pick, both}
use Rattle.cbor.specs.Write.{unsigned, bytes_of, text_of, map_of}
use Rattle.fields.specs.Keys.{name_data, name_len, name_off, name_sha}
use Rattle.host.specs.Write.{request_packet, Outcome, unsendable, put}

-- {"data": x, "off": off}
unfoldable pub later_map : List ℕ → ℕ → List ℕ
later_map x off = map_of 2 ++ (text_of name_data ++ (bytes_of x ++ (text_of name_off ++ unsigned off)))

-- {"data": x, "len": length, "off": 0}, and "sha": tag where there is one
unfoldable pub first_map : List ℕ → ℕ → List ℕ → List ℕ
first_map x size tag =
    pick (eqb (length tag) 0)
    (map_of 3 ++ (text_of name_data ++ (bytes_of x ++ (text_of name_len ++ (unsigned size ++ (text_of name_off ++ unsigned 0))))))
    (map_of 4
    ++ (text_of name_data
    ++ (bytes_of x ++ (text_of name_len ++ (unsigned size ++ (text_of name_off ++ (unsigned 0 ++ (text_of name_sha ++ bytes_of tag))))))))

-- a tag of this many bytes is neither absent nor of 32
unfoldable pub odd_length : ℕ → Bool
odd_length n = both (not (eqb n 0)) (not (eqb n 32))

-- a tag is
abbrev pub mis_sized_def : List ℕ → Bool
mis_sized_def tag = odd_length (length tag)

-- at offset 0: "a length of 0 or above 4,294,967,295, data longer than the length, or a tag neither absent nor of 32 bytes"
unfoldable pub write_first_def : ℕ → List ℕ → ℕ → List ℕ → List ℕ → Outcome
write_first_def sequence x size tag out =
    pick (eqb size 0) (unsendable out)
    (pick (ltb 4294967295 size) (unsendable out)
    (pick (ltb size (length x)) (unsendable out)
    (pick (mis_sized_def tag) (unsendable out)
    (put (request_packet 1 sequence 1 (first_map x size tag)) out))))

-- "an offset above 4,294,967,295, empty data", then by the offset
unfoldable pub write_upload_def : ℕ → List ℕ → ℕ → ℕ → List ℕ → List ℕ → Outcome
write_upload_def sequence x off size tag out =
    pick (ltb 4294967295 off) (unsendable out)
    (pick (eqb (length x) 0) (unsendable out)
    (pick (eqb off 0) (write_first_def sequence x size tag out)
    (put (request_packet 1 sequence 1 (later_map x off)) out)))
