-- Writing CBOR: "Writers use shortest heads."
-- Assumes nothing.
use Rattle.std.specs.Prelude.{ℕ, zero, suc, ◌+◌, ◌*◌, ◌/◌, ◌%◌, ◌^◌, ◌≡◌, List, [], ◌∷◌, ◌++◌, ltb, length}
use Rattle.laws.specs.Choice.{pick}

-- a number in n bytes, the high one first
unfoldable pub be_bytes : ℕ → ℕ → List ℕ
be_bytes zero v = []
be_bytes (suc n) v = v / 256 ^ n % 256 ∷ be_bytes n v

-- the shortest head of this major type and argument
unfoldable pub head_of : ℕ → ℕ → List ℕ
head_of major n =
    pick (ltb n 24) ((major * 32 + n) ∷ [])
    (pick (ltb n 256) ((major * 32 + 24) ∷ be_bytes 1 n)
    (pick (ltb n 65536) ((major * 32 + 25) ∷ be_bytes 2 n)
    (pick (ltb n 4294967296) ((major * 32 + 26) ∷ be_bytes 4 n)
    ((major * 32 + 27) ∷ be_bytes 8 n))))

-- how many bytes the shortest head of an argument has
unfoldable pub head_len_def : ℕ → ℕ
head_len_def n = pick (ltb n 24) 1 (pick (ltb n 256) 2 (pick (ltb n 65536) 3 (pick (ltb n 4294967296) 5 9)))

-- so long is it, whatever its major type
abbrev pub HeadLong : Type 0
HeadLong = (major n : ℕ) → length (head_of major n) ≡ head_len_def n

-- an unsigned number, a byte string, a text string, and a map's head
abbrev pub unsigned : ℕ → List ℕ
unsigned n = head_of 0 n

abbrev pub bytes_of : List ℕ → List ℕ
bytes_of x = head_of 2 (length x) ++ x

abbrev pub text_of : List ℕ → List ℕ
text_of x = head_of 3 (length x) ++ x

abbrev pub map_of : ℕ → List ℕ
map_of pairs = head_of 5 pairs
