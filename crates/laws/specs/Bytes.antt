-- Lists of bytes: what a byte is, numbers of two bytes, and a list written into another at a place.
-- Assumes nothing.
use Rattle.std.specs.Prelude.{ℕ, ◌+◌, ◌*◌, ◌/◌, ◌%◌, ◌<◌, Bool, true, false, List, [], ◌∷◌, ◌++◌, eqb, length, get_or, take, drop}
use Rattle.laws.specs.Choice.{both}

-- every element is below 256
abbrev pub Bytes : List ℕ → Type 0
Bytes s = (i : ℕ) → get_or s i 0 < 256

-- m with x in the place of what stood from `at` on; nothing else of m moves
unfoldable pub pasted : List ℕ → ℕ → List ℕ → List ℕ
pasted m at x = take at m ++ (x ++ drop (at + length x) m)

-- two lists are the same, element by element
unfoldable pub same : List ℕ → List ℕ → Bool
same [] [] = true
same [] (b ∷ t) = false
same (a ∷ s) [] = false
same (a ∷ s) (b ∷ t) = both (eqb a b) (same s t)

-- n in two bytes, the high one first
unfoldable pub be16 : ℕ → List ℕ
be16 n = n / 256 % 256 ∷ n % 256 ∷ []

-- the number that the first two bytes of a list are, the high one first
unfoldable pub of_be16 : List ℕ → ℕ
of_be16 s = get_or s 0 0 * 256 + get_or s 1 0
