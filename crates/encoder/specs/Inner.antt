-- Only proofs need this file: what the encoder promises the crates that call it, the answer and every byte of the lent buffer, and what its inner functions
-- promise each other.
-- Assumes nothing.
use Rattle.std.specs.Prelude.{◌≡◌, ℕ, ◌+◌, ◌*◌, List, [], ◌∷◌, length, get_or, take}
use Rattle.laws.specs.Bytes.{pasted}
use Rattle.strict_base64.specs.Base64.{encode, char}
use Rattle.laws.specs.Table.{tab}

-- an encoder's promise of the bytes x, the count r and the lent buffer, d before and e after
pub record Encodes (x d : List ℕ) (r : ℕ) (e : List ℕ) : Type 0 where
  pub count : r ≡ length (encode x)
  pub text : e ≡ pasted d 0 (encode x)

-- a list is the table of the characters of the numbers below 64
abbrev pub Chars : List ℕ → Type 0
Chars s = s ≡ tab char 0 64

-- the text of the first n groups of three bytes
abbrev pub head_text : List ℕ → ℕ → List ℕ
head_text x n = encode (take (3 * n) x)

-- the text of the three bytes from i on
abbrev pub text_of_three : List ℕ → ℕ → List ℕ
text_of_three x i = encode (get_or x i 0 ∷ get_or x (i + 1) 0 ∷ get_or x (i + 2) 0 ∷ [])

-- the text of a last byte
abbrev pub text_of_one : ℕ → List ℕ
text_of_one a = encode (a ∷ [])

-- the text of the last two bytes
abbrev pub text_of_two : ℕ → ℕ → List ℕ
text_of_two a b = encode (a ∷ b ∷ [])
