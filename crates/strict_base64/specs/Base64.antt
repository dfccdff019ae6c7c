-- RFC 4648 Base64 with the standard alphabet, read strictly: a positive multiple of four characters, `=` only at the end, unused bits
-- zero. A character is its ASCII number.
-- Assumes nothing.
use Rattle.std.specs.Prelude.{ℕ, ◌+◌, ◌*◌, ◌-◌, ◌/◌, ◌%◌, ◌<◌, ◌≡◌, Bool, List, [], ◌∷◌, ◌++◌, ltb, leb, eqb, length}
use Rattle.std.proofs.Math.Option.{Option, none, some}
use Rattle.laws.specs.Choice.{pick, both}
use Rattle.laws.specs.Bytes.{Bytes}

-- the character that stands for a number below 64: A to Z, a to z, 0 to 9, + and /
unfoldable pub char : ℕ → ℕ
char v = pick (ltb v 26) (v + 65) (pick (ltb v 52) (v + 71) (pick (ltb v 62) (v - 4) (pick (eqb v 62) 43 47)))

-- c is one of the characters from f to t
abbrev pub among : ℕ → ℕ → ℕ → Bool
among f t c = both (leb f c) (leb c t)

-- the number that a character stands for, or 64 where it stands for none
unfoldable pub value : ℕ → ℕ
value c =
    pick (among 65 90 c) (c - 65)
    (pick (among 97 122 c) (c - 71)
    (pick (among 48 57 c) (c + 4)
    (pick (eqb c 43) 62
    (pick (eqb c 47) 63 64))))

-- the character that fills the last group
abbrev pub pad : ℕ
pad = 61

-- the text of a list of bytes: four characters for each three, and the last one or two filled up with `=`
unfoldable pub encode : List ℕ → List ℕ
encode [] = []
encode (a ∷ []) = char (a / 4) ∷ char (a % 4 * 16) ∷ pad ∷ pad ∷ []
encode (a ∷ b ∷ []) = char (a / 4) ∷ char (a % 4 * 16 + b / 16) ∷ char (b % 16 * 4) ∷ pad ∷ []
encode (a ∷ b ∷ c ∷ s) = char (a / 4) ∷ char (a % 4 * 16 + b / 16) ∷ char (b % 16 * 4 + c / 64) ∷ char (c % 64) ∷ encode s

-- c stands for a number
abbrev pub known : ℕ → Bool
known c = ltb (value c) 64

-- the first byte of a group, by its characters' numbers
abbrev pub first : ℕ → ℕ → ℕ
first p q = p * 4 + q / 16

-- the second byte
abbrev pub second : ℕ → ℕ → ℕ
second q r = q % 16 * 16 + r / 4

-- the third byte
abbrev pub third : ℕ → ℕ → ℕ
third r s = r % 4 * 64 + s

-- a group in the middle of a text: four characters that stand for numbers
unfoldable pub full : ℕ → ℕ → ℕ → ℕ → Bool
full a b c d = both (known a) (both (known b) (both (known c) (known d)))

-- the three bytes of such a group
unfoldable pub three : ℕ → ℕ → ℕ → ℕ → List ℕ
three a b c d = first (value a) (value b) ∷ second (value b) (value c) ∷ third (value c) (value d) ∷ []

-- the last group: two characters and `==`, the four low bits of the second zero; three and `=`, the two low bits of the third zero;
-- or four
unfoldable pub final : ℕ → ℕ → ℕ → ℕ → Option (List ℕ)
final a b c d =
    pick (eqb d pad)
    (pick (eqb c pad)
    (pick (both (known a) (both (known b) (eqb (value b % 16) 0)))
    (some (first (value a) (value b) ∷ []))
    none)
    (pick (both (known a) (both (known b) (both (known c) (eqb (value c % 4) 0))))
    (some (first (value a) (value b) ∷ second (value b) (value c) ∷ []))
    none))
    (pick (full a b c d) (some (three a b c d)) none)

-- a group's bytes before those of the groups after it
unfoldable pub ahead : List ℕ → Option (List ℕ) → Option (List ℕ)
ahead x none = none
ahead x (some s) = some (x ++ s)

-- the bytes that a text stands for, or nothing where it is not well formed: "a positive multiple of four characters, `=` only at the end,
-- unused bits zero"
unfoldable pub decode : List ℕ → Option (List ℕ)
decode [] = none
decode (a ∷ []) = none
decode (a ∷ b ∷ []) = none
decode (a ∷ b ∷ c ∷ []) = none
decode (a ∷ b ∷ c ∷ d ∷ []) = final a b c d
decode (a ∷ b ∷ c ∷ d ∷ e ∷ s) = pick (full a b c d) (ahead (three a b c d) (decode (e ∷ s))) none

-- what is shown of the two: what encoding gives for one byte or more is decoded to the same bytes
abbrev pub DecodeEncode : Type 0
DecodeEncode = (x : List ℕ) → Bytes x → 0 < length x → decode (encode x) ≡ some x

-- and every text that decodes is the encoding of what it decodes to, so that nothing else is taken
abbrev pub EncodeDecode : Type 0
EncodeDecode = (t x : List ℕ) → decode t ≡ some x → encode x ≡ t
