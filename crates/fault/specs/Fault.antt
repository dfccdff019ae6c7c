-- Where a text that is not well-formed Base64 goes wrong: "the first character at which no well-formed text can begin with what stands up to there, or
-- the place of the 0A if the text is only too short". First the sentence itself, then the place as it is computed, and what is shown of the two.
-- Assumes nothing.
use Rattle.std.specs.Prelude.{ℕ, ◌+◌, ◌%◌, ◌≤◌, ◌<◌, ◌≡◌, Bool, List, [], ◌∷◌, ◌++◌, eqb, length, take}
use Rattle.std.proofs.Math.Option.{some}
use Rattle.laws.specs.Choice.{pick}
use Rattle.strict_base64.specs.Base64.{value, known, pad, full, decode}

-- some well-formed text, one that stands for bytes, begins with these characters
pub record Begins (p : List ℕ) : Type 0 where
  pub rest : List ℕ
  pub bytes : List ℕ
  pub well_formed : decode (p ++ rest) ≡ some bytes

-- the place i in a text, from 0: with what stands up to any place before it some well-formed text begins; with what stands up to it none does, or it is
-- the place behind the last character, and nothing is wrong with the text but that it is too short
pub record Place (t : List ℕ) (i : ℕ) : Type 0 where
  pub within : i ≤ length t
  pub before : (j : ℕ) → j < i → Begins (take (j + 1) t)
  pub there : i < length t → Begins (take (i + 1) t) → ⊥

-- the third character c of a group can stand after the second, b: it stands for a number, or it is `=` and b's four low bits are zero
unfoldable pub third_stands : ℕ → ℕ → Bool
third_stands b c = pick (eqb c pad) (eqb (value b % 16) 0) (known c)

-- the fourth character d can stand after the third, c: after `=` only `=`, else one that stands for a number, or `=` where c's two low bits are zero
unfoldable pub fourth_stands : ℕ → ℕ → Bool
fourth_stands c d = pick (eqb c pad) (eqb d pad) (pick (eqb d pad) (eqb (value c % 4) 0) (known d))

-- how many characters of a group can stand, each after those before it
unfoldable pub standing : ℕ → ℕ → ℕ → ℕ → ℕ
standing a b c d = pick (known a) (pick (known b) (pick (third_stands b c) (pick (fourth_stands c d) 4 3) 2) 1) 0

-- the place, computed four characters at a time: behind each group of four that stand for numbers, as many as can stand of the first other group. A
-- character that is missing is 0, which can stand nowhere.
unfoldable pub place_of_def : List ℕ → ℕ
place_of_def [] = 0
place_of_def (a ∷ []) = standing a 0 0 0
place_of_def (a ∷ b ∷ []) = standing a b 0 0
place_of_def (a ∷ b ∷ c ∷ []) = standing a b c 0
place_of_def (a ∷ b ∷ c ∷ d ∷ s) = pick (full a b c d) (place_of_def s + 4) (standing a b c d)

-- what is computed is the place
abbrev pub PlaceIs : Type 0
PlaceIs = (t : List ℕ) → Place t (place_of_def t)

-- and a text has one place
abbrev pub PlaceOnce : Type 0
PlaceOnce = (t : List ℕ) (i j : ℕ) → Place t i → Place t j → i ≡ j
