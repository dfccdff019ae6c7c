-- Lines fed to the reader in a row, and noise among them: lines that change nothing.
-- Assumes nothing.
use Rattle.std.specs.Prelude.{ℕ, ◌≡◌, List, [], ◌∷◌, ◌⊎◌}
use Rattle.reader.specs.declared.Reader.{Reader}
use Rattle.reader.specs.declared.Reader.TheVariants.{Idle}
use Rattle.reader.specs.Reader.{Said, refused, keeping, take_line_def}

-- what a row of calls leaves: what was said to each line, the record and the packet buffer
pub record Run : Type 0 where
  pub says : List Said
  pub reader : Reader
  pub buffer : List ℕ

-- one more answer before those of the lines after it
unfoldable pub saying : Said → Run → Run
saying a run = record { says = a ∷ run.says; reader = run.reader; buffer = run.buffer }

-- lines taken one after the other, with record and buffer untouched between the calls
unfoldable pub feed : List (List ℕ) → Reader → List ℕ → Run
feed [] r p = record { says = []; reader = r; buffer = p }
feed (line ∷ lines) r p = saying (take_line_def r line p).says (feed lines (take_line_def r line p).reader (take_line_def r line p).buffer)

-- a line that draws refusal n, which is 2 or 3
abbrev pub Noise : List ℕ → ℕ → Type 0
Noise line n = ((n ≡ 2) ⊎ (n ≡ 3)) × ((take_line_def Idle line []).says ≡ refused n)

-- noise is refused by the same number whatever the record and the buffer, and leaves both
abbrev pub NoiseStays : Type 0
NoiseStays = (line : List ℕ) (n : ℕ) (r : Reader) (p : List ℕ) → Noise line n → take_line_def r line p ≡ keeping n r p

-- some lines, each with its answer, in order, and noise anywhere before, between and after them, each with its own refusal: the first two lists are
-- the lines and their answers without the noise, the last two with it
pub data Amid : List (List ℕ) → List Said → List (List ℕ) → List Said → Type 0 where
  over : Amid [] [] [] []
  next : {f : List ℕ} {a : Said} {fs ls : List (List ℕ)} {xs ys : List Said} → Amid fs xs ls ys → Amid (f ∷ fs) (a ∷ xs) (f ∷ ls) (a ∷ ys)
  noise : {l : List ℕ} {n : ℕ} {fs ls : List (List ℕ)} {xs ys : List Said} → Noise l n → Amid fs xs ls ys → Amid fs xs (l ∷ ls) (refused n ∷ ys)
