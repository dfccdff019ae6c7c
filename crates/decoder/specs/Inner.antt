-- Only proofs need this file: what the decoder promises the crates that call it, the answer and every byte of the lent buffer, and what its inner functions
-- promise each other.
-- Assumes nothing.
use Rattle.std.specs.Prelude.{◌≡◌, ℕ, ◌%◌, ◌+◌, ◌*◌, List, [], ◌∷◌, ◌++◌, length, get_or, drop, eqb, Bool}
use Rattle.std.specs.Prelude as answer
use Rattle.std.proofs.Math.Option.{Option, none, some}
use Rattle.laws.specs.Choice.{pick}
use Rattle.laws.specs.Bytes.{pasted}
use Rattle.strict_base64.specs.Base64.{full, three, final, decode, value, ahead}
use Rattle.laws.specs.Table.{tab}

-- the answer to a text: how many bytes it stands for, or that it is not well formed
unfoldable pub length_in : Option (List ℕ) → answer.Option ℕ
length_in none = answer.None
length_in (some x) = answer.Some (length x)

-- the bytes of what may be nothing: none where it is nothing
unfoldable pub bytes_in : Option (List ℕ) → List ℕ
bytes_in none = []
bytes_in (some x) = x

-- the bytes of the groups before the first group at fault, of a text in groups of four
unfoldable pub kept : List ℕ → List ℕ
kept [] = []
kept (a ∷ []) = []
kept (a ∷ b ∷ []) = []
kept (a ∷ b ∷ c ∷ []) = []
kept (a ∷ b ∷ c ∷ d ∷ []) = bytes_in (final a b c d)
kept (a ∷ b ∷ c ∷ d ∷ e ∷ s) = pick (full a b c d) (three a b c d ++ kept (e ∷ s)) []

-- what a decoder that goes once over a text has stored when it stops: nothing of a text whose length is no multiple of four, else the
-- bytes of the groups before the first at fault
unfoldable pub stored : List ℕ → List ℕ
stored t = pick (eqb (length t % 4) 0) (kept t) []

-- a decoder's promise of the text t, the answer r and the lent buffer, d before and e after
pub record Decodes (t d : List ℕ) (r : answer.Option ℕ) (e : List ℕ) : Type 0 where
  pub verdict : r ≡ length_in (decode t)
  pub bytes : e ≡ pasted d 0 (stored t)

-- a list is the table of the numbers that bytes stand for
abbrev pub Values : List ℕ → Type 0
Values s = s ≡ tab value 0 256

-- the four characters from i on stand for numbers
abbrev pub full_at : List ℕ → ℕ → Bool
full_at t i = full (get_or t i 0) (get_or t (i + 1) 0) (get_or t (i + 2) 0) (get_or t (i + 3) 0)

-- their bytes
abbrev pub three_at : List ℕ → ℕ → List ℕ
three_at t i = three (get_or t i 0) (get_or t (i + 1) 0) (get_or t (i + 2) 0) (get_or t (i + 3) 0)

-- the four characters from i on, read as the last group
abbrev pub final_at : List ℕ → ℕ → Option (List ℕ)
final_at t i = final (get_or t i 0) (get_or t (i + 1) 0) (get_or t (i + 2) 0) (get_or t (i + 3) 0)

-- the promise of the four characters at the start of t: whether they are full, and their bytes where they are
pub record Group (t d : List ℕ) (r : Bool) (e : List ℕ) : Type 0 where
  pub verdict : r ≡ full_at t 0
  pub bytes : e ≡ pasted d 0 (pick (full_at t 0) (three_at t 0) [])

-- x are the bytes of the first g groups of a text, all full: what the text keeps and decodes to is x before that of the text after them
pub record Passed (t : List ℕ) (g : ℕ) (x : List ℕ) : Type 0 where
  pub size : length x ≡ 3 * g
  pub keeps : kept t ≡ x ++ kept (drop (4 * g) t)
  pub verdict : decode t ≡ ahead x (decode (drop (4 * g) t))

-- the promise of a last group x: how many bytes there are, unless it is at fault, and the bytes
pub record Last (x : Option (List ℕ)) (d : List ℕ) (r : answer.Option ℕ) (e : List ℕ) : Type 0 where
  pub count : r ≡ length_in x
  pub bytes : e ≡ pasted d 0 (bytes_in x)
