-- The text of a replay: "a line per 3E record: its number (from 0, among 3E records), the refusal or 0, the reply's rc or `-`; then `end` and n, or
-- `end none`."
-- Assumes nothing.
use Rattle.std.specs.Prelude.{ℕ, zero, suc, ◌+◌, ◌*◌, ◌/◌, List, [], ◌∷◌, ◌++◌, ltb, eqb, length, get_or, Result, Ok, Err}
use Rattle.laws.specs.Choice.{pick}
use Rattle.laws.specs.Bytes.{pasted}
use Rattle.refusal.specs.declared.Refusal.{Refusal}
use Rattle.refusal.specs.Number.{number_of}
use Rattle.decimal.specs.Decimal.{decimal}
use Rattle.session.specs.declared.Session.{Session}

-- a number of 64 bits in decimal, which has at most 20 digits
abbrev pub wide : ℕ → List ℕ
wide n = decimal 19 n

-- the reply's rc or `-`, and 0A
unfoldable pub rc_text : ℕ → ℕ → List ℕ
rc_text replied rc = pick (eqb replied 0) (0x2D ∷ 0x0A ∷ []) (wide rc ++ (0x0A ∷ []))

-- a line: the number of the record, the refusal or 0, and the reply's rc or `-`
abbrev pub line_text : ℕ → ℕ → ℕ → ℕ → List ℕ
line_text k refusal replied rc = (wide k ++ (0x20 ∷ [])) ++ ((wide refusal ++ (0x20 ∷ [])) ++ rc_text replied rc)

-- the line of answer k, whose four numbers stand one after the other: the refusal or 0, whether there is a reply, its rc, and the place in a line of bad
-- text, which is not printed
abbrev pub line_of : List ℕ → ℕ → List ℕ
line_of answers k = line_text k (get_or answers (4 * k) 0) (get_or answers (4 * k + 1) 0) (get_or answers (4 * k + 2) 0)

-- the lines of n answers from answer k on
unfoldable pub lines_from : List ℕ → ℕ → ℕ → List ℕ
lines_from answers zero k = []
lines_from answers (suc n) k = line_of answers k ++ lines_from answers n (k + 1)

-- "end none", and "end" with a blank after it
abbrev pub end_none_def : List ℕ
end_none_def = 0x65 ∷ 0x6E ∷ 0x64 ∷ 0x20 ∷ 0x6E ∷ 0x6F ∷ 0x6E ∷ 0x65 ∷ 0x0A ∷ []

abbrev pub end_at : List ℕ
end_at = 0x65 ∷ 0x6E ∷ 0x64 ∷ 0x20 ∷ []

-- "then `end` and n, or `end none`"
unfoldable pub end_text : Session → List ℕ
end_text s = pick s.running (end_at ++ (wide s.place ++ (0x0A ∷ []))) end_none_def

-- the whole text of so many answers, with the session at the end
unfoldable pub transcript : List ℕ → ℕ → Session → List ℕ
transcript answers count s = lines_from answers count 0 ++ end_text s

-- what is said, in the paper's terms: the text's length, or the refusal of this number
pub data Said : Type 0 where
  text : ℕ → Said
  refused : ℕ → Said

-- each answer's meaning
abbrev pub said : Result ℕ Refusal → Said
said (Ok n) = text n
said (Err r) = refused (number_of r)

-- all that the call leaves: what it said, and the output
pub record Outcome : Type 0 where
  pub says : Said
  pub out : List ℕ

-- the text stands at the output's start, or refusal 12: the answers are fewer, or the output is shorter than the text
unfoldable pub written : List ℕ → ℕ → Session → List ℕ → Outcome
written answers count s out =
    pick (ltb (length answers / 4) count) (record { says = refused 12; out = out })
    (pick (ltb (length out) (length (transcript answers count s))) (record { says = refused 12; out = out })
    (record { says = text (length (transcript answers count s)); out = pasted out 0 (transcript answers count s) }))
