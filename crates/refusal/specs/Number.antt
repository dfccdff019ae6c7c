-- The number of each refusal, row by row of the table "What the numbers mean".
-- Assumes nothing.
use Rattle.std.specs.Prelude.{ℕ, ◌≡◌}
use Rattle.refusal.specs.declared.Refusal.{Refusal}
use Rattle.refusal.specs.declared.Refusal.TheVariants.{
  Impossible,
  LineTooLong,
  NoFrame,
  BadText,
  NoPacketOpen,
  BadTotal,
  BodyTooLong,
  TooManyBytes,
  CrcDiffers,
  WrongKind,
  ReplyTooShort,
  Unsendable,
  NoSuchFrame,
}

-- the table's first column
abbrev pub number_of : Refusal → ℕ
number_of Impossible = 1
number_of LineTooLong = 2
number_of NoFrame = 3
number_of BadText = 4
number_of NoPacketOpen = 5
number_of BadTotal = 6
number_of BodyTooLong = 7
number_of TooManyBytes = 8
number_of CrcDiffers = 9
number_of WrongKind = 10
number_of ReplyTooShort = 11
number_of Unsendable = 12
number_of NoSuchFrame = 13

-- refusals with one number are one refusal
abbrev pub NumberOnce : Type 0
NumberOnce = (a b : Refusal) → number_of a ≡ number_of b → a ≡ b
