-- No two refusals have one number.
-- Assumes nothing.
use mathlib.Core.Path.{◌≡◌, refl, sym, ap, ◌∙◌}
use mathlib.Core.List.{[], ◌∷◌}
use Prim.Native.Nat.{ℕ}
use lib.ListN.{get_or}
use Rattle.refusal.specs.declared.Refusal.{Refusal}
use Rattle.refusal.specs.declared.Refusal.TheVariants.{
  Impossible,
  LineTooLong,
  NoFrame,
  BadText,
  NoPacketOpen,
  BadTotal,
  BodyTooLong,
  TooManyBytes,
  CrcDiffers,
  WrongKind,
  ReplyTooShort,
  Unsendable,
  NoSuchFrame,
}
use Rattle.refusal.specs.Number.{number_of, NumberOnce}

-- the refusal of a number: the table's rows in order, from number 1 on
abbrev pub refusal_of : ℕ → Refusal
refusal_of n =
    get_or
    (Impossible
    ∷ Impossible
    ∷ LineTooLong
    ∷ NoFrame
    ∷ BadText
    ∷ NoPacketOpen
    ∷ BadTotal
    ∷ BodyTooLong
    ∷ TooManyBytes
    ∷ CrcDiffers
    ∷ WrongKind
    ∷ ReplyTooShort
    ∷ Unsendable
    ∷ NoSuchFrame
    ∷ [])
    n
    Impossible

-- the number of a refusal leads back to it
pub number_back : (r : Refusal) → refusal_of (number_of r) ≡ r
number_back Impossible = refl
number_back LineTooLong = refl
number_back NoFrame = refl
number_back BadText = refl
number_back NoPacketOpen = refl
number_back BadTotal = refl
number_back BodyTooLong = refl
number_back TooManyBytes = refl
number_back CrcDiffers = refl
number_back WrongKind = refl
number_back ReplyTooShort = refl
number_back Unsendable = refl
number_back NoSuchFrame = refl

-- refusals with one number are one refusal
pub number_once : NumberOnce
number_once a b e = sym (number_back a) ∙ ap refusal_of e ∙ number_back b
