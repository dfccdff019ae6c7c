-- Types as numbers: two types of one number are one.
-- Assumes nothing.
use Rattle.std.proofs.Common.{◌≡◌, ℕ, refl, sym, ap, ◌∙◌}
use lib.Dec.{eqb}
use Rattle.laws.specs.Choice.{pick}
use Rattle.fields.specs.declared.ValueType.{ValueType}
use Rattle.fields.specs.Keys.{type_number}

-- the type of a number
abbrev type_at : ℕ → ValueType
type_at n =
    pick (eqb n 0) ValueType.Unsigned
    (pick (eqb n 1) ValueType.Negative
    (pick (eqb n 2) ValueType.Bytes
    (pick (eqb n 3) ValueType.Text
    (pick (eqb n 20) ValueType.Flag ValueType.Null))))

-- a type's number leads back to it
type_back : (t : ValueType) → type_at (type_number t) ≡ t
unfolding type_number pick
type_back ValueType.Unsigned = refl
type_back ValueType.Negative = refl
type_back ValueType.Bytes = refl
type_back ValueType.Text = refl
type_back ValueType.Flag = refl
type_back ValueType.Null = refl

-- two types of one number are one
pub types_apart : (t u : ValueType) → type_number t ≡ type_number u → t ≡ u
types_apart t u e = sym (type_back t) ∙ ap type_at e ∙ type_back u
