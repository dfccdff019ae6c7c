-- The laws of a choice: each way of the test, what holds of both arms holds of the choice, and a choice that is what its second arm
-- can't be went the first way.
-- Assumes nothing.
use mathlib.Core.Path.{◌≡◌, refl}
use mathlib.Core.Bool.{Bool, true, false, false≢true}
use Rattle.laws.specs.Choice.{pick, both}

pub pick_yes : {A : Type 0} (a b : A) → pick true a b ≡ a
unfolding pick
pick_yes a b = refl

pub pick_no : {A : Type 0} (a b : A) → pick false a b ≡ b
unfolding pick
pick_no a b = refl

pub pick_same : {A : Type 0} (t : Bool) (a : A) → pick t a a ≡ a
unfolding pick
pick_same true a = refl
pick_same false a = refl

-- what holds of both arms, each under its test, holds of the choice
pub pick_case : {A : Type 0} (P : A → Type 0) (t : Bool) (a b : A) → (t ≡ true → P a) → (t ≡ false → P b) → P (pick t a b)
unfolding pick
pick_case P true a b f g = f refl
pick_case P false a b f g = g refl

-- two choices by one test are equal where their arms are, each under its test
pub pick_arms : {A : Type 0} (t : Bool) {a b c d : A} → (t ≡ true → a ≡ c) → (t ≡ false → b ≡ d) → pick t a b ≡ pick t c d
unfolding pick
pick_arms true f g = f refl
pick_arms false f g = g refl

-- a choice whose second arm can't be z, and which is z, took the first
pub pick_keep : {A : Type 0} (t : Bool) (a b z : A) → (b ≡ z → ⊥) → pick t a b ≡ z → (t ≡ true) × (a ≡ z)
unfolding pick
pick_keep true a b z never e = (refl, e)
pick_keep false a b z never e = absurd (never e)

pub both_yes : (b : Bool) → both true b ≡ b
unfolding both
both_yes b = refl

pub both_no : (b : Bool) → both false b ≡ false
unfolding both
both_no b = refl

pub both_last_no : (a : Bool) → both a false ≡ false
unfolding both
both_last_no true = refl
both_last_no false = refl

-- both tests of a pair that holds
pub both_true : (a b : Bool) → both a b ≡ true → (a ≡ true) × (b ≡ true)
unfolding both
both_true true b e = (refl, e)
both_true false b e = absurd (false≢true e)
