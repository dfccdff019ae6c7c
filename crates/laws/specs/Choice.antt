-- A choice by a Bool, which stays shut until a law opens it: the definitions of the layers above are chains of such choices, in the
-- order of the rules' checks.
-- Assumes nothing.
use Rattle.std.specs.Prelude.{Bool, true, false}

-- the first where the test holds, else the second
unfoldable pub pick : {A : Type 0} → Bool → A → A → A
pick true a b = a
pick false a b = b

-- both tests hold
unfoldable pub both : Bool → Bool → Bool
both true b = b
both false b = false
