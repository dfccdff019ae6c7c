-- Where the first of some bytes stands in a list.
-- Assumes nothing.
use Rattle.std.specs.Prelude.{ℕ, suc, Bool, true, false, List, [], ◌∷◌, eqb}

-- the place, where the element in front is the one that is looked for, or not
unfoldable pub index_after : Bool → ℕ → ℕ
index_after true n = 0
index_after false n = suc n

-- where b stands first; how long the list is, where it doesn't
unfoldable pub index_of : ℕ → List ℕ → ℕ
index_of b [] = 0
index_of b (x ∷ s) = index_after (eqb x b) (index_of b s)
