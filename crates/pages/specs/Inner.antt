-- Only proofs need this file: what a run of entries is found to hold.
-- Assumes nothing.
use Rattle.std.specs.Prelude.{ℕ, ◌≤◌, ◌<◌, ◌≡◌, List, get_or}

-- every entry from one place up to another is v
abbrev pub AllAre : List ℕ → ℕ → ℕ → ℕ → Type 0
AllAre t from to v = (k : ℕ) → from ≤ k → k < to → get_or t k 0 ≡ v

-- one of them is not
abbrev pub OneIsNot : List ℕ → ℕ → ℕ → ℕ → Type 0
OneIsNot t from to v = (k : ℕ) × (from ≤ k) × (k < to) × (get_or t k 0 ≡ v → ⊥)
