-- The laws of a table: each entry is what the function gives.
-- Assumes nothing.
use mathlib.Core.Path.{◌≡◌, refl, sym, ap, ◌∙◌}
use Prim.Native.Nat.{ℕ, zero, suc, ◌+◌, ◌<◌}
use native.Mathlib.Nat.{zero-add, add-zero, add-suc, suc-add}
use native.Mathlib.Omega.{arith}
use mathlib.Core.List.{List}
use lib.ListN.{length, get_or}
use Rattle.laws.specs.Table.{tab}

-- an entry of a table
pub tab_at : (f : ℕ → ℕ) (i n k : ℕ) → k < n → get_or (tab f i n) k 0 ≡ f (i + k)
unfolding tab
tab_at f i zero k h = absurd (omega arith)
tab_at f i (suc n) zero h = ap f (sym (add-zero i))
tab_at f i (suc n) (suc k) h = tab_at f (suc i) n k (omega arith) ∙ ap f (suc-add i k ∙ sym (add-suc i k))

-- an entry of a list that is a table from 0 on
pub tab_entry : (f : ℕ → ℕ) (n k : ℕ) (s : List ℕ) → s ≡ tab f 0 n → k < n → get_or s k 0 ≡ f k
tab_entry f n k s e h = ap (λ (l : List ℕ). get_or l k 0) e ∙ tab_at f 0 n k h ∙ ap f (zero-add k)

-- a table has as many entries as were asked for
pub tab_length : (f : ℕ → ℕ) (i n : ℕ) → length (tab f i n) ≡ n
unfolding tab
tab_length f i zero = refl
tab_length f i (suc n) = ap suc (tab_length f (suc i) n)
