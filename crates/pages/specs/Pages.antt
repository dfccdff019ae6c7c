-- The counts beside the slot: "a lent table of 16-bit counts, one per page of the slot, the last page perhaps shorter. With an open session at n, entry k
-- is the number of that page's bytes below n; closed, all are 0. Extra entries stay."
-- Assumes nothing.
use Rattle.std.specs.Prelude.{ℕ, ◌+◌, ◌*◌, ◌-◌, ◌/◌, ◌≤◌, ◌<◌, min, ◌≡◌, Bool, true, List, ◌++◌, length, take, drop, get_or}
use Rattle.laws.specs.Bytes.{same}
use Rattle.laws.specs.Table.{tab}

-- how many bytes a page has, but for a last one that is shorter
abbrev pub page_size : ℕ
page_size = 4096

-- how many pages a slot of so many bytes has
unfoldable pub pages_of_def : ℕ → ℕ
pages_of_def size = (size + 4095) / page_size

-- so it is: a page for each place of the slot where one begins, and no more
abbrev pub PagesAre : Type 0
PagesAre = (size k : ℕ) → (k < pages_of_def size → page_size * k < size) × (page_size * k < size → k < pages_of_def size)

-- "the number of that page's bytes below n", of the page number k of a slot of so many bytes
unfoldable pub count_at_def : ℕ → ℕ → ℕ → ℕ
count_at_def size n k = min (min page_size (size - page_size * k)) (n - page_size * k)

-- so it is: of the slot's first n bytes, those that stand in that page
abbrev pub CountIs : Type 0
CountIs = (x : List ℕ) (n k : ℕ) → count_at_def (length x) n k ≡ length (take page_size (drop (page_size * k) (take n x)))

-- the table at n, with the entries behind those of the slot as they were
unfoldable pub counted : ℕ → ℕ → List ℕ → List ℕ
counted size n t = tab (count_at_def size n) 0 (pages_of_def size) ++ drop (pages_of_def size) t

-- a table agrees with n: it is long enough, and each page's entry is its count
unfoldable pub agrees : ℕ → ℕ → List ℕ → Bool
agrees size n t = same t (counted size n t)

-- so it is
abbrev pub Agreeing : ℕ → ℕ → List ℕ → Type 0
Agreeing size n t = (pages_of_def size ≤ length t) × ((k : ℕ) → k < pages_of_def size → get_or t k 0 ≡ count_at_def size n k)

abbrev pub AgreesIs : Type 0
AgreesIs = (size n : ℕ) (t : List ℕ) → (agrees size n t ≡ true → Agreeing size n t) × (Agreeing size n t → agrees size n t ≡ true)

-- "one table that is long enough, all 0 at first"
abbrev pub Cleared : ℕ → List ℕ → Type 0
Cleared size t = (pages_of_def size ≤ length t) × ((k : ℕ) → k < pages_of_def size → get_or t k 0 ≡ 0)

-- "the number of full 4,096-byte stretches below n": a last page that is shorter is none
abbrev pub stretches : ℕ → ℕ
stretches n = n / page_size
