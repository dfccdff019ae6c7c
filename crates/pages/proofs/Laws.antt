-- The table by its entries: what stands at each place of it, and when it agrees.
-- Assumes nothing.
use mathlib.Core.Path.{◌≡◌, refl, sym, ap, ◌∙◌}
use mathlib.Core.Bool.{Bool, true, false}
use mathlib.Core.List.{List, ◌++◌}
use Prim.Native.Nat.{ℕ, ◌+◌, ◌*◌, ◌-◌, ◌/◌, ◌%◌, ◌≤◌, ◌<◌, min, max}
use native.Mathlib.Decide.{dec_le}
use native.Mathlib.Nat.{zero-add}
use native.Mathlib.Omega.{arith}
use lib.ListN.{length, take, drop, get_or, length-append, length-drop, length-take, get_or-append}
use lib.Seq.{get_or-append-add, get_or-take, get_or-drop, drop_at, ext_get_or}
use Rattle.laws.specs.Bytes.{same}
use Rattle.laws.specs.Table.{tab}
use Rattle.laws.proofs.Lists.{same_true, same_refl, same_false}
use Rattle.laws.proofs.Table.{tab_at, tab_length}
use Rattle.pages.specs.Pages.{page_size, pages_of_def, PagesAre, count_at_def, CountIs, counted, agrees, Agreeing, AgreesIs, Cleared}
use Rattle.pages.specs.Inner.{AllAre, OneIsNot}

-- a page for each place of the slot where one begins, and no more
pub pages_are : PagesAre
unfolding pages_of_def
pages_are size k = (λ h. omega arith, λ h. omega arith)

-- the count is that of the page's bytes below n
pub count_is : CountIs
unfolding count_at_def
count_is x n k = simp (length-take, length-drop) (either page_size (length x) n (page_size * k))
  where
    either : (p l n a : ℕ) → min (min p (l - a)) (n - a) ≡ min p (min n l - a)
    either p l n a = elim (dec_le n l) [
      | yes g ↦ let e : min n l ≡ n = omega arith in rw e (omega arith)
      | no g ↦ let e : min n l ≡ l = omega arith in rw e (omega arith)
    ]

-- where n lies in the slot, the page's end needs no look
pub count_within : (size n k : ℕ) → n ≤ size → count_at_def size n k ≡ min page_size (n - page_size * k)
unfolding count_at_def
count_within size n k h = omega arith

module _ (size n : ℕ) (t : List ℕ) where
  -- the table's own entries
  pub entry_is : (k : ℕ) → k < pages_of_def size → get_or (counted size n t) k 0 ≡ count_at_def size n k
  unfolding counted
  entry_is k h =
      get_or-append (tab (count_at_def size n) 0 (pages_of_def size)) (drop (pages_of_def size) t) 0 k
      (omega (arith, h, tab_length (count_at_def size n) 0 (pages_of_def size)))
      ∙ tab_at (count_at_def size n) 0 (pages_of_def size) k h
      ∙ ap (count_at_def size n) (zero-add k)

  -- those behind them
  pub extra_is : (k : ℕ) → pages_of_def size ≤ k → get_or (counted size n t) k 0 ≡ get_or t k 0
  unfolding counted
  extra_is k h =
      let own = tab (count_at_def size n) 0 (pages_of_def size) in
      let e : k ≡ length own + (k - pages_of_def size) = omega (arith, h, tab_length (count_at_def size n) 0 (pages_of_def size)) in
      let back : pages_of_def size + (k - pages_of_def size) ≡ k = omega (arith, h) in
      ap (λ (i : ℕ). get_or (own ++ drop (pages_of_def size) t) i 0) e
      ∙ get_or-append-add own (drop (pages_of_def size) t) (k - pages_of_def size) 0
      ∙ get_or-drop (pages_of_def size) t (k - pages_of_def size) 0
      ∙ ap (λ (i : ℕ). get_or t i 0) back

  -- how many there are
  counted_size : length (counted size n t) ≡ pages_of_def size + (length t - pages_of_def size)
  unfolding counted
  counted_size = rw (length-append, length-drop, tab_length)

  -- of a table that is long enough, as many as there were
  pub counted_length : pages_of_def size ≤ length t → length (counted size n t) ≡ length t
  counted_length h = counted_size ∙ omega (arith, h)

  -- a table that agrees is what it is counted as
  pub agreeing_same : Agreeing size n t → t ≡ counted size n t
  agreeing_same a = ext_get_or 0 t (counted size n t) (sym (counted_length a.0)) (λ k h. elim (dec_le (pages_of_def size) k) [
    | yes g ↦ sym (extra_is k g)
    | no g ↦ a.1 k (omega arith) ∙ sym (entry_is k (omega arith))
  ])

  same_agreeing : t ≡ counted size n t → Agreeing size n t
  same_agreeing e = (omega (arith, counted_size, ap length e), λ k h. ap (λ (l : List ℕ). get_or l k 0) e ∙ entry_is k h)

  -- a table agrees
  pub agrees_yes : Agreeing size n t → agrees size n t ≡ true
  unfolding agrees
  agrees_yes a = ap (same t) (sym (agreeing_same a)) ∙ same_refl t

  -- it does not
  pub agrees_no : (Agreeing size n t → ⊥) → agrees size n t ≡ false
  unfolding agrees
  agrees_no h = same_false t (counted size n t) (λ e. h (same_agreeing e))

  pub agrees_same : agrees size n t ≡ true → t ≡ counted size n t
  unfolding agrees
  agrees_same e = same_true t (counted size n t) e

  pub agrees_so : agrees size n t ≡ true → Agreeing size n t
  agrees_so e = same_agreeing (agrees_same e)

-- a table agrees just where it is long enough and each page's entry is its count
pub agrees_is : AgreesIs
agrees_is size n t = (agrees_so size n t, agrees_yes size n t)

-- a table that is long enough and all 0 agrees with the place 0
pub cleared_agrees : (size : ℕ) (t : List ℕ) → Cleared size t → agrees size 0 t ≡ true
unfolding count_at_def
cleared_agrees size t a = agrees_yes size 0 t (a.0, λ k h. a.1 k h ∙ omega arith)

-- what was counted before does not matter
pub counted_again : (size n m : ℕ) (t : List ℕ) → counted size n (counted size m t) ≡ counted size n t
unfolding counted
counted_again size n m t =
    ap (λ (l : List ℕ). tab (count_at_def size n) 0 (pages_of_def size) ++ l)
    (drop_at (tab (count_at_def size m) 0 (pages_of_def size)) (drop (pages_of_def size) t) (pages_of_def size) (tab_length (count_at_def size m) 0 (pages_of_def size)))

-- a table agrees with what it was counted for
pub counted_agrees : (size n : ℕ) (t : List ℕ) → agrees size n (counted size n t) ≡ true
unfolding agrees
counted_agrees size n t = ap (same (counted size n t)) (counted_again size n n t) ∙ same_refl (counted size n t)

-- what is found of the entries from one place up to another
abbrev pub Found : List ℕ → ℕ → ℕ → ℕ → Bool → Type 0
Found t from to v all = (all ≡ true → AllAre t from to v) × (all ≡ false → OneIsNot t from to v)

-- what is found of a part of the table, from place i up to another
pub found_part : (t : List ℕ) (i n to v : ℕ) (all : Bool) → to ≡ i + n → to ≤ length t
    → Found (take n (drop i t)) 0 (length (take n (drop i t))) v all
    → Found t i to v all
found_part t i n to v all e h f = (
  λ g j low high.
      let at : i + (j - i) ≡ j = omega arith in
      rw at at (sym (there (j - i) (omega arith)) ∙ f.0 g (j - i) (omega arith) (omega (arith, size))),
  λ g. let o = f.1 g in (i + o.0, omega arith, omega (arith, o.2, size), λ q. o.3 (there o.0 (omega (arith, o.2, size)) ∙ q)),
)
  where
    size : length (take n (drop i t)) ≡ n
    size = simp (length-take, length-drop) (omega arith)

    there : (k : ℕ) → k < n → get_or (take n (drop i t)) k 0 ≡ get_or t (i + k) 0
    there k l = simp (get_or-take, get_or-drop)

module _ (size n : ℕ) (t : List ℕ) where
  -- a table that is too short does not agree
  pub agrees_short : length t < pages_of_def size → agrees size n t ≡ false
  agrees_short h = agrees_no size n t (λ a. omega (arith, a.0, h))

  -- nor does one with another entry for a page
  pub agrees_other : (k : ℕ) → n ≤ size → k < pages_of_def size → (get_or t k 0 ≡ min page_size (n - page_size * k) → ⊥) → agrees size n t ≡ false
  agrees_other k h l other = agrees_no size n t (λ a. other (a.1 k l ∙ count_within size n k h))

  -- a page that is not full below n
  pub agrees_unfilled : n ≤ size → OneIsNot t 0 (n / page_size) page_size → agrees size n t ≡ false
  agrees_unfilled h o =
      let full : min page_size (n - page_size * o.0) ≡ page_size = omega (arith, o.2) in
      agrees_other o.0 h ((pages_are size o.0).1 (omega (arith, o.2))) (λ e. o.3 (e ∙ full))

  -- the page of n
  pub agrees_part : n ≤ size → n / page_size < pages_of_def size → (get_or t (n / page_size) 0 ≡ n % page_size → ⊥) → agrees size n t ≡ false
  agrees_part h l other =
      let part : min page_size (n - page_size * (n / page_size)) ≡ n % page_size = omega arith in
      agrees_other (n / page_size) h l (λ e. other (e ∙ part))

  -- a page behind n that is begun
  pub agrees_begun : n ≤ size → OneIsNot t (n / page_size + 1) (pages_of_def size) 0 → agrees size n t ≡ false
  agrees_begun h o =
      let none : min page_size (n - page_size * o.0) ≡ 0 = omega (arith, o.1) in
      agrees_other o.0 h o.2 (λ e. o.3 (e ∙ none))

  -- a table agrees where the pages below n are full, those behind it are not begun, and the page of n has the rest
  pub agrees_all : n ≤ size → pages_of_def size ≤ length t → AllAre t 0 (n / page_size) page_size
      → (n / page_size < pages_of_def size → get_or t (n / page_size) 0 ≡ n % page_size)
      → AllAre t (n / page_size + 1) (pages_of_def size) 0
      → agrees size n t ≡ true
  agrees_all h long full part none = agrees_yes size n t (long, λ k l. by-page k l ∙ sym (count_within size n k h))
    where
      by-page : (k : ℕ) → k < pages_of_def size → get_or t k 0 ≡ min page_size (n - page_size * k)
      by-page k l = elim (dec_le k (n / page_size)) [
        | yes g ↦ elim (dec_le (n / page_size) k) [
          | yes m ↦ let here : k ≡ n / page_size = omega arith in rw here (part (omega arith) ∙ omega arith)
          | no m ↦ full k (omega arith) (omega arith) ∙ omega arith
        ]
        | no g ↦ none k (omega arith) l ∙ omega arith
      ]

  -- as the last look at the entries behind the page of n finds
  pub agrees_last : (pages : ℕ) (r : Bool) → pages ≡ pages_of_def size → n ≤ size → pages ≤ length t → AllAre t 0 (n / page_size) page_size
      → get_or t (n / page_size) 0 ≡ n % page_size
      → Found t (n / page_size + 1) pages 0 r
      → r ≡ agrees size n t
  agrees_last pages true e h long full part f =
      sym (agrees_all h (omega (arith, e, long)) full (λ _. part) (λ k l m. f.0 refl k l (omega (arith, e, m))))
  agrees_last pages false e h long full part f =
      let o = f.1 refl in
      sym (agrees_begun h (o.0, o.1, omega (arith, e, o.2), o.3))

-- no more pages are full than there are
pub full_pages : (size n : ℕ) → n ≤ size → n / page_size ≤ pages_of_def size
unfolding pages_of_def
full_pages size n h = omega arith

-- how far a table has been brought from one place to another, from the page of the lower place up to the page k: those pages are counted for the new
-- place, and all other entries are as they were
pub record Followed (t : List ℕ) (after low high k : ℕ) (u : List ℕ) : Type 0 where
  pub same_size : length u ≡ length t
  pub begun : low / page_size ≤ k
  pub near : page_size * k < max (page_size * (low / page_size) + 1) (high + page_size)
  pub set_now : (j : ℕ) → low / page_size ≤ j → j < k → get_or u j 0 ≡ min page_size (after - page_size * j)
  pub below : (j : ℕ) → j < low / page_size → get_or u j 0 ≡ get_or t j 0
  pub behind : (j : ℕ) → k ≤ j → get_or u j 0 ≡ get_or t j 0

-- all pages between the places: the table is counted for the new one
pub followed_all : (t : List ℕ) (before after k : ℕ) (u : List ℕ) → Followed t after (min before after) (max before after) k u
    → max before after ≤ page_size * k
    → (size : ℕ) → before ≤ size → after ≤ size → agrees size before t ≡ true
    → u ≡ counted size after t
unfolding pages_of_def
followed_all t before after k u f most size hb ha e =
    let a = agrees_so size before t e in
    let low = min before after in
    let high = max before after in
    ext_get_or 0 u (counted size after t) (f.same_size ∙ sym (counted_length size after t a.0)) (λ j h. elim (dec_le (pages_of_def size) j) [
      | yes g ↦ f.behind j (past j g) ∙ sym (extra_is size after t j g)
      | no g ↦
          let inside : j < pages_of_def size = omega arith in
          own j (a.1 j inside ∙ count_within size before j hb) ∙ sym (entry_is size after t j inside ∙ count_within size after j ha)
    ])
  where
    past : (j : ℕ) → pages_of_def size ≤ j → k ≤ j
    past j g = omega (arith, f.near, f.begun)

    own : (j : ℕ) → get_or t j 0 ≡ min page_size (before - page_size * j) → get_or u j 0 ≡ min page_size (after - page_size * j)
    own j was = elim (dec_le k j) [
      | yes g ↦ f.behind j g ∙ was ∙ omega arith
      | no g ↦ elim (dec_le (min before after / page_size) j) [
        | yes l ↦ f.set_now j l (omega arith)
        | no l ↦ f.below j (omega arith) ∙ was ∙ omega arith
      ]
    ]
