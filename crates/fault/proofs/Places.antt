-- The place: what is computed is that of the sentence, a text has one, and the steps of the computation as the code goes.
-- Assumes nothing.
use mathlib.Core.Path.{◌≡◌, refl, sym, ap, ◌∙◌}
use Prim.Native.Nat.{ℕ, zero, suc, ◌+◌, ◌%◌, ◌≤◌, ◌<◌}
use native.Mathlib.Numerals.{add-one, add-four}
use native.Mathlib.Omega.{arith}
use native.Mathlib.Decide.{dec_lt}
use mathlib.Core.Bool.{Bool, true, false, false≢true}
use mathlib.Core.List.{List, [], ◌∷◌, ◌++◌}
use lib.Dec.{eqb}
use lib.ListN.{length, get_or, take, drop, take-append-drop, get_or-eq_default, drop_of_length-le}
use lib.Seq.{take-take, get_or-drop, drop-drop}
use borrow.Author.Tests.{ne_eqb}
use Rattle.laws.specs.Choice.{pick}
use Rattle.laws.proofs.Choice.{pick_yes, pick_no, pick_case, both_last_no}
use Rattle.strict_base64.specs.Base64.{value, known, pad, full}
use Rattle.fault.specs.Fault.{Begins, Place, third_stands, fourth_stands, standing, place_of_def, PlaceIs, PlaceOnce}
use Rattle.fault.proofs.Group.{Stands, none_known, full_stands, stands_full, of_first, of_second, of_third, of_fourth, of_fifth}
use Rattle.fault.proofs.Group.{shorter, can_none, can_one, can_two, can_three, can_four, can_after, of_after}

-- a place, by the characters before it and the one there
placed : (t : List ℕ) (i : ℕ) → i ≤ length t → Begins (take i t) → (i < length t → Begins (take (i + 1) t) → ⊥) → Place t i
placed t i h b n =
    record {
      within = h;
      before = λ j l.
          let e = ap (λ (s : List ℕ). s ++ drop (j + 1) (take i t)) (sym (take-take (j + 1) i t (omega arith))) ∙ take-append-drop (j + 1) (take i t) in
          shorter (take (j + 1) t) (drop (j + 1) (take i t)) (rw e b);
      there = n;
    }

-- a test that fails and holds
never : (t : Bool) → t ≡ false → t ≡ true → ⊥
never t e f = false≢true (sym e ∙ f)

-- the first characters of a text
one_of : (t : List ℕ) → 0 < length t → take 1 t ≡ get_or t 0 0 ∷ []
one_of [] h = absurd (omega arith)
one_of (a ∷ t) h = refl

two_of : (t : List ℕ) → 1 < length t → take 2 t ≡ get_or t 0 0 ∷ get_or t 1 0 ∷ []
two_of [] h = absurd (omega arith)
two_of (a ∷ []) h = absurd (omega arith)
two_of (a ∷ b ∷ t) h = refl

three_of : (t : List ℕ) → 2 < length t → take 3 t ≡ get_or t 0 0 ∷ get_or t 1 0 ∷ get_or t 2 0 ∷ []
three_of [] h = absurd (omega arith)
three_of (a ∷ []) h = absurd (omega arith)
three_of (a ∷ b ∷ []) h = absurd (omega arith)
three_of (a ∷ b ∷ c ∷ t) h = refl

four_of : (t : List ℕ) → 3 < length t → take 4 t ≡ get_or t 0 0 ∷ get_or t 1 0 ∷ get_or t 2 0 ∷ get_or t 3 0 ∷ []
four_of [] h = absurd (omega arith)
four_of (a ∷ []) h = absurd (omega arith)
four_of (a ∷ b ∷ []) h = absurd (omega arith)
four_of (a ∷ b ∷ c ∷ []) h = absurd (omega arith)
four_of (a ∷ b ∷ c ∷ d ∷ t) h = refl

five_of : (t : List ℕ) → 4 < length t → take 5 t ≡ get_or t 0 0 ∷ get_or t 1 0 ∷ get_or t 2 0 ∷ get_or t 3 0 ∷ get_or t 4 0 ∷ []
five_of [] h = absurd (omega arith)
five_of (a ∷ []) h = absurd (omega arith)
five_of (a ∷ b ∷ []) h = absurd (omega arith)
five_of (a ∷ b ∷ c ∷ []) h = absurd (omega arith)
five_of (a ∷ b ∷ c ∷ d ∷ []) h = absurd (omega arith)
five_of (a ∷ b ∷ c ∷ d ∷ e ∷ t) h = refl

-- a character that passes a test which 0 does not pass is inside the text
inside : (f : ℕ → Bool) → f 0 ≡ false → (t : List ℕ) (i : ℕ) → f (get_or t i 0) ≡ true → i < length t
inside f z t i e =
    elim (dec_lt i (length t)) [
      | yes l ↦ l
      | no l ↦ absurd (never (f 0) z (rw (get_or-eq_default t 0 {n = i} (omega arith)) at e))
    ]

-- 0 can stand neither third nor fourth
none_third : (b : ℕ) → third_stands b 0 ≡ false
unfolding third_stands
none_third b = pick_no _ _ ∙ none_known

none_fourth : (c : ℕ) → fourth_stands c 0 ≡ false
unfolding fourth_stands pick
none_fourth c = by (eqb c pad)
  where
    by : (t : Bool) → pick t false (pick false (eqb (value c % 4) 0) (known 0)) ≡ false
    by true = refl
    by false = none_known

-- the place in a text whose first four characters do not all stand for numbers
place_here : (t : List ℕ) → full (get_or t 0 0) (get_or t 1 0) (get_or t 2 0) (get_or t 3 0) ≡ false
    → Place t (standing (get_or t 0 0) (get_or t 1 0) (get_or t 2 0) (get_or t 3 0))
unfolding standing
place_here t n =
    let a = get_or t 0 0 in
    let b = get_or t 1 0 in
    let c = get_or t 2 0 in
    let d = get_or t 3 0 in
    pick_case (Place t) (known a) _ _
    (λ ka. let l₀ = inside known none_known t 0 ka in
    pick_case (Place t) (known b) _ _
    (λ kb. let l₁ = inside known none_known t 1 kb in
    pick_case (Place t) (third_stands b c) _ _
    (λ tc. let l₂ = inside (third_stands b) (none_third b) t 2 tc in
    pick_case (Place t) (fourth_stands c d) _ _
    (λ fd. let l₃ = inside (fourth_stands c) (none_fourth c) t 3 fd in
    placed t 4 (omega arith) (rw (four_of t l₃) (can_four a b c d (record { first = ka; second = kb; third = tc; fourth = fd })))
    (λ l g. never _ n (of_fifth a b c d (get_or t 4 0) (rw (five_of t l) at g))))
    (λ fd. placed t 3 (omega arith) (rw (three_of t l₂) (can_three a b c ka kb tc)) (λ l g. never _ fd (of_fourth a b c d (rw (four_of t l) at g)))))
    (λ tc. placed t 2 (omega arith) (rw (two_of t l₁) (can_two a b ka kb)) (λ l g. never _ tc (of_third a b c (rw (three_of t l) at g)))))
    (λ kb. placed t 1 (omega arith) (rw (one_of t l₀) (can_one a ka)) (λ l g. never _ kb (of_second a b (rw (two_of t l) at g)))))
    (λ ka. placed t 0 (omega arith) can_none (λ l g. never _ ka (of_first a (rw (one_of t l) at g))))

-- a group with a missing character is not full
missing : (a b c : ℕ) → full a b c 0 ≡ false
unfolding full
missing a b c = rw (none_known, both_last_no, both_last_no, both_last_no) refl

-- what stands before a place begins a text
begun : (t : List ℕ) (i : ℕ) → Place t i → Begins (take i t)
begun t i p = by i p
  where
    by : (k : ℕ) → Place t k → Begins (take k t)
    by zero p = can_none
    by (suc k) p = rw (← add-one) (p.before k (omega arith))

-- the place behind four characters that stand for numbers
place_after : (a b c d : ℕ) (s : List ℕ) (i : ℕ) → full a b c d ≡ true → Place s i → Place (a ∷ b ∷ c ∷ d ∷ s) (i + 4)
place_after a b c d s i f p =
    let e : i + 4 + 1 ≡ i + 1 + 4 = omega arith in
    placed (a ∷ b ∷ c ∷ d ∷ s) (i + 4) (omega (arith, p.within)) (rw add-four (can_after a b c d (take i s) f (begun s i p)))
    (λ l g. p.there (omega arith) (of_after a b c d (take (i + 1) s) (rw (e, add-four) at g)))

-- what is computed is the place
pub place_is : PlaceIs
unfolding place_of_def
place_is [] = placed [] 0 (omega arith) can_none (λ l. absurd (omega arith))
place_is (a ∷ []) = place_here (a ∷ []) (missing a 0 0)
place_is (a ∷ b ∷ []) = place_here (a ∷ b ∷ []) (missing a b 0)
place_is (a ∷ b ∷ c ∷ []) = place_here (a ∷ b ∷ c ∷ []) (missing a b c)
place_is (a ∷ b ∷ c ∷ d ∷ s) =
    pick_case (Place (a ∷ b ∷ c ∷ d ∷ s)) (full a b c d) _ _ (λ f. place_after a b c d s (place_of_def s) f (place_is s))
    (λ n. place_here (a ∷ b ∷ c ∷ d ∷ s) n)

-- a text has one place
pub place_once : PlaceOnce
place_once t i j p q =
    elim (dec_lt i j) [
      | yes l ↦ absurd (p.there (omega (arith, q.within)) (q.before i l))
      | no l ↦ elim (dec_lt j i) [
        | yes k ↦ absurd (q.there (omega (arith, p.within)) (p.before j k))
        | no k ↦ omega arith
      ]
    ]

-- the computation by the first four characters, missing ones 0
by_four : (t : List ℕ) → place_of_def t ≡ pick (full (get_or t 0 0) (get_or t 1 0) (get_or t 2 0) (get_or t 3 0)) (place_of_def (drop 4 t) + 4)
    (standing (get_or t 0 0) (get_or t 1 0) (get_or t 2 0) (get_or t 3 0))
unfolding place_of_def standing
by_four [] = sym (rw (missing 0 0 0) (pick_no _ _ ∙ none-stands))
  where
    none-stands : standing 0 0 0 0 ≡ 0
    none-stands = rw none_known (pick_no _ _)
by_four (a ∷ []) = rw (missing a 0 0) (sym (pick_no _ _))
by_four (a ∷ b ∷ []) = rw (missing a b 0) (sym (pick_no _ _))
by_four (a ∷ b ∷ c ∷ []) = rw (missing a b c) (sym (pick_no _ _))
by_four (a ∷ b ∷ c ∷ d ∷ s) = refl

-- the number of characters that can stand is 4 just where they all can
four_stand : (a b c d : ℕ) → 4 ≤ standing a b c d → Stands a b c d
unfolding standing pick
four_stand a b c d h =
    by (known a) (known b) (third_stands b c) (fourth_stands c d) refl refl refl refl h
  where
    by : (ka kb tc fd : Bool) → known a ≡ ka → known b ≡ kb → third_stands b c ≡ tc → fourth_stands c d ≡ fd
        → 4 ≤ pick ka (pick kb (pick tc (pick fd 4 3) 2) 1) 0
        → Stands a b c d
    by false kb tc fd e f g i h = absurd (omega arith)
    by true false tc fd e f g i h = absurd (omega arith)
    by true true false fd e f g i h = absurd (omega arith)
    by true true true false e f g i h = absurd (omega arith)
    by true true true true e f g i h = record { first = e; second = f; third = g; fourth = i }

stand_four : (a b c d : ℕ) → Stands a b c d → standing a b c d ≡ 4
unfolding standing
stand_four a b c d s = rw (s.first, s.second, s.third, s.fourth) (simp pick_yes)

-- a group of a text from place i on, as the code looks at it
module _ (t : List ℕ) (i : ℕ) where
  abbrev here : ℕ
  here = standing (get_or t i 0) (get_or t (i + 1) 0) (get_or t (i + 2) 0) (get_or t (i + 3) 0)

  abbrev full_here : Bool
  full_here = full (get_or t i 0) (get_or t (i + 1) 0) (get_or t (i + 2) 0) (get_or t (i + 3) 0)

  by_here : place_of_def (drop i t) ≡ pick full_here (place_of_def (drop (i + 4) t) + 4) here
  by_here = let z : i + 0 ≡ i = omega arith in by_four (drop i t) ∙ simp (get_or-drop, drop-drop, z)

  -- not all four can stand: the place is in this group
  place_in_lem : here < 4 → place_of_def (drop i t) ≡ here
  place_in_lem h = by_here ∙ by full_here refl
    where
      by : (f : Bool) → full_here ≡ f → pick f (place_of_def (drop (i + 4) t) + 4) here ≡ here
      by true e = let s = stand_four _ _ _ _ (full_stands _ _ _ _ e).0 in absurd (omega arith)
      by false e = pick_no _ _

  -- all can, and the last is `=`: the place is behind the group
  place_behind : 4 ≤ here → get_or t (i + 3) 0 ≡ pad → place_of_def (drop i t) ≡ 4
  place_behind h e = by_here ∙ by full_here refl
    where
      by : (f : Bool) → full_here ≡ f → pick f (place_of_def (drop (i + 4) t) + 4) here ≡ 4
      by true g = absurd (never _ (full_stands _ _ _ _ g).1 (rw e refl))
      by false g = pick_no _ _ ∙ stand_four _ _ _ _ (four_stand _ _ _ _ h)

  -- all can, and the last is another: four stand for numbers, and the place is further on
  place_on : 4 ≤ here → (get_or t (i + 3) 0 ≡ pad → ⊥) → (i + 4 ≤ length t) × (place_of_def (drop i t) ≡ place_of_def (drop (i + 4) t) + 4)
  place_on h e =
      let s = four_stand _ _ _ _ h in
      let f = stands_full _ _ _ _ s (ne_eqb _ _ e) in
      let l = inside (fourth_stands (get_or t (i + 2) 0)) (none_fourth (get_or t (i + 2) 0)) t (i + 3) s.fourth in
      (omega arith, by_here ∙ rw f (pick_yes _ _))

-- a turn of the code's loop at place i: four characters a, b, c and d there, missing ones 0, of which k can stand
module _ (t : List ℕ) (i a b c d k : ℕ) (ea : a ≡ get_or t i 0) (eb : b ≡ get_or t (i + 1) 0) (ec : c ≡ get_or t (i + 2) 0) (ed : d ≡ get_or t (i + 3) 0)
    (ek : k ≡ standing a b c d) (so_far : place_of_def (drop i t) + i ≡ place_of_def t) where
  same : here t i ≡ k
  same = sym (ek ∙ rw (ea, eb, ec, ed) refl)

  -- the place is in the group
  pub turn_in : k < 4 → Place t (i + k)
  turn_in h =
      let p : place_of_def (drop i t) ≡ k = place_in_lem t i (rw same h) ∙ same in
      let e : place_of_def t ≡ i + k = omega arith in
      rw e at (place_is t)

  -- it is behind the group
  pub turn_behind : 4 ≤ k → d ≡ pad → Place t (i + 4)
  turn_behind h f =
      let p = place_behind t i (rw same h) (sym ed ∙ f) in
      let e : place_of_def t ≡ i + 4 = omega arith in
      rw e at (place_is t)

  -- it is further on
  pub turn_on : 4 ≤ k → (d ≡ pad → ⊥) → (i + 4 ≤ length t) × (place_of_def (drop (i + 4) t) + (i + 4) ≡ place_of_def t)
  turn_on h n = let p = place_on t i (rw same h) (λ e. n (ed ∙ e)) in (p.0, omega (arith, p.1))

-- a text that was gone through has its place at its end
pub turned : (t : List ℕ) (i : ℕ) → length t ≤ i → i ≤ length t → place_of_def (drop i t) + i ≡ place_of_def t → Place t (length t)
unfolding place_of_def
turned t i h k so_far =
    let z : place_of_def (drop i t) ≡ 0 = rw (drop_of_length-le t {i = i} h) refl in
    let e : place_of_def t ≡ length t = omega arith in
    rw e at (place_is t)
