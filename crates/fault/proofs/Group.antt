-- Which characters can stand in a group: those of a text that decodes can, and such as can are the end of one that decodes.
-- Assumes nothing.
use mathlib.Core.Path.{◌≡◌, refl, sym, ap, ◌∙◌}
use Prim.Native.Nat.{ℕ, ◌%◌}
use mathlib.Core.Bool.{Bool, true, false, false≢true}
use mathlib.Core.List.{List, [], ◌∷◌, ◌++◌, append_assoc}
use mathlib.Core.Option.{Option, none, some}
use lib.Dec.{eqb}
use borrow.Author.Tests.{eqb-true}
use Rattle.laws.specs.Choice.{pick, both}
use Rattle.laws.proofs.Choice.{pick_yes, pick_no, pick_keep}
use Rattle.strict_base64.specs.Base64.{value, known, pad, full, three, final, ahead, decode}
use Rattle.strict_base64.proofs.Laws.{none_some, ahead_some}
use Rattle.fault.specs.Fault.{Begins, third_stands, fourth_stands}

-- the four characters of a group can stand, each after those before it
pub record Stands (a b c d : ℕ) : Type 0 where
  pub first : known a ≡ true
  pub second : known b ≡ true
  pub third : third_stands b c ≡ true
  pub fourth : fourth_stands c d ≡ true

-- the same by the outcomes of the tests: whether each stands for a number, whether the last two are `=`, and whether the low bits before them are zero
pub record StandsBy (ka kb kc kd pc pd zb zc : Bool) : Type 0 where
  pub first : ka ≡ true
  pub second : kb ≡ true
  pub third : pick pc zb kc ≡ true
  pub fourth : pick pc pd (pick pd zc kd) ≡ true

-- the last group by the outcomes of its tests
abbrev final_by : {A : Type 0} → Bool → Bool → Bool → Bool → Bool → Bool → Bool → Bool → A → A → A → Option A
final_by ka kb kc kd pc pd zb zc x y z =
    pick pd
    (pick pc (pick (both ka (both kb zb)) (some x) none) (pick (both ka (both kb (both kc zc))) (some y) none))
    (pick (both ka (both kb (both kc kd))) (some z) none)

-- characters that can stand are a last group
by_tests : {A : Type 0} (ka kb kc kd pc pd zb zc : Bool) (x y z : A) → StandsBy ka kb kc kd pc pd zb zc
    → (w : A) × (final_by ka kb kc kd pc pd zb zc x y z ≡ some w)
unfolding pick both
by_tests false kb kc kd pc pd zb zc x y z s = absurd (false≢true s.first)
by_tests true false kc kd pc pd zb zc x y z s = absurd (false≢true s.second)
by_tests true true kc kd true false zb zc x y z s = absurd (false≢true s.fourth)
by_tests true true kc kd true true false zc x y z s = absurd (false≢true s.third)
by_tests true true kc kd true true true zc x y z s = (x, refl)
by_tests true true false kd false pd zb zc x y z s = absurd (false≢true s.third)
by_tests true true true kd false true zb false x y z s = absurd (false≢true s.fourth)
by_tests true true true kd false true zb true x y z s = (y, refl)
by_tests true true true false false false zb zc x y z s = absurd (false≢true s.fourth)
by_tests true true true true false false zb zc x y z s = (z, refl)

-- and such a group has only characters that can stand, where `=` stands for no number
of_tests : {A : Type 0} (ka kb kc kd pc pd zb zc : Bool) (x y z w : A) → (pc ≡ true → kc ≡ false)
    → final_by ka kb kc kd pc pd zb zc x y z ≡ some w
    → StandsBy ka kb kc kd pc pd zb zc
unfolding pick both
of_tests ka kb true kd true false zb zc x y z w h e = absurd (false≢true (sym (h refl)))
of_tests true true false kd true false zb zc x y z w h e = absurd (none_some w e)
of_tests false kb false kd true false zb zc x y z w h e = absurd (none_some w e)
of_tests true false false kd true false zb zc x y z w h e = absurd (none_some w e)
of_tests false kb kc kd true true zb zc x y z w h e = absurd (none_some w e)
of_tests true false kc kd true true zb zc x y z w h e = absurd (none_some w e)
of_tests true true kc kd true true false zc x y z w h e = absurd (none_some w e)
of_tests true true kc kd true true true zc x y z w h e = record { first = refl; second = refl; third = refl; fourth = refl }
of_tests false kb kc kd false true zb zc x y z w h e = absurd (none_some w e)
of_tests true false kc kd false true zb zc x y z w h e = absurd (none_some w e)
of_tests true true false kd false true zb zc x y z w h e = absurd (none_some w e)
of_tests true true true kd false true zb false x y z w h e = absurd (none_some w e)
of_tests true true true kd false true zb true x y z w h e = record { first = refl; second = refl; third = refl; fourth = refl }
of_tests false kb kc kd false false zb zc x y z w h e = absurd (none_some w e)
of_tests true false kc kd false false zb zc x y z w h e = absurd (none_some w e)
of_tests true true false kd false false zb zc x y z w h e = absurd (none_some w e)
of_tests true true true false false false zb zc x y z w h e = absurd (none_some w e)
of_tests true true true true false false zb zc x y z w h e = record { first = refl; second = refl; third = refl; fourth = refl }

-- `=` stands for no number
pub pad_unknown : (c : ℕ) → eqb c pad ≡ true → known c ≡ false
unfolding value pick both
pad_unknown c e = rw (eqb-true c pad e) refl

-- a missing character stands for none
pub none_known : known 0 ≡ false
unfolding value pick both
none_known = refl

-- the outcomes of a group's tests say that its characters can stand
stands_by : (a b c d : ℕ)
    → StandsBy (known a) (known b) (known c) (known d) (eqb c pad) (eqb d pad) (eqb (value b % 16) 0) (eqb (value c % 4) 0)
    → Stands a b c d
unfolding third_stands fourth_stands
stands_by a b c d s = record { first = s.first; second = s.second; third = s.third; fourth = s.fourth }

-- characters that can stand are a last group
final_of : (a b c d : ℕ) → Stands a b c d → (x : List ℕ) × (final a b c d ≡ some x)
unfolding final full third_stands fourth_stands
final_of a b c d s =
    by_tests (known a) (known b) (known c) (known d) (eqb c pad) (eqb d pad) (eqb (value b % 16) 0) (eqb (value c % 4) 0) _ _ _
    (record { first = s.first; second = s.second; third = s.third; fourth = s.fourth })

-- and a last group has only such
final_stands : (a b c d : ℕ) (x : List ℕ) → final a b c d ≡ some x → Stands a b c d
unfolding final full
final_stands a b c d x e =
    stands_by a b c d
    (of_tests (known a) (known b) (known c) (known d) (eqb c pad) (eqb d pad) (eqb (value b % 16) 0) (eqb (value c % 4) 0) _ _ _ x (pad_unknown c) e)

-- four characters that stand for numbers can stand
pub full_stands : (a b c d : ℕ) → full a b c d ≡ true → (Stands a b c d) × (eqb d pad ≡ false)
unfolding full pick both
full_stands a b c d e =
    let s =
    by (known a) (known b) (known c) (known d) (eqb c pad) (eqb d pad) (eqb (value b % 16) 0) (eqb (value c % 4) 0) (pad_unknown c) (pad_unknown d) e
    in
    (stands_by a b c d s.0, s.1)
  where
    by : (ka kb kc kd pc pd zb zc : Bool) → (pc ≡ true → kc ≡ false) → (pd ≡ true → kd ≡ false) → both ka (both kb (both kc kd)) ≡ true
        → StandsBy ka kb kc kd pc pd zb zc × (pd ≡ false)
    by false kb kc kd pc pd zb zc h g e = absurd (false≢true e)
    by true false kc kd pc pd zb zc h g e = absurd (false≢true e)
    by true true false kd pc pd zb zc h g e = absurd (false≢true e)
    by true true true false pc pd zb zc h g e = absurd (false≢true e)
    by true true true true true pd zb zc h g e = absurd (false≢true (sym (h refl)))
    by true true true true false true zb zc h g e = absurd (false≢true (sym (g refl)))
    by true true true true false false zb zc h g e = (record { first = refl; second = refl; third = refl; fourth = refl }, refl)

-- and four that can stand stand for numbers, where the last is not `=`
pub stands_full : (a b c d : ℕ) → Stands a b c d → eqb d pad ≡ false → full a b c d ≡ true
unfolding full third_stands fourth_stands pick both
stands_full a b c d s e =
    by (known a) (known b) (known c) (known d) (eqb c pad) (eqb d pad) (eqb (value b % 16) 0) (eqb (value c % 4) 0) s.first s.second s.third
    s.fourth e
  where
    by : (ka kb kc kd pc pd zb zc : Bool) → ka ≡ true → kb ≡ true → pick pc zb kc ≡ true → pick pc pd (pick pd zc kd) ≡ true → pd ≡ false
        → both ka (both kb (both kc kd)) ≡ true
    by ka kb kc kd pc true zb zc f g h i e = absurd (false≢true (sym e))
    by ka kb kc kd true false zb zc f g h i e = absurd (false≢true i)
    by ka kb kc kd false false zb zc f g h i e = rw (f, g, h, i) refl

-- the first four characters of a text that decodes can stand
text_stands : (a b c d : ℕ) (s x : List ℕ) → decode (a ∷ b ∷ c ∷ d ∷ s) ≡ some x → Stands a b c d
unfolding decode
text_stands a b c d [] x e = final_stands a b c d x e
text_stands a b c d (f ∷ s) x e =
    (full_stands a b c d (pick_keep (full a b c d) (ahead (three a b c d) (decode (f ∷ s))) none (some x) (none_some x) e).0).0

-- so the first of them does, where the text begins with it
pub of_first : (a : ℕ) → Begins (a ∷ []) → known a ≡ true
unfolding decode
of_first a b = by b.rest b.well_formed
  where
    by : (s : List ℕ) → decode (a ∷ s) ≡ some b.bytes → known a ≡ true
    by [] e = absurd (none_some b.bytes e)
    by (p ∷ []) e = absurd (none_some b.bytes e)
    by (p ∷ q ∷ []) e = absurd (none_some b.bytes e)
    by (p ∷ q ∷ r ∷ s) e = (text_stands a p q r s b.bytes e).first

-- the second
pub of_second : (a c : ℕ) → Begins (a ∷ c ∷ []) → known c ≡ true
unfolding decode
of_second a c b = by b.rest b.well_formed
  where
    by : (s : List ℕ) → decode (a ∷ c ∷ s) ≡ some b.bytes → known c ≡ true
    by [] e = absurd (none_some b.bytes e)
    by (p ∷ []) e = absurd (none_some b.bytes e)
    by (p ∷ q ∷ s) e = (text_stands a c p q s b.bytes e).second

-- the third
pub of_third : (a c d : ℕ) → Begins (a ∷ c ∷ d ∷ []) → third_stands c d ≡ true
unfolding decode
of_third a c d b = by b.rest b.well_formed
  where
    by : (s : List ℕ) → decode (a ∷ c ∷ d ∷ s) ≡ some b.bytes → third_stands c d ≡ true
    by [] e = absurd (none_some b.bytes e)
    by (p ∷ s) e = (text_stands a c d p s b.bytes e).third

-- and the fourth
pub of_fourth : (a c d e : ℕ) → Begins (a ∷ c ∷ d ∷ e ∷ []) → fourth_stands d e ≡ true
of_fourth a c d e b = (text_stands a c d e b.rest b.bytes b.well_formed).fourth

-- where a fifth follows, the four stand for numbers
pub of_fifth : (a c d e f : ℕ) → Begins (a ∷ c ∷ d ∷ e ∷ f ∷ []) → full a c d e ≡ true
unfolding decode
of_fifth a c d e f b =
    (pick_keep (full a c d e) (ahead (three a c d e) (decode (f ∷ b.rest))) none (some b.bytes) (none_some b.bytes) b.well_formed).0

-- what begins with some characters begins with the first of them
pub shorter : (p q : List ℕ) → Begins (p ++ q) → Begins p
shorter p q b =
    record { rest = q ++ b.rest; bytes = b.bytes; well_formed = ap decode (sym (append_assoc p q b.rest)) ∙ b.well_formed }

-- four characters that can stand are a text
pub can_four : (a b c d : ℕ) → Stands a b c d → Begins (a ∷ b ∷ c ∷ d ∷ [])
unfolding decode
can_four a b c d s = let f = final_of a b c d s in record { rest = []; bytes = f.0; well_formed = f.1 }

-- `A` stands for a number
letter : known 65 ≡ true
unfolding value pick both
letter = refl

-- and can stand third
letter_third : (b : ℕ) → third_stands b 65 ≡ true
unfolding third_stands value pick both
letter_third b = refl

-- three characters that can stand begin a text: a `=` follows a `=`, an `A` anything else
pub can_three : (a b c : ℕ) → known a ≡ true → known b ≡ true → third_stands b c ≡ true → Begins (a ∷ b ∷ c ∷ [])
unfolding fourth_stands value both
can_three a b c ka kb tc = by (eqb c pad) refl
  where
    by : (t : Bool) → eqb c pad ≡ t → Begins (a ∷ b ∷ c ∷ [])
    by true e = shorter (a ∷ b ∷ c ∷ []) (pad ∷ []) (can_four a b c pad (record { first = ka; second = kb; third = tc; fourth = rw e (pick_yes _ _) }))
    by false e = shorter (a ∷ b ∷ c ∷ []) (65 ∷ []) (can_four a b c 65 (record { first = ka; second = kb; third = tc; fourth = rw e (pick_no _ _ ∙ pick_no _ _ ∙ letter) }))

-- two
pub can_two : (a b : ℕ) → known a ≡ true → known b ≡ true → Begins (a ∷ b ∷ [])
can_two a b ka kb = shorter (a ∷ b ∷ []) (65 ∷ []) (can_three a b 65 ka kb (letter_third b))

-- one
pub can_one : (a : ℕ) → known a ≡ true → Begins (a ∷ [])
can_one a ka = shorter (a ∷ []) (65 ∷ []) (can_two a 65 ka letter)

-- none
pub can_none : Begins []
can_none = shorter [] (65 ∷ []) (can_one 65 letter)

-- four that stand for numbers go before what begins a text
pub can_after : (a b c d : ℕ) (p : List ℕ) → full a b c d ≡ true → Begins p → Begins (a ∷ b ∷ c ∷ d ∷ p)
unfolding decode ahead
can_after a b c d p f g =
    let w = by (p ++ g.rest) g.bytes g.well_formed in
    record { rest = g.rest; bytes = w.0; well_formed = w.1 }
  where
    by : (t x : List ℕ) → decode t ≡ some x → (y : List ℕ) × (decode (a ∷ b ∷ c ∷ d ∷ t) ≡ some y)
    by [] x e = absurd (none_some x e)
    by (h ∷ t) x e = (three a b c d ++ x, rw (f, pick_yes, e) refl)

-- and where they do, what follows begins a text
pub of_after : (a b c d : ℕ) (p : List ℕ) → Begins (a ∷ b ∷ c ∷ d ∷ p) → Begins p
unfolding decode
of_after a b c d [] g = can_none
of_after a b c d (h ∷ p) g =
    let rest : Option (List ℕ) = decode (h ∷ (p ++ g.rest)) in
    let more = pick_keep (full a b c d) (ahead (three a b c d) rest) none (some g.bytes) (none_some g.bytes) g.well_formed in
    let s = ahead_some (three a b c d) rest g.bytes more.1 in
    record { rest = g.rest; bytes = s.0; well_formed = s.1.0 }
