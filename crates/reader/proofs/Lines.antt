-- Noise changes nothing: a line that draws refusal 2 or 3 draws it from every record and buffer, and leaves them. So noise among lines adds its
-- own refusals to their answers, and nothing else.
-- Assumes nothing.
use mathlib.Core.Path.{◌≡◌, refl, ap, ap₂, ◌∙◌}
use Prim.Native.Nat.{ℕ, ◌+◌}
use native.Mathlib.Omega.{arith}
use mathlib.Core.Bool.{Bool, true, false, not}
use mathlib.Core.List.{List, [], ◌∷◌}
use mathlib.Core.Logic.{◌⊎◌, inl, inr}
use mathlib.Core.Option.{Option, none, some}
use lib.Dec.{ltb}
use lib.ListN.{length}
use Rattle.laws.specs.Choice.{pick}
use Rattle.strict_base64.specs.Base64.{decode}
use Rattle.frame.specs.Line.{longest, initial, partial, begins_with, ended, text_of}
use Rattle.reader.specs.declared.Reader.{Reader}
use Rattle.reader.specs.declared.Reader.TheVariants.{Idle}
use Rattle.reader.specs.Reader.{Said, refused, Outcome, keeping, place_in, decoded, take_line_def}
use Rattle.reader.proofs.Plain.{Plain, plain_framed}
use Rattle.reader.specs.Lines.{saying, feed, NoiseStays, Amid, over, next, noise}

-- an answer is refusal 2 or 3
abbrev Loud : Said → Type 0
Loud a = (a ≡ refused 2) ⊎ (a ≡ refused 3)

-- a call's answer is another one
abbrev Quiet : Outcome → Type 0
Quiet o = Loud o.says → ⊥

-- a frame draws neither: its text is bad, or its raw bytes are taken or refused from 5 on
quiet_plain : (a : Said) → Plain a → Loud a → ⊥
quiet_plain a (inl e) (inl f) = let z : ◌≡◌ {A = ℕ} 0 1 = cc in omega arith
quiet_plain a (inl e) (inr f) = let z : ◌≡◌ {A = ℕ} 0 1 = cc in omega arith
quiet_plain a (inr (inl (n, e))) (inl f) = let z : ◌≡◌ {A = ℕ} 0 1 = cc in omega arith
quiet_plain a (inr (inl (n, e))) (inr f) = let z : ◌≡◌ {A = ℕ} 0 1 = cc in omega arith
quiet_plain a (inr (inr (n, e))) (inl f) = let z : n + 5 ≡ 2 = cc in omega arith
quiet_plain a (inr (inr (n, e))) (inr f) = let z : n + 5 ≡ 3 = cc in omega arith

quiet_decoded : (first : Bool) (r : Reader) (i : ℕ) (t : Option (List ℕ)) (p : List ℕ) → Quiet (decoded first r i t p)
unfolding decoded
quiet_decoded first r i none p (inl e) = let z : ◌≡◌ {A = ℕ} 0 1 = cc in omega arith
quiet_decoded first r i none p (inr e) = let z : ◌≡◌ {A = ℕ} 0 1 = cc in omega arith
quiet_decoded first r i (some raw) p l = quiet_plain _ (plain_framed first r raw p) l

-- a call that gave refusal 2 or 3 was not quiet
loud : (o : Outcome) (n : ℕ) → (n ≡ 2) ⊎ (n ≡ 3) → o.says ≡ refused n → Loud o.says
loud o n (inl e) s = inl (s ∙ ap refused e)
loud o n (inr e) s = inr (s ∙ ap refused e)

-- a refusal has one number
number : (m n : ℕ) → refused m ≡ refused n → m ≡ n
number m n e = cc

-- a line's outcomes from two records and buffers, by the tests on the way: where the first is refusal 2 or 3 the second is the same one,
-- and leaves all
stays : (r : Reader) (p : List ℕ) (n : ℕ) (a b c d e : Bool) (i j k l : Outcome) → Quiet i → Quiet j → (n ≡ 2) ⊎ (n ≡ 3)
    → (let o : Outcome = pick a (keeping 2 Idle []) (pick b (keeping 3 Idle []) (pick c (keeping 3 Idle []) (pick d i (pick e j (keeping 3 Idle []))))) in
    let o' : Outcome = pick a (keeping 2 r p) (pick b (keeping 3 r p) (pick c (keeping 3 r p) (pick d k (pick e l (keeping 3 r p))))) in
    o.says ≡ refused n → o' ≡ keeping n r p)
unfolding pick
stays r p n true b c d e i j k l hi hj which s = ap (λ (m : ℕ). keeping m r p) (number 2 n s)
stays r p n false true c d e i j k l hi hj which s = ap (λ (m : ℕ). keeping m r p) (number 3 n s)
stays r p n false false true d e i j k l hi hj which s = ap (λ (m : ℕ). keeping m r p) (number 3 n s)
stays r p n false false false true e i j k l hi hj which s = absurd (hi (loud i n which s))
stays r p n false false false false true i j k l hi hj which s = absurd (hj (loud j n which s))
stays r p n false false false false false i j k l hi hj which s = ap (λ (m : ℕ). keeping m r p) (number 3 n s)

-- noise changes nothing
pub noise_stays : NoiseStays
unfolding take_line_def
noise_stays line n r p h =
    let t : Option (List ℕ) = decode (text_of line) in
    let i : ℕ = place_in line in
    stays r p n (ltb longest (length line)) (ltb (length line) 3) (not (ended line)) (begins_with initial line) (begins_with partial line)
    (decoded true Idle i t []) (decoded false Idle i t []) (decoded true r i t p) (decoded false r i t p)
    (quiet_decoded true Idle i t []) (quiet_decoded false Idle i t []) h.0 h.1

-- lists with one more element at their fronts are equal only where their rests are
rest_is : (a b : Said) (x y : List Said) → a ∷ x ≡ b ∷ y → x ≡ y
rest_is a b x y e = cc

first_is : (a b : Said) (x y : List Said) → a ∷ x ≡ b ∷ y → a ≡ b
first_is a b x y e = cc

-- noise among lines adds its own refusals to their answers, and nothing else
pub with_noise : {fs ls : List (List ℕ)} {xs ys : List Said} → Amid fs xs ls ys → (r : Reader) (p : List ℕ) → (feed fs r p).says ≡ xs
    → feed ls r p ≡ record { says = ys; reader = (feed fs r p).reader; buffer = (feed fs r p).buffer }
unfolding feed saying
with_noise over r p e = refl
with_noise (next {f = f} {a = a} {fs = fs} {ls = ls} {xs = xs} {ys = ys} t) r p e =
    let o : Outcome = take_line_def r f p in
    let rest = with_noise t o.reader o.buffer (rest_is o.says a (feed fs o.reader o.buffer).says xs e) in
    ap₂ saying (first_is o.says a (feed fs o.reader o.buffer).says xs e) rest
with_noise (noise {l = l} {n = n} {fs = fs} {ls = ls} {xs = xs} {ys = ys} h t) r p e =
    ap (λ (o : Outcome). saying o.says (feed ls o.reader o.buffer)) (noise_stays l n r p h)
    ∙ ap (saying (refused n)) (with_noise t r p e)
