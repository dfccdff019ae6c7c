-- Laws of a stream cut at each 0A, and of bytes that come on top of those that a record holds.
-- Assumes nothing.
use mathlib.Core.Path.{◌≡◌, refl, sym, ap, ◌∙◌}
use Prim.Native.Nat.{ℕ, suc, ◌+◌, ◌≤◌, ◌<◌}
use native.Mathlib.Nat.{zero-add}
use native.Mathlib.Omega.{arith}
use native.Mathlib.Decide.{dec_le}
use mathlib.Core.Bool.{Bool, true, false}
use mathlib.Core.List.{List, [], ◌∷◌, ◌++◌, append_assoc, append-nil}
use lib.Dec.{eqb}
use borrow.Author.Tests.{le-ltb, ltb-false, eqb-true}
use lib.ListN.{length, take, drop, length-append}
use Rattle.laws.specs.Choice.{pick}
use Rattle.laws.specs.Bytes.{pasted}
use Rattle.laws.proofs.Choice.{pick_yes, pick_no}
use Rattle.laws.proofs.Lists.{pasted_length, pasted_take, pasted_twice}
use Rattle.collector.specs.Search.{index_after, index_of}
use Rattle.frame.specs.Line.{newline}
use Rattle.collector.specs.declared.Collector.{Collector}
use Rattle.collector.specs.Collector.{most, before, has_newline, held_of, impossible, empty, skips, longer, line, ended}
use Rattle.collector.specs.Lumps.{onto, cut, handing, gathered, stream, Possible}
use Rattle.collector.proofs.Laws.{
  before_le,
  longer_skipping,
  longer_over,
  longer_held,
  longer_none,
  ended_skipping,
  ended_over,
  ended_line,
  possible_count,
}

-- the first byte is an 0A, or it is not
pub before_yes : (b : ℕ) (s : List ℕ) → eqb b newline ≡ true → before (b ∷ s) ≡ 0
unfolding index_of index_after
before_yes b s e = rw e

pub before_no : (b : ℕ) (s : List ℕ) → eqb b newline ≡ false → before (b ∷ s) ≡ suc (before s)
unfolding index_of index_after
before_no b s e = rw e

pub cut_yes : (b : ℕ) (s : List ℕ) → eqb b newline ≡ true → cut (b ∷ s) ≡ [] ∷ cut s
unfolding cut
cut_yes b s e = rw (e, pick_yes)

pub cut_no : (b : ℕ) (s : List ℕ) → eqb b newline ≡ false → cut (b ∷ s) ≡ onto b (cut s)
unfolding cut
cut_no b s e = rw (e, pick_no)

-- bytes without an 0A lengthen the first piece of what follows them
pub cut_clean : (x s p : List ℕ) (ps : List (List ℕ)) → before x ≡ length x → cut s ≡ p ∷ ps → cut (x ++ s) ≡ (x ++ p) ∷ ps
unfolding onto
cut_clean [] s p ps clean e = e
cut_clean (b ∷ x) s p ps clean e = by-test (eqb b newline) refl (λ h. cut_clean x s p ps h e)
  where
    by-test : (t : Bool) → eqb b newline ≡ t → (before x ≡ length x → cut (x ++ s) ≡ (x ++ p) ∷ ps) → cut (b ∷ (x ++ s)) ≡ (b ∷ (x ++ p)) ∷ ps
    by-test true h rest = absurd (omega (arith, clean, before_yes b x h))
    by-test false h rest = cut_no b (x ++ s) h ∙ ap (λ (l : List (List ℕ)). onto b l) (rest (omega (arith, clean, before_no b x h)))

-- there is always a first piece
pub cut_some : (s : List ℕ) → cut s ≡ [] → ⊥
unfolding cut onto
cut_some [] e = let z : ◌≡◌ {A = ℕ} 0 1 = cc in omega arith
cut_some (b ∷ s) e = by-test (eqb b newline) refl (cut_some s)
  where
    kept : (l : List (List ℕ)) → (l ≡ [] → ⊥) → onto b l ≡ [] → ⊥
    kept [] never e = never refl
    kept (p ∷ ps) never e = let z : ◌≡◌ {A = ℕ} 0 1 = cc in omega arith

    by-test : (t : Bool) → eqb b newline ≡ t → (cut s ≡ [] → ⊥) → ⊥
    by-test true h never = let u : [] ∷ cut s ≡ [] = sym (cut_yes b s h) ∙ e in let z : ◌≡◌ {A = ℕ} 0 1 = cc in omega arith
    by-test false h never = kept (cut s) never (sym (cut_no b s h) ∙ e)

-- a stream at its first 0A: the bytes before it have none, and it and what follows stand behind them
pub split_at : (s : List ℕ) → before s < length s
    → (s ≡ take (before s) s ++ (newline ∷ drop (before s + 1) s)) × (before (take (before s) s) ≡ before s)
unfolding index_of
split_at [] h = absurd (omega (arith, h))
split_at (b ∷ s) h = by-test (eqb b newline) refl (split_at s)
  where
    by-test : (t : Bool) → eqb b newline ≡ t
        → (before s < length s → (s ≡ take (before s) s ++ (newline ∷ drop (before s + 1) s)) × (before (take (before s) s) ≡ before s))
        → (b ∷ s ≡ take (before (b ∷ s)) (b ∷ s) ++ (newline ∷ drop (before (b ∷ s) + 1) (b ∷ s)))
        × (before (take (before (b ∷ s)) (b ∷ s)) ≡ before (b ∷ s))
    by-test true e rest = rw (before_yes b s e) (ap (λ (n : ℕ). n ∷ s) (eqb-true b newline e), refl)
    by-test false e rest =
        let here = rest (omega (arith, h, before_no b s e)) in
        let next : suc (before s) + 1 ≡ suc (before s + 1) = omega arith in
        rw (before_no b s e, next)
        (ap (λ (l : List ℕ). b ∷ l) here.0, before_no b (take (before s) s) e ∙ ap suc here.1)

-- the records that hold nothing are possible
pub possible_empty : Possible empty
unfolding impossible index_of pick
possible_empty = (refl, refl)

pub possible_skips : Possible skips
unfolding impossible index_of pick
possible_skips = (refl, refl)

-- a record of the collector's form
abbrev pub Formed : Collector → Type 0
Formed c = (length c.held ≡ most) × (c.count ≤ most)

pub formed : (c : Collector) → Possible c → Formed c
formed c (l, e) = (l, possible_count c e)

-- the record with some bytes more, while no more than 126 are held
abbrev more : Collector → List ℕ → Collector
more c x = record { held = pasted c.held c.count x; count = c.count + length x; skipping = false }

-- those that come stand behind those that were held before
held_more : (c : Collector) (x : List ℕ) → Formed c → c.count + length x ≤ most → held_of (more c x) ≡ held_of c ++ x
held_more c x (l, h) room = pasted_take c.held c.count x (rw l room)

-- two parts together
sum : (c : Collector) (x y : List ℕ) → c.count + length (x ++ y) ≡ c.count + length x + length y
sum c x y = rw length-append (omega arith)

-- bytes that come in two parts are held as they are in one
pub longer_twice : (c : Collector) (x y : List ℕ) → Formed c → longer (longer c x) y ≡ longer c (x ++ y)
longer_twice c x y (l, h) = by-test c.skipping refl
  where
    by-test : (t : Bool) → c.skipping ≡ t → longer (longer c x) y ≡ longer c (x ++ y)
    by-test true e = rw (longer_skipping c x e, longer_skipping c y e, longer_skipping c (x ++ y) e)
    by-test false e = elim (dec_le (c.count + length x) most) [
      | no k ↦ rw (longer_over c x e (omega (arith, k)), longer_skipping skips y refl, longer_over c (x ++ y) e (rw (sum c x y) (omega (arith, k))))
      | yes k ↦ elim (dec_le (c.count + length x + length y) most) [
        | no m ↦ rw (
          longer_held c x e k,
          longer_over (more c x) y refl (omega (arith, m)),
          longer_over c (x ++ y) e
              (rw (sum c x y) (omega (arith, m))),
        )
        | yes m ↦ rw (
          longer_held c x e k,
          longer_held (more c x) y refl m,
          longer_held c (x ++ y) e (rw (sum c x y) m),
          pasted_twice c.held c.count x y (rw l k),
          sum c x y,
        )
      ]
    ]

-- and end as they do in one
pub ended_longer : (c : Collector) (x y : List ℕ) → Formed c → ended (longer c x) y ≡ ended c (x ++ y)
ended_longer c x y (l, h) = by-test c.skipping refl
  where
    by-test : (t : Bool) → c.skipping ≡ t → ended (longer c x) y ≡ ended c (x ++ y)
    by-test true e = rw (longer_skipping c x e, ended_skipping c y e, ended_skipping c (x ++ y) e)
    by-test false e = elim (dec_le (c.count + length x) most) [
      | no k ↦ rw (longer_over c x e (omega (arith, k)), ended_skipping skips y refl, ended_over c (x ++ y) e (rw (sum c x y) (omega (arith, k))))
      | yes k ↦ elim (dec_le (c.count + length x + length y) most) [
        | no m ↦ rw (
          longer_held c x e k,
          ended_over (more c x) y refl (omega (arith, m)),
          ended_over c (x ++ y) e
              (rw (sum c x y) (omega (arith, m))),
        )
        | yes m ↦ rw (
          longer_held c x e k,
          ended_line (more c x) y refl m,
          ended_line c (x ++ y) e (rw (sum c x y) m),
          held_more c x (l, h) k,
        ) (ap line (append_assoc (held_of c) x (y ++ (newline ∷ [])) ∙ ap (λ (s : List ℕ). held_of c ++ s) (sym (append_assoc x y (newline ∷ [])))))
      ]
    ]

-- bytes without an 0A that come before others are held
pub stream_clean : (c : Collector) (x s : List ℕ) → Formed c → before x ≡ length x → stream c (x ++ s) ≡ stream (longer c x) s
unfolding gathered
stream_clean c x s form clean = by-pieces (cut s) refl
  where
    by-pieces : (l : List (List ℕ)) → cut s ≡ l → stream c (x ++ s) ≡ stream (longer c x) s
    by-pieces [] e = absurd (cut_some s e)
    by-pieces (p ∷ []) e = rw (e, cut_clean x s p [] clean e, longer_twice c x p form)
    by-pieces (p ∷ (q ∷ ps)) e = rw (e, cut_clean x s p (q ∷ ps) clean e, ended_longer c x p form)

-- before an 0A they end a line
pub stream_line : (c : Collector) (x s : List ℕ) → before x ≡ length x → stream c (x ++ (newline ∷ s)) ≡ handing (ended c x) (stream empty s)
unfolding gathered
stream_line c x s clean = by-pieces (cut s) refl
  where
    first : cut (x ++ (newline ∷ s)) ≡ x ∷ cut s
    first = cut_clean x (newline ∷ s) [] (cut s) clean (cut_yes newline s refl) ∙ ap (λ (l : List ℕ). l ∷ cut s) (append-nil x)

    by-pieces : (l : List (List ℕ)) → cut s ≡ l → stream c (x ++ (newline ∷ s)) ≡ handing (ended c x) (stream empty s)
    by-pieces [] e = absurd (cut_some s e)
    by-pieces (p ∷ ps) e = rw (first, e)

-- nothing more
pub stream_none : (c : Collector) → c.count ≤ most → stream c [] ≡ record { handed = []; collector = c }
unfolding gathered cut
stream_none c h = rw (longer_none c h)

-- bytes after bytes without an 0A have one where those after them have one
pub before_join : (x y : List ℕ) → before x ≡ length x → before (x ++ y) ≡ length x + before y
before_join [] y clean = sym (zero-add (before y))
before_join (b ∷ x) y clean = by-test (eqb b newline) refl (before_join x y)
  where
    by-test : (t : Bool) → eqb b newline ≡ t → (before x ≡ length x → before (x ++ y) ≡ length x + before y)
        → before (b ∷ (x ++ y)) ≡ length (b ∷ x) + before y
    by-test true e rest = absurd (omega (arith, clean, before_yes b x e))
    by-test false e rest = before_no b (x ++ y) e ∙ ap suc (rest (omega (arith, clean, before_no b x e))) ∙ (omega arith)

-- a record that is not impossible holds no 0A
pub possible_clean : (c : Collector) → Possible c → before (held_of c) ≡ length (held_of c)
unfolding impossible
possible_clean c (l, e) =
    let k = possible_count c e in
    let none : has_newline (held_of c) ≡ false = sym (rw (le-ltb most c.count k, pick_no)) ∙ e in
    let a = ltb-false (before (held_of c)) (length (held_of c)) none in
    let b = before_le (held_of c) in
    omega (arith, a, b)

clean_possible : (c : Collector) → Formed c → before (held_of c) ≡ length (held_of c) → Possible c
unfolding impossible
clean_possible c (l, h) clean = (l, rw (le-ltb most c.count h, pick_no) (le-ltb (before (held_of c)) (length (held_of c)) (omega (arith, clean))))

-- and stays so with bytes that have none
pub possible_longer : (c : Collector) (x : List ℕ) → Possible c → before x ≡ length x → Possible (longer c x)
possible_longer c x (l, e) clean = by-test c.skipping refl
  where
    k : c.count ≤ most
    k = possible_count c e

    by-test : (t : Bool) → c.skipping ≡ t → Possible (longer c x)
    by-test true t = rw (longer_skipping c x t) (l, e)
    by-test false t = elim (dec_le (c.count + length x) most) [
      | no m ↦ rw (longer_over c x t (omega (arith, m))) possible_skips
      | yes m ↦ rw (longer_held c x t m)
          (clean_possible (more c x) (pasted_length c.held c.count x (rw l m) ∙ l, m)
          (rw (held_more c x (l, k) m, before_join (held_of c) x (possible_clean c (l, e)), length-append)
          (ap (λ (n : ℕ). length (held_of c) + n) clean)))
    ]
