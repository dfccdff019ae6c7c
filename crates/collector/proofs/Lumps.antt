-- However a stream was lumped, a caller's steps give what the whole stream gives.
-- Assumes nothing.
use mathlib.Core.Path.{◌≡◌, refl, sym, ap, ◌∙◌}
use Prim.Native.Nat.{ℕ, zero, suc, ◌+◌, ◌≤◌, ◌<◌}
use native.Mathlib.Nat.{zero-add}
use native.Mathlib.Omega.{arith}
use native.Mathlib.Decide.{dec_le}
use mathlib.Core.Bool.{Bool, true, false}
use mathlib.Core.List.{List, [], ◌∷◌, ◌++◌, append_assoc, append-nil}
use borrow.Author.Tests.{lt-ltb, ltb-true, ltb-false}
use lib.ListN.{length, take, drop, replicate, length-append, length-take, length-drop}
use lib.Seq.{drop-drop}
use Rattle.laws.specs.Bytes.{pasted}
use Rattle.laws.proofs.Lists.{pasted_take}
use Rattle.frame.specs.Line.{longest, newline}
use Rattle.collector.specs.declared.Collector.{Collector}
use Rattle.collector.specs.Collector.{
  most,
  longest_lump,
  before,
  has_newline,
  held_of,
  empty,
  longer,
  Handed,
  line,
  too_long_def,
  ended,
  line_of,
  used_up,
  refusing,
  Outcome,
  saying,
  stepped,
  collect,
}
use Rattle.collector.specs.Lumps.{
  Gathered,
  handing,
  stream,
  Steps,
  over,
  lined,
  long,
  none,
  next,
  Possible,
  joined,
  short_none,
  short_next,
  LumpsGive,
  LumpsEnd,
  LumpsAgree,
}
use Rattle.collector.proofs.Laws.{before_le, held_length, collect_steps, stepped_rest, stepped_line, ended_skipping, ended_over, ended_line}
use Rattle.collector.proofs.Cut.{split_at, formed, stream_clean, stream_line, stream_none, possible_empty, possible_longer}

-- what is handed on before what a stream gives
unfoldable front : List Handed → Gathered → Gathered
front hs g = record { handed = hs ++ g.handed; collector = g.collector }

-- what is handed on is a line of 1 to 127 bytes, or a line too long
data Kind (c : Collector) (x : List ℕ) : Type 0 where
  a_line : (l : List ℕ) → ended c x ≡ line l → (0 < length l) × (length l ≤ longest) → Kind c x
  too_long : ended c x ≡ too_long_def → Kind c x

kind_of : (c : Collector) (x : List ℕ) → Possible c → Kind c x
kind_of c x p = by-test c.skipping refl
  where
    by-test : (t : Bool) → c.skipping ≡ t → Kind c x
    by-test true e = too_long (ended_skipping c x e)
    by-test false e = elim (dec_le (c.count + length x) most) [
      | no k ↦ too_long (ended_over c x e (omega (arith, k)))
      | yes k ↦ a_line (held_of c ++ (x ++ (newline ∷ []))) (ended_line c x e k)
          (rw (length-append, length-append, held_length c (formed c p).0 (formed c p).1) (omega arith, omega (arith, k)))
    ]

-- a step of a caller with a possible record and a lump that is not too long: to the lump's end, or to an 0A
pub data Stepping (c : Collector) (lump : List ℕ) (at : ℕ) (b : List ℕ) : Type 0 where
  to_end : before (drop at lump) ≡ length (drop at lump)
      → collect c lump at b ≡ record { says = used_up; place = length lump; collector = longer c (drop at lump); buffer = b }
      → Stepping c lump at b
  to_line : (l : List ℕ) → before (drop at lump) < length (drop at lump) → ended c (take (before (drop at lump)) (drop at lump)) ≡ line l
      → (0 < length l) × (length l ≤ longest)
      → collect c lump at b ≡ record { says = line_of (length l); place = at + before (drop at lump) + 1; collector = empty; buffer = pasted b 0 l }
      → Stepping c lump at b
  to_long : before (drop at lump) < length (drop at lump) → ended c (take (before (drop at lump)) (drop at lump)) ≡ too_long_def
      → collect c lump at b ≡ record { says = refusing 2; place = at + before (drop at lump) + 1; collector = empty; buffer = b }
      → Stepping c lump at b

pub stepping : (c : Collector) (lump : List ℕ) (at : ℕ) (b : List ℕ) → Possible c → length lump ≤ longest_lump → Stepping c lump at b
unfolding saying
stepping c lump at b p short = by-test (has_newline (drop at lump)) refl
  where
    step : collect c lump at b ≡ stepped c (length lump) at (drop at lump) b
    step = collect_steps c lump at b p.1 short

    by_kind : before (drop at lump) < length (drop at lump) → Kind c (take (before (drop at lump)) (drop at lump)) → Stepping c lump at b
    by_kind h (a_line l e small) =
        to_line l h e small (step ∙ stepped_line c (length lump) at (drop at lump) b (lt-ltb _ _ h) ∙ rw e)
    by_kind h (too_long e) = to_long h e (step ∙ stepped_line c (length lump) at (drop at lump) b (lt-ltb _ _ h) ∙ rw e)

    by-test : (t : Bool) → has_newline (drop at lump) ≡ t → Stepping c lump at b
    by-test true e = by_kind (ltb-true _ _ e) (kind_of c (take (before (drop at lump)) (drop at lump)) p)
    by-test false e =
        let k = ltb-false (before (drop at lump)) (length (drop at lump)) e in
        let m = before_le (drop at lump) in
        to_end (omega (arith, k, m)) (step ∙ stepped_rest c (length lump) at (drop at lump) b e)

-- a stream from a place of a lump on, whose next 0A stands in the lump
stream_on : (c : Collector) (lump : List ℕ) (at : ℕ) (t : List ℕ) → before (drop at lump) < length (drop at lump)
    → stream c (drop at lump ++ t)
    ≡ handing (ended c (take (before (drop at lump)) (drop at lump))) (stream empty (drop (at + before (drop at lump) + 1) lump ++ t))
stream_on c lump at t h =
    let parts = split_at (drop at lump) h in
    let n : at + (before (drop at lump) + 1) ≡ at + before (drop at lump) + 1 = omega arith in
    let size : length (take (before (drop at lump)) (drop at lump)) ≡ before (drop at lump) = rw length-take (omega (arith, h)) in
    ap (λ (l : List ℕ). stream c (l ++ t)) parts.0
    ∙ ap (λ (l : List ℕ). stream c l)
    (append_assoc (take (before (drop at lump)) (drop at lump)) (newline ∷ drop (before (drop at lump) + 1) (drop at lump)) t)
    ∙ stream_line c (take (before (drop at lump)) (drop at lump)) (drop (before (drop at lump) + 1) (drop at lump) ++ t) (parts.1 ∙ sym size)
    ∙ rw (drop-drop (before (drop at lump) + 1) at lump, n)

-- one more handed on before what a stream gives
handing_front : (h : Handed) (hs : List Handed) (g : Gathered) → handing h (front hs g) ≡ front (h ∷ hs) g
unfolding handing front
handing_front h hs g = refl

-- what holds of a caller's steps from a place of a lump on: they hand on what a stream gives that begins so, and leave the record from which the rest
-- of it goes on
abbrev Gives : Collector → List ℕ → ℕ → List ℕ → List Handed → Collector → Type 0
Gives c lump at t hs d = (stream c (drop at lump ++ t) ≡ front hs (stream d t)) × Possible d

-- it holds after one more step to an 0A
one_more : (c : Collector) (lump : List ℕ) (at : ℕ) (t : List ℕ) (h : Handed) (hs : List Handed) (d : Collector)
    → before (drop at lump) < length (drop at lump) → ended c (take (before (drop at lump)) (drop at lump)) ≡ h
    → Gives empty lump (at + before (drop at lump) + 1) t hs d → Gives c lump at t (h ∷ hs) d
one_more c lump at t h hs d there e (rest, p) =
    (stream_on c lump at t there ∙ rw (e, rest) (handing_front h hs (stream d t)), p)

-- steps to the lump's end, to a line and to a line too long
gives_over : (c : Collector) (lump : List ℕ) (at : ℕ) (t b : List ℕ) → Possible c → Stepping c lump at b → (collect c lump at b).says ≡ used_up
    → Gives c lump at t [] (collect c lump at b).collector
unfolding front
gives_over c lump at t b p (to_end clean o) e =
    rw o (stream_clean c (drop at lump) t (formed c p) clean, possible_longer c (drop at lump) p clean)
gives_over c lump at t b p (to_line l h f small o) e =
    let u : used_up ≡ line_of (length l) = sym e ∙ ap (λ (x : Outcome). x.says) o in
    let z : ◌≡◌ {A = ℕ} 0 1 = cc in
    absurd (omega arith)
gives_over c lump at t b p (to_long h f o) e =
    let u : used_up ≡ refusing 2 = sym e ∙ ap (λ (x : Outcome). x.says) o in
    let z : ◌≡◌ {A = ℕ} 0 1 = cc in
    absurd (omega arith)

gives_line : (c : Collector) (lump : List ℕ) (at : ℕ) (t b : List ℕ) (n : ℕ) (hs : List Handed) (d : Collector) → length b ≡ longest
    → Stepping c lump at b → (collect c lump at b).says ≡ line_of n
    → (Possible (collect c lump at b).collector → Gives (collect c lump at b).collector lump (collect c lump at b).place t hs d)
    → Gives c lump at t (line (take n (collect c lump at b).buffer) ∷ hs) d
gives_line c lump at t b n hs d size (to_end clean o) e rest =
    let u : line_of n ≡ used_up = sym e ∙ ap (λ (x : Outcome). x.says) o in
    let z : ◌≡◌ {A = ℕ} 0 1 = cc in
    absurd (omega arith)
gives_line c lump at t b n hs d size (to_long h f o) e rest =
    let u : line_of n ≡ refusing 2 = sym e ∙ ap (λ (x : Outcome). x.says) o in
    let z : ◌≡◌ {A = ℕ} 0 1 = cc in
    absurd (omega arith)
gives_line c lump at t b n hs d size (to_line l h f small o) e rest =
    let u : line_of (length l) ≡ line_of n = sym (ap (λ (x : Outcome). x.says) o) ∙ e in
    let m : length l ≡ n = cc in
    let bytes : take n (pasted b 0 l) ≡ l
    = ap (λ (k : ℕ). take k (pasted b 0 l)) (sym (zero-add (length l) ∙ m)) ∙ pasted_take b 0 l (rw size (omega (arith, small.1))) in
    let went : Gives empty lump (at + before (drop at lump) + 1) t hs d
    = rw o at (rest (rw o possible_empty)) in
    rw (o, bytes) (one_more c lump at t (line l) hs d h f went)

gives_long : (c : Collector) (lump : List ℕ) (at : ℕ) (t b : List ℕ) (hs : List Handed) (d : Collector)
    → Stepping c lump at b → (collect c lump at b).says ≡ refusing 2
    → (Possible (collect c lump at b).collector → Gives (collect c lump at b).collector lump (collect c lump at b).place t hs d)
    → Gives c lump at t (too_long_def ∷ hs) d
gives_long c lump at t b hs d (to_end clean o) e rest =
    let u : refusing 2 ≡ used_up = sym e ∙ ap (λ (x : Outcome). x.says) o in
    let z : ◌≡◌ {A = ℕ} 0 1 = cc in
    absurd (omega arith)
gives_long c lump at t b hs d (to_line l h f small o) e rest =
    let u : refusing 2 ≡ line_of (length l) = sym e ∙ ap (λ (x : Outcome). x.says) o in
    let z : ◌≡◌ {A = ℕ} 0 1 = cc in
    absurd (omega arith)
gives_long c lump at t b hs d (to_long h f o) e rest =
    let went : Gives empty lump (at + before (drop at lump) + 1) t hs d = rw o at (rest (rw o possible_empty)) in
    one_more c lump at t too_long_def hs d h f went

-- a caller's steps through a lump, and through lumps one after the other
steps_give : (c : Collector) (lump : List ℕ) (at : ℕ) (t : List ℕ) (hs : List Handed) (d : Collector) → Possible c → length lump ≤ longest_lump
    → Steps c lump at hs d → Gives c lump at t hs d
steps_give c lump at t hs d p short (over b size e) = gives_over c lump at t b p (stepping c lump at b p short) e
steps_give c lump at t hs d p short (lined {hs = ks} b n size e rest) =
    gives_line c lump at t b n ks d size (stepping c lump at b p short) e
    (λ q. steps_give (collect c lump at b).collector lump (collect c lump at b).place t ks d q short rest)
steps_give c lump at t hs d p short (long {hs = ks} b size e rest) =
    gives_long c lump at t b ks d (stepping c lump at b p short) e
    (λ q. steps_give (collect c lump at b).collector lump (collect c lump at b).place t ks d q short rest)

-- the record after them is possible
pub steps_possible : (c : Collector) (lump : List ℕ) (at : ℕ) (hs : List Handed) (d : Collector) → Possible c → length lump ≤ longest_lump
    → Steps c lump at hs d → Possible d
steps_possible c lump at hs d p short steps = (steps_give c lump at [] hs d p short steps).1

pub lumps_give : LumpsGive
unfolding joined front
lumps_give c [] hs d p none = rw (stream_none c (formed c p).1) (refl, refl)
lumps_give c (lump ∷ lumps) hs d p (next {d = m} {hs = hs1} {ks = ks} short steps rest) =
    let here : Gives c lump 0 (joined lumps) hs1 m = steps_give c lump 0 (joined lumps) hs1 m p short steps in
    let after = lumps_give m lumps ks d here.1 rest in
    rw (here.0, after.0, after.1) (refl, refl)

pub lumps_agree : LumpsAgree
lumps_agree c ls ms hs ks d e p same first second =
    let a = lumps_give c ls hs d p first in
    let b = lumps_give c ms ks e p second in
    (a.0 ∙ ap (λ (s : List ℕ). (stream c s).handed) same ∙ sym b.0, a.1 ∙ ap (λ (s : List ℕ). (stream c s).collector) same ∙ sym b.1)

-- a lent array
abbrev lent : List ℕ
lent = replicate longest 0

-- what the bytes from a place of a lump on give: where they have no 0A, and where they have one
ends_clean : (c : Collector) (s : List ℕ) → Possible c → before s ≡ length s → stream c s ≡ record { handed = []; collector = longer c s }
ends_clean c s p clean =
    ap (λ (l : List ℕ). stream c l) (sym (append-nil s))
    ∙ stream_clean c s [] (formed c p) clean
    ∙ stream_none (longer c s) (formed (longer c s) (possible_longer c s p clean)).1

ends_line : (c : Collector) (lump : List ℕ) (at : ℕ) (h : Handed) → before (drop at lump) < length (drop at lump)
    → ended c (take (before (drop at lump)) (drop at lump)) ≡ h
    → stream c (drop at lump) ≡ handing h (stream empty (drop (at + before (drop at lump) + 1) lump))
ends_line c lump at h there e =
    ap (λ (l : List ℕ). stream c l) (sym (append-nil (drop at lump)))
    ∙ stream_on c lump at [] there
    ∙ rw (e, append-nil (drop (at + before (drop at lump) + 1) lump))

-- the steps that a stream from a place of a lump on asks for
abbrev Ends : Collector → List ℕ → ℕ → Type 0
Ends c lump at = Steps c lump at (stream c (drop at lump)).handed (stream c (drop at lump)).collector

-- there are such from a place on where there are from behind the next 0A on
end_step : (c : Collector) (lump : List ℕ) (at : ℕ) → Possible c → Stepping c lump at lent
    → (before (drop at lump) < length (drop at lump) → Ends empty lump (at + before (drop at lump) + 1)) → Ends c lump at
unfolding handing
end_step c lump at p (to_end clean o) rest =
    let v : Steps c lump at [] (longer c (drop at lump)) = rw o at (over {c = c} {lump = lump} {at = at} lent refl (rw o refl)) in
    rw (ends_clean c (drop at lump) p clean) v
end_step c lump at p (to_line l h f small o) rest =
    let bytes : take (length l) (pasted lent 0 l) ≡ l
    = ap (λ (k : ℕ). take k (pasted lent 0 l)) (sym (zero-add (length l))) ∙ pasted_take lent 0 l (omega (arith, small.1)) in
    let r = stream empty (drop (at + before (drop at lump) + 1) lump) in
    let went : Steps (collect c lump at lent).collector lump (collect c lump at lent).place r.handed r.collector = rw o (rest h) in
    rw (ends_line c lump at (line l) h f, ← bytes) (rw o at (lined {c = c} {lump = lump} {at = at} lent (length l) refl (rw o refl) went))
end_step c lump at p (to_long h f o) rest =
    let r = stream empty (drop (at + before (drop at lump) + 1) lump) in
    let went : Steps (collect c lump at lent).collector lump (collect c lump at lent).place r.handed r.collector = rw o (rest h) in
    rw (ends_line c lump at too_long_def h f) (long {c = c} {lump = lump} {at = at} lent refl (rw o refl) went)

steps_end : (n : ℕ) (c : Collector) (lump : List ℕ) (at : ℕ) → Possible c → length lump ≤ longest_lump → length (drop at lump) ≤ n → Ends c lump at
steps_end zero c lump at p short enough =
    end_step c lump at p (stepping c lump at lent p short) (λ there. absurd (omega (arith, there, enough)))
steps_end (suc n) c lump at p short enough =
    end_step c lump at p (stepping c lump at lent p short)
    (λ there. steps_end n empty lump (at + before (drop at lump) + 1) possible_empty short
    (rw length-drop (omega (arith, there, enough, length-drop at lump))))

pub lumps_end : LumpsEnd
unfolding joined front
lumps_end c [] p short_none = rw (stream_none c (formed c p).1) none
lumps_end c (lump ∷ lumps) p (short_next small rest) =
    let steps : Ends c lump 0 = steps_end (length lump) c lump 0 p small (omega arith) in
    let here : Gives c lump 0 (joined lumps) (stream c lump).handed (stream c lump).collector
    = steps_give c lump 0 (joined lumps) (stream c lump).handed (stream c lump).collector p small steps in
    let after = lumps_end (stream c lump).collector lumps here.1 rest in
    rw here.0 (next small steps after)
