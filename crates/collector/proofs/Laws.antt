-- What the collector's definitions give on each way of their tests.
-- Assumes nothing.
use mathlib.Core.Path.{◌≡◌, refl, sym, ap, ap₂, ◌∙◌}
use Prim.Native.Nat.{ℕ, ◌+◌, ◌-◌, ◌≤◌, ◌<◌, min}
use native.Mathlib.Nat.{zero-add, add-zero}
use native.Mathlib.Omega.{arith}
use mathlib.Core.Bool.{Bool, true, false, false≢true}
use mathlib.Core.List.{List, [], ◌∷◌, ◌++◌, append_assoc}
use lib.Dec.{eqb}
use native.Mathlib.Decide.{dec_le}
use borrow.Author.Tests.{lt-ltb, le-ltb}
use lib.ListN.{length, take, drop, set, length-append, length-take, length-drop}
use Rattle.collector.specs.Search.{index_after, index_of}
use Rattle.laws.specs.Bytes.{pasted}
use Rattle.laws.proofs.Choice.{pick_yes, pick_no}
use Rattle.laws.proofs.Lists.{pasted_none, pasted_length, pasted_twice, set_pasted}
use Rattle.frame.specs.Line.{longest, newline}
use Rattle.collector.specs.declared.Collector.{Collector}
use Rattle.collector.specs.Collector.{
  most,
  longest_lump,
  before,
  has_newline,
  held_of,
  impossible,
  empty,
  skips,
  longer,
  line,
  too_long_def,
  ended,
  Said,
  line_of,
  used_up,
  refusing,
  saying,
  keeping,
  stepped,
  collect,
}

-- more bytes of a line: while it skips, beyond 126 bytes, and up to them
pub longer_skipping : (c : Collector) (x : List ℕ) → c.skipping ≡ true → longer c x ≡ c
unfolding longer
longer_skipping c x e = rw (e, pick_yes)

pub longer_over : (c : Collector) (x : List ℕ) → c.skipping ≡ false → most < c.count + length x → longer c x ≡ skips
unfolding longer
longer_over c x e h = rw (e, pick_no, lt-ltb most (c.count + length x) h, pick_yes)

pub longer_held : (c : Collector) (x : List ℕ) → c.skipping ≡ false → c.count + length x ≤ most
    → longer c x ≡ record { held = pasted c.held c.count x; count = c.count + length x; skipping = false }
unfolding longer
longer_held c x e h = rw (e, pick_no, le-ltb most (c.count + length x) h, pick_no)

-- nothing more changes nothing
pub longer_none : (c : Collector) → c.count ≤ most → longer c [] ≡ c
longer_none c h = by-test c.skipping refl
  where
    by-test : (b : Bool) → c.skipping ≡ b → longer c [] ≡ c
    by-test true e = longer_skipping c [] e
    by-test false e =
        longer_held c [] e (rw add-zero h)
        ∙ ap₂ (λ (l : List ℕ) (n : ℕ). record { held = l; count = n; skipping = false }) (pasted_none c.held c.count) (add-zero c.count)
        ∙ ap (λ (s : Bool). record { held = c.held; count = c.count; skipping = s }) (sym e)

-- the end of a line: while it skips, beyond 126 bytes, and up to them
pub ended_skipping : (c : Collector) (x : List ℕ) → c.skipping ≡ true → ended c x ≡ too_long_def
unfolding ended
ended_skipping c x e = rw (e, pick_yes)

pub ended_over : (c : Collector) (x : List ℕ) → c.skipping ≡ false → most < c.count + length x → ended c x ≡ too_long_def
unfolding ended
ended_over c x e h = rw (e, pick_no, lt-ltb most (c.count + length x) h, pick_yes)

pub ended_line : (c : Collector) (x : List ℕ) → c.skipping ≡ false → c.count + length x ≤ most
    → ended c x ≡ line (held_of c ++ (x ++ (newline ∷ [])))
unfolding ended
ended_line c x e h = rw (e, pick_no, le-ltb most (c.count + length x) h, pick_no)

-- how many bytes a record holds
pub held_length : (c : Collector) → length c.held ≡ most → c.count ≤ most → length (held_of c) ≡ c.count
held_length c l h = simp (length-take, l) (omega arith)

-- a line that is too long is said as refusal 2, and leaves the array
pub saying_skipping : (c : Collector) (x b : List ℕ) → c.skipping ≡ true → (refusing 2, b) ≡ saying (ended c x) b
unfolding saying
saying_skipping c x b e = rw (ended_skipping c x e)

pub saying_over : (c : Collector) (x b : List ℕ) → c.skipping ≡ false → most < c.count + length x → (refusing 2, b) ≡ saying (ended c x) b
unfolding saying
saying_over c x b e h = rw (ended_over c x e h)

-- held bytes and bytes of the lump, written one after the other into the lent array, stand at its start
pub line_begun : (c : Collector) (x b p q : List ℕ) → length c.held ≡ most → length b ≡ longest → c.count + length x ≤ most
    → p ≡ pasted b 0 (held_of c) → q ≡ pasted p c.count x
    → (q ≡ pasted b 0 (held_of c ++ x)) × (length q ≡ longest)
line_begun c x b p q l lb room ep eq =
    let n : length (held_of c) ≡ c.count = held_length c l (omega arith) in
    let joined : q ≡ pasted b 0 (held_of c ++ x)
    = eq
    ∙ ap₂ (λ (l : List ℕ) (k : ℕ). pasted l k x) ep (sym (zero-add (length (held_of c)) ∙ n))
    ∙ pasted_twice b 0 (held_of c) x (rw (n, lb) (omega arith)) in
    let m : length (held_of c ++ x) ≡ c.count + length x = rw (length-append, n) in
    (joined, rw (joined, pasted_length b 0 (held_of c ++ x) (rw (m, lb) (omega arith))) lb)

-- with the 0A behind them they are the line that is handed on
pub saying_line : (c : Collector) (x b q : List ℕ) → length c.held ≡ most → length b ≡ longest → c.count + length x ≤ most → c.skipping ≡ false
    → (q ≡ pasted b 0 (held_of c ++ x)) × (length q ≡ longest)
    → (line_of (c.count + length x + 1), set q (c.count + length x) newline) ≡ saying (ended c x) b
unfolding saying
saying_line c x b q l lb room e (joined, lq) =
    let n : length (held_of c) ≡ c.count = held_length c l (omega arith) in
    let m : 0 + length (held_of c ++ x) ≡ c.count + length x = rw (zero-add, length-append, n) in
    let whole : set q (c.count + length x) newline ≡ pasted b 0 (held_of c ++ (x ++ (newline ∷ [])))
    = set_pasted q (c.count + length x) newline (rw lq (omega arith))
    ∙ ap₂ (λ (l : List ℕ) (k : ℕ). pasted l k (newline ∷ [])) joined (sym m)
    ∙ pasted_twice b 0 (held_of c ++ x) (newline ∷ []) (rw (m, lb) (omega arith))
    ∙ ap (λ (l : List ℕ). pasted b 0 l) (append_assoc (held_of c) x (newline ∷ [])) in
    let size : c.count + length x + 1 ≡ length (held_of c ++ (x ++ (newline ∷ []))) = rw (length-append, length-append, n) (omega arith) in
    rw (ended_line c x e room, ← size, whole)

-- the first 0A is found within the bytes
pub before_le : (s : List ℕ) → before s ≤ length s
unfolding index_of index_after
before_le [] = omega arith
before_le (b ∷ s) = by-test (eqb b newline) (before_le s)
  where
    by-test : (t : Bool) → before s ≤ length s → index_after t (before s) ≤ length (b ∷ s)
    by-test true h = omega arith
    by-test false h = omega (arith, h)

-- an 0A among the held bytes is what makes a record impossible that holds no more bytes than it may
pub impossible_held : (c : Collector) → c.count ≤ most → has_newline (held_of c) ≡ impossible c
unfolding impossible
impossible_held c h = rw (le-ltb most c.count h, pick_no)

pub impossible_over : (c : Collector) → most < c.count → true ≡ impossible c
unfolding impossible
impossible_over c h = rw (lt-ltb most c.count h, pick_yes)

-- what is known of a record that is not impossible
pub possible_count : (c : Collector) → impossible c ≡ false → c.count ≤ most
unfolding impossible
possible_count c e = elim (dec_le c.count most) [
  | yes h ↦ h
  | no h ↦ absurd (false≢true (sym e ∙ rw (lt-ltb most c.count (omega (arith, h)), pick_yes)))
]

-- the refusals 1 and 12, and a step between them
pub collect_impossible : (c : Collector) (lump : List ℕ) (at : ℕ) (b : List ℕ) → impossible c ≡ true → collect c lump at b ≡ keeping 1 c at b
unfolding collect
collect_impossible c lump at b e = rw (e, pick_yes)

pub collect_long : (c : Collector) (lump : List ℕ) (at : ℕ) (b : List ℕ) → impossible c ≡ false → longest_lump < length lump
    → collect c lump at b ≡ keeping 12 c at b
unfolding collect
collect_long c lump at b e h = rw (e, pick_no, lt-ltb longest_lump (length lump) h, pick_yes)

pub collect_steps : (c : Collector) (lump : List ℕ) (at : ℕ) (b : List ℕ) → impossible c ≡ false → length lump ≤ longest_lump
    → collect c lump at b ≡ stepped c (length lump) at (drop at lump) b
unfolding collect
collect_steps c lump at b e h = rw (e, pick_no, le-ltb longest_lump (length lump) h, pick_no)

-- a step to the lump's end, and one to an 0A
pub stepped_rest : (c : Collector) (size at : ℕ) (s b : List ℕ) → has_newline s ≡ false
    → stepped c size at s b ≡ record { says = used_up; place = size; collector = longer c s; buffer = b }
unfolding stepped
stepped_rest c size at s b e = rw (e, pick_no)

pub stepped_line : (c : Collector) (size at : ℕ) (s b : List ℕ) → has_newline s ≡ true
    → stepped c size at s b ≡ record {
      says = (saying (ended c (take (before s) s)) b).0;
      place = at + before s + 1;
      collector = empty;
      buffer = (saying (ended c (take (before s) s)) b).1;
    }
unfolding stepped
stepped_line c size at s b e = rw (e, pick_yes)

-- a step that finds no 0A, and one that finds it behind n bytes
pub step_rest : (c : Collector) (lump : List ℕ) (at : ℕ) (b x : List ℕ) (next : Collector)
    → x ≡ drop at lump → has_newline x ≡ false → next ≡ longer c x
    → record { says = used_up; place = length lump; collector = next; buffer = b } ≡ stepped c (length lump) at (drop at lump) b
step_rest c lump at b x next e none en = rw (en, e, stepped_rest c (length lump) at (drop at lump) b (rw e at none))

pub step_line : (c : Collector) (lump : List ℕ) (at from : ℕ) (b x : List ℕ) (n : ℕ) (says : Said) (buffer : List ℕ) (next : Collector)
    → from ≡ min at (length lump) → x ≡ drop at lump → n ≡ before x → n < length x
    → (says, buffer) ≡ saying (ended c (take n x)) b → next ≡ empty
    → record { says = says; place = from + n + 1; collector = next; buffer = buffer } ≡ stepped c (length lump) at (drop at lump) b
step_line c lump at from b x n says buffer next m e f inside es en =
    let there : has_newline (drop at lump) ≡ true = rw e at (lt-ltb (before x) (length x) (omega (arith, f, inside))) in
    let within : length (drop at lump) ≡ length lump - at = length-drop at lump in
    let low : from ≡ at = omega (arith, m, inside, within, ap length e) in
    let k : n ≡ before (drop at lump) = rw e at f in
    let es2 : (says, buffer) ≡ saying (ended c (take (before (drop at lump)) (drop at lump))) b = rw (← k, ← e) es in
    rw (stepped_line c (length lump) at (drop at lump) b there, en, ← es2, low, k)
