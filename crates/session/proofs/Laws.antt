-- The definitions of region and session by their tests, in the terms that the code leaves.
-- Assumes nothing.
use mathlib.Core.Path.{◌≡◌}
use mathlib.Core.Bool.{true, false}
use Prim.Native.Nat.{ℕ, ◌+◌, ◌≤◌, ◌<◌, min, max}
use native.Mathlib.Omega.{arith}
use borrow.Author.Tests.{le-leb, leb-true, ltb-true, ltb-false, not-true}
use Rattle.laws.proofs.Choice.{pick_yes, pick_no, pick_same, both_yes, both_true}
use Rattle.session.specs.declared.Slot.{Slot}
use Rattle.session.specs.declared.Layout.{Layout}
use Rattle.session.specs.declared.Session.{Session}
use Rattle.session.specs.Session.{region_ok, overlapping, layout_ok, OverlapIs, session_ok}

-- the bounds of a slot
pub record Region (slot : Slot) (m : ℕ) : Type 0 where
  pub some : 1 ≤ slot.size
  pub within : slot.size ≤ 1048576
  pub inside : slot.start + slot.size ≤ m

-- a possible slot is within them
pub region_bounds : (slot : Slot) (m : ℕ) → region_ok slot m ≡ true → Region slot m
unfolding region_ok
region_bounds slot m e =
    let a = both_true _ _ e in
    let b = both_true _ _ a.1 in
    record { some = leb-true _ _ a.0; within = leb-true _ _ b.0; inside = leb-true _ _ b.1 }

-- regions overlap just where a byte is in both
pub overlap_is : OverlapIs
unfolding overlapping
overlap_is a b = (
  λ e.
      let l : max a.start b.start < min (a.start + a.size) (b.start + b.size) = ltb-true _ _ e in
      (max a.start b.start, ((omega arith, omega arith), (omega arith, omega arith))),
  λ e i p q.
      let l : min (a.start + a.size) (b.start + b.size) ≤ max a.start b.start = ltb-false _ _ e in
      omega (arith, p.0, p.1, q.0, q.1),
)

-- what is known of two regions that are possible
pub record Regions (layout : Layout) (m : ℕ) : Type 0 where
  pub upload : region_ok layout.slot1 m ≡ true
  pub inside : layout.slot0.start + layout.slot0.size ≤ m
  pub apart : overlapping layout.slot0 layout.slot1 ≡ false

pub layout_bounds : (layout : Layout) (m : ℕ) → layout_ok layout m ≡ true → Regions layout m
unfolding layout_ok
layout_bounds layout m e =
    let a = both_true _ _ e in
    let b = both_true _ _ a.1 in
    record { upload = a.0; inside = leb-true _ _ b.0; apart = not-true _ b.1 }

-- the bounds of an open session
pub record Bounds (slot : Slot) (s : Session) : Type 0 where
  pub some : 1 ≤ s.length
  pub within : s.length ≤ slot.size
  pub begun : 1 ≤ s.place
  pub placed : s.place ≤ s.length

-- a possible open session is within them
pub session_bounds : (slot : Slot) (s : Session) → session_ok slot s ≡ true → s.running ≡ true → Bounds slot s
unfolding session_ok
session_bounds slot s e running =
    let inner = simp (running, pick_yes) at e in
    let a = both_true _ _ inner in
    let b = both_true _ _ a.1 in
    let d = both_true _ _ b.1 in
    record { some = leb-true _ _ a.0; within = leb-true _ _ b.0; begun = leb-true _ _ d.0; placed = leb-true _ _ d.1 }

-- a session within them is possible
pub session_is : (slot : Slot) (s : Session) → 1 ≤ s.length → s.length ≤ slot.size → 1 ≤ s.place → s.place ≤ s.length → session_ok slot s ≡ true
unfolding session_ok
session_is slot s h k l m = simp (le-leb _ _ h, le-leb _ _ k, le-leb _ _ l, le-leb _ _ m, both_yes, pick_same)

-- a closed session is possible
pub session_closed : (slot : Slot) (s : Session) → s.running ≡ false → session_ok slot s ≡ true
unfolding session_ok
session_closed slot s h = simp (h, pick_no)
