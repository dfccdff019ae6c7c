-- `images::find_hash` meets its contract: each turn takes one entry, and what is still to come settles the rest.
-- Assumes nothing.
use mathlib.Core.Path.{◌≡◌, sym, ◌∙◌}
use mathlib.Core.List.{List}
use Prim.Native.Nat.{ℕ, ◌+◌, ◌-◌, ◌≤◌}
use native.Mathlib.Omega.{arith}
use Rattle.std.specs.Prelude.{Option}
use Rattle.images.specs.Image.{Entry, entry_at, followed}
use Rattle.images.proofs.Laws.{entries_cut, entries_long, Came, came_none, came_more, came_over, came_bad, came_end}
use Rattle.images.proofs.Laws.{settled, settled_other, settled_first, settled_size, settled_second}
use Rattle.images.proofs.find_hash.Goals.{then-size-ne32-via-then-size-ne32, then-size-ne32-via-else-size-ne32+then-is_some}
use Rattle.images.proofs.find_hash.Goals.{then-kind-eq16+else-size-ne32+else-is_some, else-kind-eq16}
use Rattle.images.proofs.find_hash.Goals as goal

pub loop-at-init : goal.loop-at-init
loop-at-init c =
    let a = c.args in
    record { in_order = c.requires.0; came = came_none a.s.now a.area.start a.area.stop }

pub returns-then-area-at-lt4 : goal.returns-then-area-at-lt4
returns-then-area-at-lt4 c =
    let a = c.args in
    let l = c.loop-at in
    came_bad a.s.now a.area.start a.area.stop l.at l.hash l.invariant.came
    (entries_cut a.s.now a.area.stop l.invariant.came.left l.at c.loop-at-test.true c.if-area-at-lt4.true)

pub returns-then-area-place : goal.returns-then-area-place
returns-then-area-place c =
    let a = c.args in
    let l = c.loop-at in
    came_bad a.s.now a.area.start a.area.stop l.at l.hash l.invariant.came
    (entries_long a.s.now a.area.stop l.invariant.came.left l.at c.loop-at-test.true c.if-area-at-lt4.false
    (omega (arith, c.if-area-place.true, c.le16-size.ensures.0)))

pub returns-then-size-ne32 : goal.returns-then-size-ne32
returns-then-size-ne32 c =
    let a = c.args in
    let l = c.loop-at in
    let e = entry_at a.s.now l.at in
    let room : e.size ≤ a.area.stop - (l.at + 4) = omega (arith, c.if-area-place.false, c.le16-size.ensures.0) in
    let kind : e.kind ≡ 0x10 = omega (arith, c.if-kind-eq16.true, c.le16-kind.ensures.0) in
    came_over a.s.now a.area.start a.area.stop l.at l.hash l.invariant.came c.loop-at-test.true c.if-area-at-lt4.false room
    (elim c.then-size-ne32.branch [
      | then-size-ne32-via-then-size-ne32 w ↦
          λ rest. settled_size l.hash e rest kind (omega (arith, w.if-size-ne32.true, c.le16-size.ensures.0))
      | then-size-ne32-via-else-size-ne32+then-is_some w ↦
          λ rest. settled_second l.hash e rest (sym w.is_some.ensures ∙ w.if-is_some.true) kind
    ])

pub loop-at-preserved : goal.loop-at-preserved
loop-at-preserved c =
    let a = c.args in
    let l = c.loop-at in
    let s = a.s.now in
    let e = entry_at s l.at in
    let size = c.le16-size in
    let room : e.size ≤ a.area.stop - (l.at + 4) = omega (arith, c.if-area-place.false, size.ensures.0) in
    let more : (g : Option ℕ)
    → ((rest : Option (List Entry)) → settled l.hash (followed e rest) ≡ settled g rest)
    → Came s a.area.start a.area.stop (l.at + 4 + size.result) g =
    λ g step. rw size.ensures.0 (came_more s a.area.start a.area.stop l.at l.hash g l.invariant.came c.loop-at-test.true c.if-area-at-lt4.false room step) in
    record {
      in_order = omega (arith, c.if-area-place.false);
      came = more c.if-kind-eq16.hash
          (elim c.if-kind-eq16.branch [
            | then-kind-eq16+else-size-ne32+else-is_some w ↦
                λ rest. rw w.hash-is (settled_first l.hash e rest (sym w.is_some.ensures ∙ w.if-is_some.false)
                (omega (arith, w.if-kind-eq16.true, c.le16-kind.ensures.0)) (omega (arith, w.if-size-ne32.false, c.le16-size.ensures.0)))
            | else-kind-eq16 w ↦ λ rest. rw w.hash-is (settled_other l.hash e rest (omega (arith, w.if-kind-eq16.false, c.le16-kind.ensures.0)))
          ]);
    }

pub returns : goal.returns
returns c =
    let a = c.args in
    let l = c.loop-at in
    came_end a.s.now a.area.start a.area.stop l.at l.hash l.invariant.came (omega (arith, l.invariant.in_order, c.loop-at-test.false))
