-- What the acts do to the memory, in the terms that the code leaves: a slot set to 255, data put at its place.
-- Assumes nothing.
use mathlib.Core.Path.{◌≡◌}
use mathlib.Core.List.{List, ◌++◌}
use Prim.Native.Nat.{ℕ, ◌+◌, ◌-◌, ◌≤◌}
use native.Mathlib.Omega.{arith}
use lib.ListN.{length, take, drop, replicate, length-drop, length-replicate}
use lib.Seq.{drop-drop, length-take-le}
use Rattle.laws.proofs.Lists.{pasted_is, pasted_length}
use Rattle.session.specs.declared.Slot.{Slot}
use Rattle.slot.specs.Act.{blank}

-- the slot's part set to 255, seen in the whole
pub cleared : (slot : Slot) (e : ℕ) (m ys : List ℕ) → e ≡ slot.start + slot.size → e ≤ length m
    → ys ≡ replicate (length (take (e - slot.start) (drop slot.start m))) 255
    → take slot.start m ++ (ys ++ drop (e - slot.start) (drop slot.start m)) ≡ blank slot m
unfolding blank
cleared slot e m ys at room filled =
    let w : e - slot.start ≡ slot.size = omega arith in
    let n : length (take slot.size (drop slot.start m)) ≡ slot.size =
    length-take-le slot.size (drop slot.start m) (simp length-drop (omega arith)) in
    rw (filled, w, n, pasted_is, length-replicate, drop-drop)

-- a memory with a blank slot is as long as before
pub blank_length : (slot : Slot) (m : List ℕ) → slot.start + slot.size ≤ length m → length (blank slot m) ≡ length m
unfolding blank
blank_length slot m h = pasted_length m slot.start (replicate slot.size 255) (simp length-replicate (omega arith))
