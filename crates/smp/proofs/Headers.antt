-- A packet's header: what was written is read back.
-- Assumes nothing.
use mathlib.Core.Path.{◌≡◌, refl, ap₂}
use mathlib.Core.Bool.{true}
use mathlib.Core.List.{List, ◌++◌}
use Prim.Native.Nat.{ℕ, ◌+◌, ◌*◌, ◌/◌, ◌%◌, ◌≤◌, ◌<◌}
use native.Mathlib.Omega.{arith}
use lib.ListN.{length, drop, length-append}
use borrow.Author.Tests.{le-leb, eq-eqb}
use Rattle.laws.specs.Bytes.{be16, of_be16}
use Rattle.laws.proofs.Choice.{both_yes}
use Rattle.smp.specs.declared.Header.{Header}
use Rattle.smp.specs.Packet.{header_in_def, sized, header_bytes}

-- a header is eight bytes
pub header_length : (h : Header) → length (header_bytes h) ≡ 8
unfolding header_bytes be16
header_length h = refl

-- a header written is read back
pub header_back : (h : Header) (m : List ℕ) → h.length < 65536 → h.group < 65536 → header_in_def (header_bytes h ++ m) ≡ h
unfolding header_bytes be16 of_be16
header_back h m l g =
    let a : h.length / 256 % 256 * 256 + h.length % 256 ≡ h.length = omega arith in
    let b : h.group / 256 % 256 * 256 + h.group % 256 ≡ h.group = omega arith in
    ap₂ (λ (x y : ℕ). record { op = h.op; flags = h.flags; length = x; group = y; sequence = h.sequence; command = h.command }) a b

-- the length that a header names
length_named : (h : Header) (m : List ℕ) → h.length < 65536 → of_be16 (drop 2 (header_bytes h ++ m)) ≡ h.length
unfolding header_bytes be16 of_be16
length_named h m l = omega arith

-- a packet whose header names the length of what follows has the right length
pub sized_back : (h : Header) (m : List ℕ) → h.length ≡ length m → length m ≤ 65525 → sized (header_bytes h ++ m) ≡ true
unfolding sized
sized_back h m e l =
    let n : length (header_bytes h ++ m) ≡ 8 + length m = rw (length-append, header_length h) in
    let p : of_be16 (drop 2 (header_bytes h ++ m)) ≡ h.length = length_named h m (omega arith) in
    simp (
      le-leb 8 (length (header_bytes h ++ m)) (omega arith),
      eq-eqb (length (header_bytes h ++ m)) (8 + of_be16 (drop 2 (header_bytes h ++ m))) (omega arith),
      le-leb (length (header_bytes h ++ m)) 65533 (omega arith),
      both_yes,
    )
