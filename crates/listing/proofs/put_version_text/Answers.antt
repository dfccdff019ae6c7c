-- `listing::put_version_text` meets its contract: two numbers with a point after each, and a third.
-- Assumes nothing.
use mathlib.Core.Path.{◌≡◌}
use mathlib.Core.List.{List, [], ◌∷◌, ◌++◌}
use Prim.Native.Nat.{ℕ}
use native.Mathlib.Omega.{arith}
use lib.ListN.{length, length-append}
use Rattle.writer.proofs.Steps.{room_first}
use Rattle.smp.proofs.Writing.{room_after, wrote_three}
use Rattle.listing.specs.Listing.{five}
use Rattle.listing.proofs.put_version_text.Goals as goal

-- a number with a byte after it
abbrev ended : ℕ → ℕ → List ℕ
ended n b = five n ++ (b ∷ [])

-- a number with a point after it
abbrev pointed : ℕ → List ℕ
pointed n = ended n 0x2E

-- a number with a point is as long as with any other byte
ended_length : (n b : ℕ) → length (pointed n) ≡ length (ended n b)
ended_length n b = omega (arith, length-append (five n) (0x2E ∷ []), length-append (five n) (b ∷ []))

pub put_ended-requires-2 : goal.put_ended-requires-2
put_ended-requires-2 c =
    let v = c.args.version in
    rw c.from-2.ensures
    (room_first c.put_ended.new.out (pointed v.minor) (five v.revision)
    (room_after _ _ (pointed v.major) _ (pointed v.minor ++ five v.revision) (ended_length v.major _) c.requires (rw c.from.ensures at c.put_ended.ensures)))

pub put_decimal-requires : goal.put_decimal-requires
put_decimal-requires c =
    let v = c.args.version in
    room_after _ _ (pointed v.minor) _ (five v.revision) (ended_length v.minor _)
    (room_after _ _ (pointed v.major) _ (pointed v.minor ++ five v.revision) (ended_length v.major _) c.requires (rw c.from.ensures at c.put_ended.ensures))
    (rw c.from-2.ensures at c.put_ended-2.ensures)

pub returns : goal.returns
returns c =
    let v = c.args.version in
    wrote_three _ _ (pointed v.major) (pointed v.minor) (five v.revision) c.requires (rw c.from.ensures at c.put_ended.ensures)
    _ _ (rw c.from-2.ensures at c.put_ended-2.ensures) c.put_decimal.ensures
