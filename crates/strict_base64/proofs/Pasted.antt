-- What the decoder and the encoder share of lent buffers: bytes at the start, and more where they end.
-- Assumes nothing.
use mathlib.Core.Path.{◌≡◌}
use Prim.Native.Nat.{ℕ, ◌+◌, ◌-◌, ◌≤◌}
use native.Mathlib.Omega.{arith}
use mathlib.Core.List.{List, ◌++◌}
use lib.ListN.{length, take, drop}
use Rattle.laws.specs.Bytes.{pasted}
use Rattle.laws.proofs.Lists.{pasted_twice}

-- the part of a list from i on, as a slice of it is
abbrev pub from_on : ℕ → List ℕ → List ℕ
from_on i s = take (length s - i) (drop i s)

-- a list whose part from i on is now e
abbrev pub part_now : ℕ → List ℕ → List ℕ → List ℕ
part_now i s e = take i s ++ (e ++ drop (length s - i) (drop i s))

-- bytes pasted at the start, and more where they end
pub pasted_next : (m x y : List ℕ) (o : ℕ) → length x ≡ o → o ≤ length m → pasted (pasted m 0 x) o y ≡ pasted m 0 (x ++ y)
pasted_next m x y o e h =
    let z : 0 + length x ≡ o = omega arith in
    rw z at (pasted_twice m 0 x y (omega arith))
