-- What is written in two steps is the two joined.
-- Assumes nothing.
use mathlib.Core.Path.{◌≡◌, ap, ◌∙◌}
use mathlib.Core.List.{List, ◌++◌}
use Prim.Native.Nat.{ℕ}
use native.Mathlib.Omega.{arith}
use lib.ListN.{length, length-append}
use Rattle.laws.proofs.Lists.{pasted_twice, pasted_length}
use Rattle.writer.specs.declared.Writer.{Writer}
use Rattle.writer.specs.Writer.{HasRoom, Wrote}

-- a buffer that is written to keeps its length
pub wrote_length : (a b : Writer) (x : List ℕ) → HasRoom a x → Wrote a b x → length b.buf.now ≡ length a.buf.now
wrote_length a b x r w = ap length w.written ∙ pasted_length a.buf.now a.at x r

-- room for two is room for the first, and for the second after it
pub room_first : (a : Writer) (x y : List ℕ) → HasRoom a (x ++ y) → HasRoom a x
room_first a x y r = omega (arith, r, length-append x y)

pub room_second : (a b : Writer) (x y : List ℕ) → HasRoom a (x ++ y) → Wrote a b x → HasRoom b y
room_second a b x y r w = omega (arith, r, w.place, length-append x y, wrote_length a b x (room_first a x y r) w)

-- the two joined
pub wrote_twice : (a b c : Writer) (x y : List ℕ) → HasRoom a (x ++ y) → Wrote a b x → Wrote b c y → Wrote a c (x ++ y)
wrote_twice a b c x y r u v =
    record {
      same_buffer = v.same_buffer ∙ u.same_buffer;
      place = omega (arith, u.place, v.place, length-append x y);
      written = v.written ∙ rw (u.written, u.place) (pasted_twice a.buf.now a.at x y (room_first a x y r));
    }
