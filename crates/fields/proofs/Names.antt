-- Names as lists of bytes.
-- Assumes nothing.
use Rattle.std.proofs.Common.{◌≡◌, ℕ, true, List, length}
use Rattle.std.proofs.lemmas.Slice.Eq.{HasBytesAt, text_from_reads}
use Rattle.laws.specs.Bytes.{same}
use Rattle.laws.proofs.Lists.{same_refl}

-- a list whose bytes are those of another, one by one, is the same
pub same_read : (s t : List ℕ) → length s ≡ length t → HasBytesAt s 0 t → same s t ≡ true
same_read s t size bytes = rw (text_from_reads s t size bytes) (same_refl t)
