-- The text of a reply, for a caller in C: it lies inside the packet that was read.
-- Assumes nothing.
use Rattle.std.specs.Prelude.{◌≡◌, List, ℕ, ◌+◌, ◌≤◌, length, get_or}
use Rattle.packet_calls.specs.Calls.{read_c}

-- where bg_read_reply returns 0, the text's start and length, the last two of its numbers, name a part of the packet
abbrev pub TextInside : Type 0
TextInside = (p was : List ℕ) → (read_c p was).result ≡ 0 → get_or (read_c p was).reply 10 0 + get_or (read_c p was).reply 11 0 ≤ length p
