-- Only proofs need this file: what the functions promise each other, what the reader's record and buffer stand for in the middle of a packet, and what becomes of a packet's bytes. Here u is the
-- list of all body and CRC bytes that have come since total, and q is the packet buffer as it was at the packet's start.
-- Assumes nothing.
use Rattle.std.specs.Prelude.{◌≡◌, ℕ, ◌+◌, ◌-◌, ◌<◌, true, false, List, ◌++◌, ltb, eqb, length, get_or, take, drop}
use Rattle.laws.specs.Choice.{pick}
use Rattle.laws.specs.Bytes.{pasted, be16, of_be16}
use Rattle.crc.specs.Crc.{crc_of_def}
use Rattle.reader.specs.declared.Reader.{Reader}
use Rattle.reader.specs.declared.Reader.TheVariants.{Idle, Open}
use Rattle.refusal.specs.declared.Refusal.{Refusal}
use Rattle.refusal.specs.Number.{number_of}
use Rattle.reader.specs.declared.Taken.{Taken}
use Rattle.reader.specs.Reader.{more, body, Outcome, outcome, dropping, take_line_def}
use Rattle.sender.specs.Sender.{frame_count_def, frame_of, sendable}

-- body and CRC as our sender frames them, all that follows total
abbrev pub after_total : List ℕ → List ℕ
after_total s = s ++ be16 (crc_of_def s)

-- the first CRC byte where only the last is missing, else 0
unfoldable pub first_of : ℕ → List ℕ → ℕ
first_of total u = pick (eqb (length u + 1) total) (get_or u (total - 2) 0) 0

-- the record of a packet of which u has come
abbrev pub standing : ℕ → List ℕ → Reader
standing total u = Open total (length u) (first_of total u)

-- the packet buffer when u has come: the body's part of u, and what stood behind it
unfoldable pub holding : ℕ → List ℕ → List ℕ → List ℕ
holding total u q = pasted q 0 (take (total - 2) u)

-- as many bytes as total says have come, and the CRC is compared: a body, or refusal 9, which leaves p, the buffer at this call
unfoldable pub closed : ℕ → List ℕ → List ℕ → List ℕ → Outcome
closed total u q p =
    pick (eqb (of_be16 (drop (total - 2) u)) (crc_of_def (take (total - 2) u)))
    (record { says = body (total - 2); reader = Idle; buffer = holding total u q })
    (dropping 9 p)

-- what becomes of u, from u alone: refusal 7, refusal 8, more is wanted, or all has come; the refusals leave p, the buffer at this call
unfoldable pub whole : ℕ → List ℕ → List ℕ → List ℕ → Outcome
whole total u q p =
    pick (ltb (length p) (total - 2)) (dropping 7 p)
    (pick (ltb total (length u)) (dropping 8 p)
    (pick (ltb (length u) total)
    (record { says = more; reader = standing total u; buffer = holding total u q })
    (closed total u q p)))

-- frame k of s was sent and its line taken: what the reader gave, how many frames s takes, and the packet and line buffers, before and after
pub record Went (s : List ℕ) (k : ℕ) (r : Reader) (p out : List ℕ) (t : Taken) (count : ℕ) (p' out' : List ℕ) : Type 0 where
  pub can : sendable (length s) (length out) ≡ true
  pub below : k < frame_count_def (length s)
  pub counted : count ≡ frame_count_def (length s)
  pub packet : outcome t p' ≡ take_line_def r (frame_of s k) p
  pub line : out' ≡ pasted out 0 (frame_of s k)

-- a frame of s, of those that there are, was refused: s can't be sent, and both buffers are as they were
pub record Stayed (s p out : List ℕ) (e : Refusal) (p' out' : List ℕ) : Type 0 where
  pub cannot : sendable (length s) (length out) ≡ false
  pub number : number_of e ≡ 12
  pub packet : p' ≡ p
  pub line : out' ≡ out
