-- The reply reader: "A reply is well formed with op 1 or 3, any flags, the right length, and a map by the rules above, known keys "rc" and
-- "off" (unsigned, at most 4,294,967,295) and "r" (text). Its reader gives the header fields, rc, and "off" and the place and length of "r"'s
-- text where present." "A host reply without "rc" counts as rc 0."
-- Assumes nothing.
use Rattle.std.specs.Prelude.{ℕ, Bool, not, List, eqb, Option, Some, None, Result, Ok, Err}
use Rattle.laws.specs.declared.Run.{Run}
use Rattle.laws.specs.Choice.{pick, both}
use Rattle.refusal.specs.declared.Refusal.{Refusal}
use Rattle.refusal.specs.Number.{number_of}
use Rattle.fields.specs.declared.Kind.{Kind}
use Rattle.fields.specs.declared.Key.{Key}
use Rattle.fields.specs.declared.Fields.{Fields}
use Rattle.fields.specs.Fields.{number_in_def, run_in_def}
use Rattle.map.specs.Walk.{map_from_def}
use Rattle.rules.specs.Plan.{above, largest}
use Rattle.smp.specs.Packet.{header_in_def, sized}
use Rattle.replies.specs.declared.Reply.{Reply}

-- what the reader says, in the paper's terms: the reply's values, or the refusal of this number
pub data Said : Type 0 where
  reply : Reply → Said
  refused : ℕ → Said

-- each answer's meaning
abbrev pub said : Result Reply Refusal → Said
said (Ok r) = reply r
said (Err r) = refused (number_of r)

-- a number that may be absent, or 0
unfoldable pub or_zero : Option ℕ → ℕ
or_zero None = 0
or_zero (Some n) = n

-- the values of a reply with this return code, offset and text
abbrev pub reply_with_def : List ℕ → Option ℕ → Option ℕ → Option Run → Reply
reply_with_def s rc off text = record { header = header_in_def s; rc = or_zero rc; off = off; text = text }

-- a reply's values, from its map's fields
unfoldable pub values_of : List ℕ → Fields → Said
values_of s f =
    pick (above largest (number_in_def f Key.Rc)) (refused 10)
    (pick (above largest (number_in_def f Key.Off)) (refused 10)
    (reply (reply_with_def s (number_in_def f Key.Rc) (number_in_def f Key.Off) (run_in_def f Key.Text))))

-- a reply's values, where its map is well formed
unfoldable pub map_read : List ℕ → Option Fields → Said
map_read s None = refused 10
map_read s (Some f) = values_of s f

-- a packet is of a reply's kind: the right length, and op 1 or 3
unfoldable pub is_reply_def : List ℕ → Bool
is_reply_def s = both (sized s) (not (both (not (eqb (header_in_def s).op 1)) (not (eqb (header_in_def s).op 3))))

-- a packet read as a reply
unfoldable pub read_reply_def : List ℕ → Said
read_reply_def s = pick (is_reply_def s) (map_read s (map_from_def Kind.Reply s 8)) (refused 10)
