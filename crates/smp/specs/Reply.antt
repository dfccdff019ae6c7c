-- Replies: what each says, and its form.
-- Assumes nothing.
use Prim.{Unit}
use Rattle.std.specs.Prelude.{ℕ, ◌+◌, ◌≤◌, ◌<◌, List, ◌++◌, ltb, length}
use Rattle.laws.specs.Choice.{pick}
use Rattle.laws.specs.Parts.{part_of}
use Rattle.reason.specs.declared.Reason.{Reason}
use Rattle.reason.specs.Rc.{rc_of_def}
use Rattle.cbor.specs.Write.{unsigned, text_of, map_of}
use Rattle.fields.specs.Keys.{name_r, name_rc, name_off}
use Rattle.smp.specs.declared.Header.{Header}
use Rattle.smp.specs.declared.Reply.{Reply}
use Rattle.smp.specs.Packet.{header_bytes}

-- {"rc": n}
abbrev pub rc_map : ℕ → List ℕ
rc_map n = map_of 1 ++ (text_of name_rc ++ unsigned n)

-- a reply's map: {"rc": n}, n the reason's rc or 0; {"rc": 0, "off": n}; {"r": text}, the text a part of the request s
unfoldable pub reply_map : List ℕ → Reply → List ℕ
reply_map s (Reply.Refused why) = rc_map (rc_of_def why)
reply_map s Reply.Done = rc_map 0
reply_map s (Reply.Placed n) = map_of 2 ++ (text_of name_rc ++ (unsigned 0 ++ (text_of name_off ++ unsigned n)))
reply_map s (Reply.Text r) = map_of 1 ++ (text_of name_r ++ text_of (part_of s r.start r.len))

-- "the reply has op plus 1, flags 0, and the same group, sequence and command"
abbrev pub reply_header_def : Header → ℕ → Header
reply_header_def h n = record { op = h.op + 1; flags = 0; length = n; group = h.group; sequence = h.sequence; command = h.command }

-- a reply with this map to a request with this header
unfoldable pub reply_packet : Header → List ℕ → List ℕ
reply_packet h m = header_bytes (reply_header_def h (length m)) ++ m

-- the reply that goes into a buffer of this many bytes, where its map is m: "An echo reply longer than its buffer becomes rc 7", "a list that
-- doesn't fit rc 7"
unfoldable pub reply_bytes : Header → List ℕ → ℕ → List ℕ
reply_bytes h m room = pick (ltb room (8 + length m)) (reply_packet h (rc_map (rc_of_def Reason.ReplyTooLong))) (reply_packet h m)

-- a reply can be said of a request s: an offset is below 2^32, and a text lies inside s, which is no longer than a packet may be
abbrev pub Sayable : List ℕ → Reply → Type 0
Sayable s (Reply.Refused why) = Unit {0}
Sayable s Reply.Done = Unit {0}
Sayable s (Reply.Placed n) = n < 4294967296
Sayable s (Reply.Text r) = (r.start + r.len ≤ length s) × (length s ≤ 65533)
