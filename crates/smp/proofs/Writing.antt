-- Writers one after the other, a header and its packet, and how long each reply is.
-- Assumes nothing.
use mathlib.Core.Path.{◌≡◌, refl, sym, ap, ap₂, ◌∙◌}
use mathlib.Core.Bool.{true, false, not}
use mathlib.Core.List.{List, [], ◌∷◌, ◌++◌, append_assoc}
use Prim.Native.Nat.{ℕ, suc, ◌+◌, ◌-◌, ◌≤◌, ◌<◌}
use native.Mathlib.Decide.{dec_le}
use native.Mathlib.Omega.{arith}
use lib.Dec.{ltb, leb, lit<}
use borrow.Author.Tests.{le-ltb, lt-ltb, le-leb, lt-leb}
use lib.ListN.{length, take, drop, length-append, length-take, length-drop}
use lib.Seq.{drop_at}
use Rattle.laws.specs.Bytes.{pasted, be16}
use Rattle.laws.proofs.Choice.{pick_yes, pick_no}
use Rattle.laws.proofs.Lists.{pasted_is, pasted_start, pasted_twice}
use Rattle.laws.specs.declared.Run.{Run}
use Rattle.writer.specs.declared.Writer.{Writer}
use Rattle.writer.specs.Writer.{HasRoom, Wrote}
use Rattle.writer.proofs.Steps.{room_first, room_second, wrote_twice}
use Rattle.cbor.specs.Write.{head_of, unsigned, text_of, map_of}
use Rattle.cbor.proofs.Laws.{head_size, head_length, head_long, len_one, len_four, form_tiny}
use Rattle.fields.specs.Keys.{name_rc, name_off}
use Rattle.smp.specs.declared.Header.{Header}
use Rattle.smp.specs.declared.Reply.{Reply}
use Rattle.smp.specs.Packet.{header_bytes}
use Rattle.reason.specs.declared.Reason.{Reason}
use Rattle.reason.specs.Rc.{rc_of_def}
use Rattle.reason.proofs.Byte.{rc_byte}
use Rattle.smp.specs.Reply.{rc_map, reply_map, reply_header_def, reply_packet, reply_bytes, Sayable}
use Rattle.smp.specs.Inner.{Starts, Written}
use Rattle.smp.proofs.Headers.{header_length}

-- what comes after a part has as much room after another part of that length
pub room_after : (w v : Writer) (x y z : List ℕ) → length x ≡ length y → HasRoom w (x ++ z) → Wrote w v y → HasRoom v z
room_after w v x y z same r e = room_second w v y z (omega (arith, r, same, length-append x z, length-append y z)) e

-- a third after two
module _ (a b : Writer) (x y z : List ℕ) (r : HasRoom a (x ++ (y ++ z))) (u : Wrote a b x) where
  -- the second has room after the first
  pub second_room : HasRoom b y
  second_room = room_first b y z (room_second a b x (y ++ z) r u)

  -- the third has room after the second
  pub third_room : (c : Writer) → Wrote b c y → HasRoom c z
  third_room c v = room_second b c y z (room_second a b x (y ++ z) r u) v

  -- three that are written one after the other
  pub wrote_three : (c d : Writer) → Wrote b c y → Wrote c d z → Wrote a d (x ++ (y ++ z))
  wrote_three c d v w = wrote_twice a b d x (y ++ z) r u (wrote_twice b c d y z (room_second a b x (y ++ z) r u) v w)

-- what is written in front of a list that stands at a place is joined to it
pub pasted_front : (d : List ℕ) (at : ℕ) (x y : List ℕ) → length x ≡ at → at + length y ≤ length d → pasted (pasted d at y) 0 x ≡ pasted d 0 (x ++ y)
pasted_front d at x y e room =
    pasted_start (pasted d at y) x
    ∙ ap (λ (k : ℕ). x ++ drop k (pasted d at y)) e
    ∙ ap (λ (l : List ℕ). x ++ drop at l) (pasted_is d at y)
    ∙ ap (λ (l : List ℕ). x ++ l) (drop_at (take at d) (y ++ drop (at + length y) d) at (simp length-take (omega arith)))
    ∙ sym (append_assoc x y (drop (at + length y) d))
    ∙ ap (λ (k : ℕ). (x ++ y) ++ drop k d) (sum e)
    ∙ sym (pasted_start d (x ++ y))
  where
    sum : length x ≡ at → at + length y ≡ length (x ++ y)
    sum e = rw length-append (omega arith)

-- a header's four pairs of bytes, written one after the other
pub header_put : (h : Header) (d e₁ e₂ e₃ e₄ : List ℕ) → 8 ≤ length d
    → e₁ ≡ pasted d 0 (h.op ∷ h.flags ∷ [])
    → e₂ ≡ pasted e₁ 2 (be16 h.length)
    → e₃ ≡ pasted e₂ 4 (be16 h.group)
    → e₄ ≡ pasted e₃ 6 (h.sequence ∷ h.command ∷ [])
    → e₄ ≡ pasted d 0 (header_bytes h)
unfolding header_bytes be16
header_put h d e₁ e₂ e₃ e₄ room a b c e =
    let first : List ℕ = h.op ∷ h.flags ∷ [] in
    let two : List ℕ = first ++ be16 h.length in
    let three : List ℕ = two ++ be16 h.group in
    e
    ∙ ap (λ (l : List ℕ). pasted l 6 (h.sequence ∷ h.command ∷ []))
    (c ∙ ap (λ (l : List ℕ). pasted l 4 (be16 h.group))
    (b ∙ ap (λ (l : List ℕ). pasted l 2 (be16 h.length)) a ∙ pasted_twice d 0 first (be16 h.length) (omega arith))
    ∙ pasted_twice d 0 two (be16 h.group) (omega arith))
    ∙ pasted_twice d 0 three (h.sequence ∷ h.command ∷ []) (omega arith)

-- a map at place 8 and then the header with its length in front of it are the packet
pub packet_put : (h : Header) (m : List ℕ) {d e₁ e₂ : List ℕ} (end : ℕ) → 8 + length m ≤ length d
    → end ≡ 8 + length m
    → e₁ ≡ pasted d 8 m
    → e₂ ≡ pasted e₁ 0 (header_bytes (reply_header_def h (end - 8)))
    → Starts d (reply_packet h m) end e₂
unfolding reply_packet
packet_put h m {d} {e₁} {e₂} end room place written w =
    let e : end - 8 ≡ length m = omega (arith, place) in
    let size : length (header_bytes (reply_header_def h (length m))) ≡ 8 = header_length (reply_header_def h (length m)) in
    record {
      count = rw length-append (omega (arith, place));
      bytes =
          w
          ∙ ap₂ (λ (l : List ℕ) (n : ℕ). pasted l 0 (header_bytes (reply_header_def h n))) written e
          ∙ pasted_front d 8 (header_bytes (reply_header_def h (length m))) m size room;
    }

-- a reply that fits is written whole
pub written_whole : (h : Header) (m d : List ℕ) (n : ℕ) (e : List ℕ) → ltb (length d) (8 + length m) ≡ false → Starts d (reply_packet h m) n e → Written h m d n e
unfolding reply_bytes
written_whole h m d n e fits p = record { count = simp (fits, pick_no) p.count; bytes = simp (fits, pick_no) p.bytes }

-- a reply that does not fit is rc 7 instead
pub written_seven : (h : Header) (m d : List ℕ) (n : ℕ) (e : List ℕ) → ltb (length d) (8 + length m) ≡ true → Starts d (reply_packet h (rc_map 7)) n e
    → Written h m d n e
unfolding reply_bytes
written_seven h m d n e long p = record { count = simp (long, pick_yes) p.count; bytes = simp (long, pick_yes) p.bytes }

-- the shortest head of an argument below 24 is one byte
pub head_tiny : (m n : ℕ) → n < 24 → length (head_of m n) ≡ 1
head_tiny m n h = head_size m n ∙ ap suc (form_tiny n h).1

-- that of a byte is at most two
pub head_byte : (m n : ℕ) → n < 256 → length (head_of m n) ≤ 2
head_byte m n h = rw head_long (len_one n h)

-- that of a number below 2^32 is at most five
pub head_word : (m n : ℕ) → n < 4294967296 → length (head_of m n) ≤ 5
head_word m n h = rw head_long (len_four n h)

-- the map of a place in the parts that are written
pub placed_parts : (s : List ℕ) (n : ℕ) → reply_map s (Reply.Placed n) ≡ map_of 2 ++ ((text_of name_rc ++ unsigned 0) ++ (text_of name_off ++ unsigned n))
unfolding reply_map
placed_parts s n = ap (λ (l : List ℕ). map_of 2 ++ l) (sym (append_assoc (text_of name_rc) (unsigned 0) (text_of name_off ++ unsigned n)))

-- how long the map of a return code is
pub rc_map_lem : (n : ℕ) → length (rc_map n) ≡ 4 + length (unsigned n)
rc_map_lem n = simp length-append (omega (arith, head_tiny 5 1 (lit< tt), head_tiny 3 2 (lit< tt)))

-- how long the map of a place is
pub placed_map : (s : List ℕ) (n : ℕ) → length (reply_map s (Reply.Placed n)) ≡ 9 + length (unsigned n)
unfolding reply_map
placed_map s n = simp length-append (omega (arith, head_tiny 5 2 (lit< tt), head_tiny 3 2 (lit< tt), head_tiny 0 0 (lit< tt), head_tiny 3 3 (lit< tt)))

-- how long the map of a text is
pub text_map : (s : List ℕ) (r : Run) → r.start + r.len ≤ length s → length (reply_map s (Reply.Text r)) ≡ 3 + length (head_of 0 r.len) + r.len
unfolding reply_map
text_map s r h =
    let e : length (take r.len (drop r.start s)) ≡ r.len = simp (length-take, length-drop) (omega arith) in
    simp (length-append, e) (omega (arith, head_tiny 5 1 (lit< tt), head_tiny 3 1 (lit< tt), head_length 3 r.len))

-- a reply's packet is eight bytes longer than its map
pub packet_length : (h : Header) (m : List ℕ) → length (reply_packet h m) ≡ 8 + length m
unfolding reply_packet
packet_length h m = rw (length-append, header_length (reply_header_def h (length m)))

-- the reply with a return code, at most 14 bytes, fits the smallest buffer of 32
pub rc_length : (h : Header) (n : ℕ) → n < 256 → length (reply_packet h (rc_map n)) ≤ 14
rc_length h n l = omega (arith, packet_length h (rc_map n), rc_map_lem n, head_byte 0 n l)

-- the reply with a place, at most 22 bytes, fits the smallest buffer of 32
pub placed_length : (h : Header) (s : List ℕ) (n : ℕ) → n < 4294967296 → length (reply_packet h (reply_map s (Reply.Placed n))) ≤ 22
placed_length h s n l = omega (arith, packet_length h (reply_map s (Reply.Placed n)), placed_map s n, head_word 0 n l)

-- a return code has room in a buffer of at least 32 bytes
pub rc_room : (n : ℕ) {room : ℕ} → n < 256 → 32 ≤ room → 8 + length (rc_map n) ≤ room
rc_room n l h = omega (arith, rc_map_lem n, head_byte 0 n l)

-- so it fits
pub rc_fits : (n room : ℕ) → n < 256 → 32 ≤ room → ltb room (8 + length (rc_map n)) ≡ false
rc_fits n room l h = le-ltb room (8 + length (rc_map n)) (rc_room n l h)

-- a refusal has room in such a buffer, whatever its reason
pub refusal_room : (s : List ℕ) (why : Reason) {room : ℕ} → 32 ≤ room → 8 + length (reply_map s (Reply.Refused why)) ≤ room
unfolding reply_map
refusal_room s why h = rc_room (rc_of_def why) (rc_byte why) h

-- a place fits a buffer of at least 32 bytes
pub placed_fits : (s : List ℕ) (n room : ℕ) → n < 4294967296 → 32 ≤ room → ltb room (8 + length (reply_map s (Reply.Placed n))) ≡ false
placed_fits s n room l h = le-ltb room (8 + length (reply_map s (Reply.Placed n))) (omega (arith, placed_map s n, head_word 0 n l))

-- at most is not above
leb_not : (a b : ℕ) → leb a b ≡ not (ltb b a)
leb_not a b =
    elim (dec_le a b) [
      | yes h ↦ simp (le-leb a b h, le-ltb b a h)
      | no h ↦
          let l : b < a = omega arith in
          simp (lt-leb a b l, lt-ltb b a l)
    ]

-- a text fits by its length
pub text_fits : (s : List ℕ) (r : Run) (k room : ℕ) → r.start + r.len ≤ length s → k ≡ length (head_of 0 r.len) → leb (11 + k + r.len) room
    ≡ not (ltb room (8 + length (reply_map s (Reply.Text r))))
text_fits s r k room h e =
    let n : 8 + length (reply_map s (Reply.Text r)) ≡ 11 + k + r.len = omega (arith, text_map s r h) in
    rw n (leb_not (11 + k + r.len) room)

-- what starts a buffer starts the same one, by whatever way it came back
pub starts_back : {d x e f : List ℕ} {n : ℕ} → Starts d x n e → f ≡ e → Starts d x n f
starts_back s q = record { count = s.count; bytes = q ∙ s.bytes }

-- every reply but a text fits
pub others_fit : (s : List ℕ) (reply : Reply) (room : ℕ) → 32 ≤ room → Sayable s reply → ((r : Run) → reply ≡ Reply.Text r → ⊥)
    → ltb room (8 + length (reply_map s reply)) ≡ false
unfolding reply_map
others_fit s (Reply.Refused why) room h say ne = rc_fits (rc_of_def why) room (rc_byte why) h
others_fit s Reply.Done room h say ne = rc_fits 0 room (lit< tt) h
others_fit s (Reply.Placed n) room h say ne = placed_fits s n room say h
others_fit s (Reply.Text r) room h say ne = absurd (ne r refl)
