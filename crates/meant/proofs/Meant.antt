-- What the host writes is read by the controller as the request that was meant, and what the controller writes is read by the host as what
-- it meant: the packet that was sent is the header's bytes and the map's, and each is read back.
-- Assumes nothing.
use mathlib.Core.Path.{◌≡◌, refl, sym, subst, ap, ap₂, ◌∙◌}
use mathlib.Core.Bool.{Bool, true, false, not}
use mathlib.Core.List.{List, [], ◌∷◌, ◌++◌}
use Rattle.std.specs.Prelude.{Option, Some, None, Result, Ok}
use Prim.Native.Nat.{ℕ, ◌+◌, ◌-◌, ◌^◌, ◌≤◌, ◌<◌}
use native.Mathlib.Decide.{dec_le}
use native.Mathlib.Omega.{arith}
use lib.Dec.{ltb, eqb, lit<}
use lib.ListN.{length, take, drop, length-take, length-drop}
use borrow.Author.Tests.{eq-eqb, ne_eqb, le-ltb, ltb-false}
use Rattle.laws.specs.declared.Run.{Run}
use Rattle.laws.specs.Choice.{pick, both}
use Rattle.laws.specs.Bytes.{Bytes, of_be16}
use Rattle.laws.specs.Parts.{bytes_in}
use Rattle.laws.proofs.Choice.{pick_yes, pick_no, both_true}
use Rattle.laws.proofs.Lists.{bytes_drop}
use Rattle.reason.specs.declared.Reason.{Reason}
use Rattle.reason.specs.Rc.{rc_of_def}
use Rattle.reason.proofs.Byte.{rc_byte}
use Rattle.cbor.specs.declared.Value.{Value}
use Rattle.cbor.specs.declared.Value.TheVariants.{Unsigned}
use Rattle.cbor.specs.Inner.{run_is}
use Rattle.cbor.specs.Write.{text_of, map_of}
use Rattle.fields.specs.declared.Kind.{Kind}
use Rattle.fields.specs.declared.Key.{Key}
use Rattle.fields.specs.declared.Fields.{Fields}
use Rattle.fields.specs.Keys.{name_d, name_r}
use Rattle.fields.specs.Fields.{index_of, first_of, second_of, stored, as_number, as_run, as_flag, number_in_def, run_in_def, flag_in_def}
use Rattle.map.specs.Walk.{map_from_def}
use Rattle.rules.specs.declared.Upload.{Upload}
use Rattle.rules.specs.Plan.{above, largest}
use Rattle.smp.specs.declared.Header.{Header}
use Rattle.requests.specs.declared.Command.{Command}
use Rattle.requests.specs.declared.Request.{Request}
use Rattle.smp.specs.declared.Reply.{Reply as Answered}
use Rattle.smp.specs.Packet.{header_in_def, sized, header_bytes}
use Rattle.requests.specs.Request.{command_of_def, mapped, echo_with, erase_with, upload_with, upload_of_def, request_of_def, is_request_def, read_request_def}
use Rattle.smp.specs.Reply.{rc_map, reply_map, reply_header_def, reply_packet}
use Rattle.smp.proofs.Headers.{header_length, header_back, sized_back}
use Rattle.smp.proofs.Writing.{text_map}
use Rattle.host.specs.Write.{request_header, request_packet, echo_map, Outcome, packet, unsendable, put, write_echo_def, write_reset_def, write_erase_def}
use Rattle.uploads.specs.Upload.{later_map, first_map, mis_sized_def, write_first_def, write_upload_def}
use Rattle.replies.specs.Read.{reply, or_zero, values_of, map_read, is_reply_def, read_reply_def}
use Rattle.meant.specs.Meant.{
  sent,
  headed,
  EchoIs,
  EchoMeant,
  EmptyIs,
  ResetMeant,
  EraseMeant,
  UploadIs,
  UploadMeant,
  rc_meant,
  off_meant,
  text_meant,
  TextIs,
  ReplyMeant,
}
use Rattle.host.proofs.Writing.{request_length, sent_whole, echo_length}
use Rattle.uploads.proofs.Maps.{later_length, first_length_untagged, first_length_tagged, tag_size}
use Rattle.meant.proofs.Walking.{header_read}
use Rattle.meant.proofs.Maps.{
  key_d,
  key_r,
  empty_read,
  text_at,
  text_read,
  text_there_lem,
  rc_read,
  placed_read,
  data_at,
  with_data,
  later_read,
  later_there,
  pairs_fields,
  untagged_read,
  untagged_there,
  tag_place,
  tagged_read,
  tagged_there,
  tag_there,
}

-- the header of a request that the host writes
abbrev front : ℕ → ℕ → ℕ → List ℕ → List ℕ
front group sequence command m = header_bytes (request_header group sequence command (length m))

-- a request is its header and its map
request_parts : (group sequence command : ℕ) (m : List ℕ) → request_packet group sequence command m ≡ front group sequence command m ++ m
unfolding request_packet
request_parts group sequence command m = refl

-- its header is eight bytes
front_length : (group sequence command : ℕ) (m : List ℕ) → length (front group sequence command m) ≡ 8
front_length group sequence command m = header_length (request_header group sequence command (length m))

-- a request that may be sent is read as what its command asks for
request_read : (group sequence command : ℕ) (m : List ℕ) → group < 65536 → length (request_packet group sequence command m) ≤ 65533 → (c : Option Command)
    → command_of_def (request_header group sequence command (length m)) ≡ c
    → read_request_def (request_packet group sequence command m) ≡ Some (request_of_def c (request_packet group sequence command m))
unfolding request_packet
request_read group sequence command m small most c is =
    header_read (request_header group sequence command (length m)) m refl refl (omega (arith, request_length group sequence command m)) small
    ∙ ap (λ (x : Option Command). Some (request_of_def x (front group sequence command m ++ m))) is

-- its header is read back
request_headed : (group sequence command : ℕ) (m : List ℕ) → group < 65536 → length (request_packet group sequence command m) ≤ 65533
    → header_in_def (request_packet group sequence command m) ≡ headed group sequence command (request_packet group sequence command m)
request_headed group sequence command m small most =
    let n = request_length group sequence command m in
    let e : length m ≡ length (request_packet group sequence command m) - 8 = omega arith in
    ap header_in_def (request_parts group sequence command m)
    ∙ header_back (request_header group sequence command (length m)) m (omega arith) small
    ∙ ap (λ (k : ℕ). request_header group sequence command k) e

-- an echo request's header names the echo
echo_command : (sequence n : ℕ) → command_of_def (request_header 0 sequence 0 n) ≡ Some Command.Echo
unfolding command_of_def pick both
echo_command sequence n = refl

-- a reset's names the reset
reset_command : (sequence n : ℕ) → command_of_def (request_header 0 sequence 5 n) ≡ Some Command.Reset
unfolding command_of_def pick both
reset_command sequence n = refl

-- an upload's names the upload
upload_command : (sequence n : ℕ) → command_of_def (request_header 1 sequence 1 n) ≡ Some Command.Upload
unfolding command_of_def pick both
upload_command sequence n = refl

-- an erase's names the erase
erase_command : (sequence n : ℕ) → command_of_def (request_header 1 sequence 5 n) ≡ Some Command.Erase
unfolding command_of_def pick both
erase_command sequence n = refl

-- a reset that was written is read as one
pub reset_meant : ResetMeant
unfolding write_reset_def request_of_def mapped
reset_meant sequence out n e =
    let p : List ℕ = request_packet 0 sequence 5 (map_of 0) in
    let w = sent_whole p out n e in
    subst (EmptyIs 0 sequence Request.Reset) (sym w.1)
    (record {
      header = request_headed 0 sequence 5 (map_of 0) (lit< tt) w.0;
      read =
          request_read 0 sequence 5 (map_of 0) (lit< tt) w.0 (Some Command.Reset) (reset_command sequence (length (map_of 0)))
          ∙ ap (λ (m : Option Fields). Some (mapped (λ (f : Fields). Ok Request.Reset) m))
          (empty_read Kind.Bare p (front 0 sequence 5 (map_of 0)) (request_parts 0 sequence 5 (map_of 0)) (front_length 0 sequence 5 (map_of 0)));
    })

-- so is an erase
pub erase_meant : EraseMeant
unfolding write_erase_def request_of_def mapped erase_with number_in_def as_number index_of pick
erase_meant sequence out n e =
    let p : List ℕ = request_packet 1 sequence 5 (map_of 0) in
    let w = sent_whole p out n e in
    subst (EmptyIs 1 sequence Request.Erase) (sym w.1)
    (record {
      header = request_headed 1 sequence 5 (map_of 0) (lit< tt) w.0;
      read =
          request_read 1 sequence 5 (map_of 0) (lit< tt) w.0 (Some Command.Erase) (erase_command sequence (length (map_of 0)))
          ∙ ap (λ (m : Option Fields). Some (mapped (λ (f : Fields). erase_with (number_in_def f Key.Slot)) m))
          (empty_read Kind.Erase p (front 1 sequence 5 (map_of 0)) (request_parts 1 sequence 5 (map_of 0)) (front_length 1 sequence 5 (map_of 0)));
    })

-- an echo that was written is read as the echo of that text
pub echo_meant : EchoMeant
unfolding write_echo_def echo_map request_of_def mapped echo_with run_in_def stored index_of first_of second_of as_number as_run as_flag pick
echo_meant sequence text out n e =
    let m : List ℕ = echo_map text in
    let p : List ℕ = request_packet 0 sequence 0 m in
    let pre : List ℕ = front 0 sequence 0 m in
    let w = sent_whole p out n e in
    let fits : length text < 2 ^ 64 = omega (arith, w.0, request_length 0 sequence 0 m, echo_length text) in
    let parts : p ≡ pre ++ m = request_parts 0 sequence 0 m in
    let start : ℕ = text_at pre name_d text in (
      start,
      subst (λ (l : List ℕ). EchoIs sequence text l start) (sym w.1)
          (record {
            header = request_headed 0 sequence 0 m (lit< tt) w.0;
            read =
                request_read 0 sequence 0 m (lit< tt) w.0 (Some Command.Echo) (echo_command sequence (length m))
                ∙ ap (λ (x : Option Fields). Some (mapped (λ (f : Fields). echo_with (run_in_def f Key.Text)) x))
                (text_read Kind.Echo p pre name_d text parts (front_length 0 sequence 0 m) key_d (lit< tt) fits);
            text_is = text_there_lem Kind.Echo p pre name_d text parts;
          }),
    )

-- a number and the one after it are equal to another where that and its next are
eqb_up : (o k : ℕ) → eqb (o + 1) (k + 1) ≡ eqb o k
eqb_up o k =
    elim (dec_le o k) [
      | yes a ↦ elim (dec_le k o) [
        | yes b ↦
            let e : o ≡ k = omega arith in
            eq-eqb (o + 1) (k + 1) (omega arith) ∙ sym (eq-eqb o k e)
        | no b ↦
            let d : o ≡ k → ⊥ = λ e. omega arith in
            ne_eqb (o + 1) (k + 1) (λ e. omega arith) ∙ sym (ne_eqb o k d)
      ]
      | no a ↦
          let d : o ≡ k → ⊥ = λ e. omega arith in
          ne_eqb (o + 1) (k + 1) (λ e. omega arith) ∙ sym (ne_eqb o k d)
    ]

-- the op of a reply to a request is 1 or 3
op_replied : (o : ℕ) → not (both (not (eqb o 0)) (not (eqb o 2))) ≡ true → not (both (not (eqb (o + 1) 1)) (not (eqb (o + 1) 3))) ≡ true
op_replied o e = ap₂ (λ (a b : Bool). not (both (not a) (not b))) (eqb_up o 0) (eqb_up o 2) ∙ e

-- the op of a request is 0 or 2
request_op : (s : List ℕ) → is_request_def s ≡ true → not (both (not (eqb (header_in_def s).op 0)) (not (eqb (header_in_def s).op 2))) ≡ true
unfolding is_request_def
request_op s e = (both_true (sized s) _ e).1

-- a packet of the right length with such an op is of a reply's kind
kind_tested : (p : List ℕ) (o : ℕ) → sized p ≡ true → (header_in_def p).op ≡ o → not (both (not (eqb o 1)) (not (eqb o 3))) ≡ true → is_reply_def p ≡ true
unfolding is_reply_def both
kind_tested p o size op e =
    ap₂ (λ (b : Bool) (n : ℕ). both b (not (both (not (eqb n 1)) (not (eqb n 3))))) size op ∙ e

-- the group of a packet of bytes is below 65,536
pub group_small : (s : List ℕ) → Bytes s → (header_in_def s).group < 65536
unfolding of_be16
group_small s b = omega (arith, bytes_drop 4 s b 0, bytes_drop 4 s b 1)

-- the header of the reply to s with this map
abbrev answer : List ℕ → List ℕ → Header
answer s m = reply_header_def (header_in_def s) (length m)

-- a reply to a request is its header and its map
reply_parts : (s m : List ℕ) → reply_packet (header_in_def s) m ≡ header_bytes (answer s m) ++ m
unfolding reply_packet
reply_parts s m = refl

-- a reply that was written is read by its map, and its header is read back
module _ (s m : List ℕ) (small : (header_in_def s).group < 65536) (is : is_request_def s ≡ true) (most : 8 + length m ≤ 65533) where
  -- the reply's header is read back
  answer_back : header_in_def (reply_packet (header_in_def s) m) ≡ answer s m
  unfolding reply_packet
  answer_back = header_back (answer s m) m (omega arith) small

  -- the reply is read as what its map says
  reply_read : read_reply_def (reply_packet (header_in_def s) m) ≡ map_read (reply_packet (header_in_def s) m) (map_from_def Kind.Reply (reply_packet (header_in_def s) m) 8)
  unfolding read_reply_def
  reply_read =
      let p : List ℕ = reply_packet (header_in_def s) m in
      rw (kind_tested p ((header_in_def s).op + 1) right (ap (λ (h : Header). h.op) answer_back) (op_replied (header_in_def s).op asked), pick_yes) refl
    where
      right : sized (reply_packet (header_in_def s) m) ≡ true
      right = ap sized (reply_parts s m) ∙ sized_back (answer s m) m refl (omega arith)

      asked : not (both (not (eqb (header_in_def s).op 0)) (not (eqb (header_in_def s).op 2))) ≡ true
      asked = request_op s is

-- a reply whose numbers are small enough is read as its values
values_heard : (p : List ℕ) (f : Fields) (h : Header) (rc off : Option ℕ) (text : Option Run) → header_in_def p ≡ h
    → number_in_def f Key.Rc ≡ rc → number_in_def f Key.Off ≡ off → run_in_def f Key.Text ≡ text
    → above largest rc ≡ false → above largest off ≡ false
    → values_of p f ≡ reply (record { header = h; rc = or_zero rc; off = off; text = text })
unfolding values_of
values_heard p f h rc off text back a b c small less =
    rw (a, b, c, small, less, pick_no, pick_no) (ap (λ (x : Header). reply (record { header = x; rc = or_zero rc; off = off; text = text })) back)

-- a reply with a return code is read as that code
rc_meant_lem : (s : List ℕ) (n : ℕ) → (header_in_def s).group < 65536 → is_request_def s ≡ true → n < 256 → 8 + length (rc_map n) ≤ 65533
    → read_reply_def (reply_packet (header_in_def s) (rc_map n))
    ≡ reply (record { header = answer s (rc_map n); rc = n; off = None; text = None })
unfolding map_read number_in_def run_in_def or_zero above stored index_of first_of second_of as_number as_run as_flag pick
rc_meant_lem s n group is small most =
    let m : List ℕ = rc_map n in
    let p : List ℕ = reply_packet (header_in_def s) m in
    let fits : n < 2 ^ 64 = omega arith in
    reply_read s m group is most
    ∙ ap (map_read p) (rc_read p (header_bytes (answer s m)) n (reply_parts s m) (header_length (answer s m)) fits)
    ∙ values_heard p _ (answer s m) (Some n) None None (answer_back s m group is most) refl refl refl
    (le-ltb largest n (omega arith)) refl

-- a reply with an offset is read as success and that offset
placed_meant : (s : List ℕ) (n : ℕ) → (header_in_def s).group < 65536 → is_request_def s ≡ true → n < 4294967296 → 8 + length (reply_map s (Answered.Placed n)) ≤ 65533
    → read_reply_def (reply_packet (header_in_def s) (reply_map s (Answered.Placed n)))
    ≡ reply (record { header = answer s (reply_map s (Answered.Placed n)); rc = 0; off = Some n; text = None })
unfolding map_read number_in_def run_in_def or_zero above stored index_of first_of second_of as_number as_run as_flag pick
placed_meant s n group is small most =
    let m : List ℕ = reply_map s (Answered.Placed n) in
    let p : List ℕ = reply_packet (header_in_def s) m in
    let fits : n < 2 ^ 64 = omega arith in
    reply_read s m group is most
    ∙ ap (map_read p) (placed_read p (header_bytes (answer s m)) s n (reply_parts s m) (header_length (answer s m)) fits)
    ∙ values_heard p _ (answer s m) (Some 0) (Some n) None (answer_back s m group is most) refl refl refl
    refl (le-ltb largest n (omega arith))

-- the map of an echo's reply
text_form : (s : List ℕ) (from len : ℕ) → reply_map s (Answered.Text (run_is from len)) ≡ map_of 1 ++ (text_of name_r ++ text_of (take len (drop from s)))
unfolding reply_map
text_form s from len = refl

-- a text that lies in the request has the length asked for
part_length : (s : List ℕ) (from len : ℕ) → from + len ≤ length s → length (take len (drop from s)) ≡ len
part_length s from len h = simp (length-take, length-drop) (omega arith)

-- a reply with a text is read as success and the place of that text
text_meant_lem : (s : List ℕ) (from len : ℕ) → (header_in_def s).group < 65536 → is_request_def s ≡ true → from + len ≤ length s
    → 8 + length (reply_map s (Answered.Text (run_is from len))) ≤ 65533
    → (start : ℕ)
    × (read_reply_def (reply_packet (header_in_def s) (reply_map s (Answered.Text (run_is from len))))
    ≡ reply (record { header = answer s (reply_map s (Answered.Text (run_is from len))); rc = 0; off = None; text = Some (run_is start len) }))
    × (take len (drop start (reply_packet (header_in_def s) (reply_map s (Answered.Text (run_is from len))))) ≡ take len (drop from s))
unfolding map_read number_in_def run_in_def or_zero above stored index_of first_of second_of as_number as_run as_flag pick
text_meant_lem s from len group is inside most =
    let m : List ℕ = reply_map s (Answered.Text (run_is from len)) in
    let p : List ℕ = reply_packet (header_in_def s) m in
    let pre : List ℕ = header_bytes (answer s m) in
    let x : List ℕ = take len (drop from s) in
    let size : length x ≡ len = part_length s from len inside in
    let fits : length x < 2 ^ 64 = omega (arith, text_map s (run_is from len) inside) in
    let parts : p ≡ pre ++ (map_of 1 ++ (text_of name_r ++ text_of x)) = reply_parts s m ∙ ap (λ (l : List ℕ). pre ++ l) (text_form s from len) in
    let start : ℕ = text_at pre name_r x in (
      start,
      reply_read s m group is most
          ∙ ap (map_read p) (text_read Kind.Reply p pre name_r x parts (header_length (answer s m)) key_r (lit< tt) fits)
          ∙ values_heard p _ (answer s m) None None (Some (run_is start (length x))) (answer_back s m group is most) refl refl refl refl refl
          ∙ ap (λ (k : ℕ). reply (record { header = answer s m; rc = 0; off = None; text = Some (run_is start k) })) size,
      ap (λ (k : ℕ). take k (drop start p)) (sym size) ∙ text_there_lem Kind.Reply p pre name_r x parts,
    )

-- a reply that was written is read as what it meant
pub reply_meant : ReplyMeant
unfolding reply_map rc_meant off_meant text_meant TextIs
reply_meant s (Answered.Refused why) group is can most = (0, rc_meant_lem s (rc_of_def why) group is (rc_byte why) most, tt)
reply_meant s Answered.Done group is can most = (0, rc_meant_lem s 0 group is (lit< tt) most, tt)
reply_meant s (Answered.Placed n) group is can most = (0, placed_meant s n group is can most, tt)
reply_meant s (Answered.Text text) group is can most = text_meant_lem s text.start text.len group is can.0 most

-- a writer that says that it wrote a packet passed the test before it
not_refused : (t : Bool) (out : List ℕ) (b : Outcome) (n : ℕ) → (pick t (unsendable out) b).says ≡ packet n → (t ≡ false)
    × (pick t (unsendable out) b ≡ b) × (b.says ≡ packet n)
unfolding pick
not_refused true out b n e = absurd (let z : ◌≡◌ {A = ℕ} 0 1 = cc in omega arith)
not_refused false out b n e = (refl, refl, e)

-- an upload that was written passed each test, and is the request of its offset
module _ (sequence : ℕ) (x : List ℕ) (off size : ℕ) (tag out : List ℕ) (n : ℕ) (e : (write_upload_def sequence x off size tag out).says ≡ packet n) where
  -- past offset 0
  later_went : (off ≡ 0 → ⊥) → (off ≤ 4294967295) × (write_upload_def sequence x off size tag out ≡ put (request_packet 1 sequence 1 (later_map x off)) out)
  unfolding write_upload_def
  later_went past =
      let a = not_refused (ltb 4294967295 off) out _ n e in
      let b = not_refused (eqb (length x) 0) out _ n a.2 in
      (ltb-false 4294967295 off a.0, a.1 ∙ b.1 ∙ rw (ne_eqb off 0 past, pick_no) refl)

  -- at offset 0
  first_went : off ≡ 0 → (size ≤ 4294967295) × (mis_sized_def tag ≡ false)
      × (write_upload_def sequence x off size tag out ≡ put (request_packet 1 sequence 1 (first_map x size tag)) out)
  unfolding write_upload_def write_first_def
  first_went start =
      let a = not_refused (ltb 4294967295 off) out _ n e in
      let b = not_refused (eqb (length x) 0) out _ n a.2 in
      let chosen : pick (eqb off 0) (write_first_def sequence x size tag out) (put (request_packet 1 sequence 1 (later_map x off)) out)
      ≡ write_first_def sequence x size tag out = rw (eq-eqb off 0 start, pick_yes) refl in
      let c = not_refused (eqb size 0) out _ n (ap (λ (o : Outcome). o.says) (sym chosen) ∙ b.2) in
      let d = not_refused (ltb 4294967295 size) out _ n c.2 in
      let f = not_refused (ltb size (length x)) out _ n d.2 in
      let g = not_refused (mis_sized_def tag) out _ n f.2 in
      (ltb-false 4294967295 size d.0, g.0, a.1 ∙ b.1 ∙ chosen ∙ c.1 ∙ d.1 ∙ f.1 ∙ g.1)

-- an upload request is read by its map
upload_read : (sequence : ℕ) (m : List ℕ) (f : Fields) (r : Request) → length (request_packet 1 sequence 1 m) ≤ 65533
    → map_from_def Kind.Upload (request_packet 1 sequence 1 m) 8 ≡ Some f
    → upload_of_def f ≡ Ok r
    → read_request_def (request_packet 1 sequence 1 m) ≡ Some (Ok r)
unfolding request_of_def mapped
upload_read sequence m f r most walked is =
    request_read 1 sequence 1 m (lit< tt) most (Some Command.Upload) (upload_command sequence (length m))
    ∙ ap (λ (x : Option Fields). Some (mapped upload_of_def x)) walked
    ∙ ap (λ (x : Result Request Reason). Some x) is

-- the upload with this offset and length, its data and its tag at these places
abbrev asked : ℕ → ℕ → ℕ → Option ℕ → Option Run → Upload
asked off start size length sha =
    record { off = off; «data» = run_is start size; length = length; image = None; sha = sha; upgrade = false }

-- past offset 0: the offset and the data
later_meant : (sequence : ℕ) (x : List ℕ) (off size : ℕ) (tag : List ℕ) → (off ≡ 0 → ⊥) → off ≤ 4294967295
    → length (request_packet 1 sequence 1 (later_map x off)) ≤ 65533
    → (u : Upload) × UploadIs sequence x off size tag (request_packet 1 sequence 1 (later_map x off)) u
unfolding upload_with number_in_def run_in_def flag_in_def bytes_in both stored index_of first_of second_of as_number as_run as_flag pick
later_meant sequence x off size tag past small most =
    let m : List ℕ = later_map x off in
    let p : List ℕ = request_packet 1 sequence 1 m in
    let pre : List ℕ = front 1 sequence 1 m in
    let parts : p ≡ pre ++ m = request_parts 1 sequence 1 m in
    let fits : length x < 2 ^ 64 = omega (arith, request_length 1 sequence 1 m, later_length x off) in
    let less : off < 2 ^ 64 = omega arith in
    let f : Fields = stored Key.Off (Unsigned off) (with_data (data_at pre 2 x) (length x)) in
    let none : eqb off 0 ≡ false = ne_eqb off 0 past in (
      asked off (data_at pre 2 x) (length x) None None,
      record {
        header = request_headed 1 sequence 1 m (lit< tt) most;
        read = upload_read sequence m f _ most (later_read p pre x off parts (front_length 1 sequence 1 m) fits less) refl;
        offset = refl;
        data_is = later_there p pre x off parts;
        data_size = refl;
        length_is = rw none refl;
        image_is = refl;
        tag_there = rw none refl;
        tag_is = rw none refl;
        upgrade_is = refl;
      },
    )

-- at offset 0 without a tag: the length too
untagged_meant : (sequence : ℕ) (x : List ℕ) (size : ℕ) (tag : List ℕ) → length tag ≡ 0 → size ≤ 4294967295
    → length (request_packet 1 sequence 1 (first_map x size tag)) ≤ 65533
    → (u : Upload) × UploadIs sequence x 0 size tag (request_packet 1 sequence 1 (first_map x size tag)) u
unfolding upload_with number_in_def run_in_def flag_in_def bytes_in both stored index_of first_of second_of as_number as_run as_flag pick
untagged_meant sequence x size tag none small most =
    let m : List ℕ = first_map x size tag in
    let p : List ℕ = request_packet 1 sequence 1 m in
    let pre : List ℕ = front 1 sequence 1 m in
    let parts : p ≡ pre ++ m = request_parts 1 sequence 1 m in
    let fits : length x < 2 ^ 64 = omega (arith, request_length 1 sequence 1 m, first_length_untagged x size tag none) in
    let less : size < 2 ^ 64 = omega arith in
    let f : Fields = pairs_fields (data_at pre 3 x) (length x) size in (
      asked 0 (data_at pre 3 x) (length x) (Some size) None,
      record {
        header = request_headed 1 sequence 1 m (lit< tt) most;
        read = upload_read sequence m f _ most (untagged_read p pre x size tag none parts (front_length 1 sequence 1 m) fits less) refl;
        offset = refl;
        data_is = untagged_there p pre x size tag none parts;
        data_size = refl;
        length_is = refl;
        image_is = refl;
        tag_there = rw (eq-eqb (length tag) 0 none) refl;
        tag_is = sym (nothing-in tag none);
        upgrade_is = refl;
      },
    )
  where
    nothing-in : (l : List ℕ) → length l ≡ 0 → l ≡ []
    nothing-in [] e = refl
    nothing-in (a ∷ l) e = absurd (omega arith)

-- at offset 0 with a tag: the length and the tag too
tagged_meant : (sequence : ℕ) (x : List ℕ) (size : ℕ) (tag : List ℕ) → length tag ≡ 32 → size ≤ 4294967295
    → length (request_packet 1 sequence 1 (first_map x size tag)) ≤ 65533
    → (u : Upload) × UploadIs sequence x 0 size tag (request_packet 1 sequence 1 (first_map x size tag)) u
unfolding upload_with number_in_def run_in_def flag_in_def bytes_in both stored index_of first_of second_of as_number as_run as_flag pick
tagged_meant sequence x size tag whole small most =
    let m : List ℕ = first_map x size tag in
    let p : List ℕ = request_packet 1 sequence 1 m in
    let pre : List ℕ = front 1 sequence 1 m in
    let parts : p ≡ pre ++ m = request_parts 1 sequence 1 m in
    let some : length tag ≡ 0 → ⊥ = λ e. omega arith in
    let fits : length x < 2 ^ 64 = omega (arith, request_length 1 sequence 1 m, first_length_tagged x size tag whole) in
    let less : size < 2 ^ 64 = omega arith in
    let short : length tag < 2 ^ 64 = omega arith in
    let place : ℕ = tag_place pre x size tag in
    let f : Fields = stored Key.Sha (Value.Bytes (run_is place (length tag))) (pairs_fields (data_at pre 4 x) (length x) size) in (
      asked 0 (data_at pre 4 x) (length x) (Some size) (Some (run_is place (length tag))),
      record {
        header = request_headed 1 sequence 1 m (lit< tt) most;
        read = upload_read sequence m f _ most (tagged_read p pre x size tag some parts (front_length 1 sequence 1 m) fits less short) refl;
        offset = refl;
        data_is = tagged_there p pre x size tag some parts;
        data_size = refl;
        length_is = refl;
        image_is = refl;
        tag_there = rw (ne_eqb (length tag) 0 some) refl;
        tag_is = tag_there p pre x size tag some parts;
        upgrade_is = refl;
      },
    )

-- an upload that was written is read as the upload that was meant
pub upload_meant : UploadMeant
upload_meant sequence x off size tag out n e =
    elim (dec_le off 0) [
      | yes a ↦ at-start (omega arith) (first_went sequence x off size tag out n e (omega arith))
      | no a ↦
          let w = later_went sequence x off size tag out n e (λ z. omega arith) in
          moved (later_map x off) w.1 (λ most. later_meant sequence x off size tag (λ z. omega arith) w.0 most)
    ]
  where
    moved : (m : List ℕ) → write_upload_def sequence x off size tag out ≡ put (request_packet 1 sequence 1 m) out
        → (length (request_packet 1 sequence 1 m) ≤ 65533 → (u : Upload) × UploadIs sequence x off size tag (request_packet 1 sequence 1 m) u)
        → (u : Upload) × UploadIs sequence x off size tag (sent (write_upload_def sequence x off size tag out) n) u
    moved m went meant =
        let w = sent_whole (request_packet 1 sequence 1 m) out n (ap (λ (o : Outcome). o.says) (sym went) ∙ e) in
        subst (λ (l : List ℕ). (u : Upload) × UploadIs sequence x off size tag l u) (sym (ap (λ (o : Outcome). take n o.buffer) went ∙ w.1)) (meant w.0)

    at-start : off ≡ 0 → (size ≤ 4294967295) × (mis_sized_def tag ≡ false)
        × (write_upload_def sequence x off size tag out ≡ put (request_packet 1 sequence 1 (first_map x size tag)) out)
        → (u : Upload) × UploadIs sequence x off size tag (sent (write_upload_def sequence x off size tag out) n) u
    at-start zero w =
        moved (first_map x size tag) w.2
        (λ most. subst (λ (o : ℕ). (u : Upload) × UploadIs sequence x o size tag (request_packet 1 sequence 1 (first_map x size tag)) u) (sym zero)
        (elim (dec_le (length tag) 0) [
          | yes a ↦ untagged_meant sequence x size tag (omega arith) w.0 most
          | no a ↦ tagged_meant sequence x size tag (tag_size tag w.1 (λ z. omega arith)) w.0 most
        ]))
