-- What the request call leaves in the reply buffer, the host reads as it was meant: every request is answered, each answer can be said and is
-- no longer than a packet, and what is written so is read back.
-- Assumes nothing.
use Prim.{Unit}
use mathlib.Core.Path.{◌≡◌, refl, sym, ap, subst, ◌∙◌}
use mathlib.Core.Bool.{Bool, true, false}
use mathlib.Core.List.{List}
use Prim.Native.Nat.{ℕ, ◌+◌, ◌-◌, ◌≤◌, ◌<◌}
use native.Mathlib.Omega.{arith}
use lib.Dec.{ltb, lit<, lit≤}
use lib.ListN.{length, take}
use Rattle.laws.specs.Choice.{pick}
use Rattle.laws.specs.Bytes.{Bytes}
use Rattle.std.specs.Prelude.{Option, Some, None, Result, Ok, Err}
use Rattle.laws.specs.declared.Run.{Run}
use Rattle.laws.proofs.Choice.{pick_no, pick_case, both_true}
use Rattle.reason.specs.declared.Reason.{Reason}
use Rattle.reason.specs.Rc.{rc_of_def}
use Rattle.reason.proofs.Byte.{rc_byte}
use Rattle.session.specs.declared.Slot.{Slot}
use Rattle.session.specs.declared.Layout.{Layout}
use Rattle.rules.specs.declared.Upload.{Upload}
use Rattle.rules.specs.declared.Plan.{Plan}
use Rattle.session.specs.Session.{layout_ok, session_ok, State, possible}
use Rattle.rules.specs.Plan.{plan_of}
use Rattle.slot.specs.Act.{done}
use Rattle.session.proofs.Laws.{layout_bounds}
use Rattle.smp.specs.declared.Header.{Header}
use Rattle.requests.specs.declared.Request.{Request}
use Rattle.smp.specs.declared.Reply.{Reply as Answered}
use Rattle.smp.specs.Packet.{header_in_def}
use Rattle.requests.specs.Request.{read_request_def}
use Rattle.smp.specs.Reply.{rc_map, reply_map, reply_header_def, reply_packet, reply_bytes, Sayable}
use Rattle.requests.proofs.Sound.{is_request_lem, request_sized}
use Rattle.smp.proofs.Writing.{head_word, rc_room, rc_fits, placed_map, placed_fits, packet_length}
use Rattle.requests.proofs.Shorter.{echo_no_longer}
use Rattle.controller.specs.declared.Response.{Response}
use Rattle.controller.specs.Inner.{Answerable}
use Rattle.controller.specs.Doing.{act_for, reply_to_def, response_for, response_map, asks_reset_def}
use Rattle.controller.specs.Handle.{Taking, Outcome, request, act_by, bytes_by, said_by, handled, handle}
use Rattle.controller.proofs.Laws.{taking_request, response_answerable}
use Rattle.history.proofs.Answered.{always_answered}
use Rattle.uploads.specs.Upload.{write_upload_def}
use Rattle.replies.specs.Read.{reply, read_reply_def}
use Rattle.meant.specs.Meant.{sent, UploadIs, rc_meant, off_meant, text_meant, TextIs}
use Rattle.meant.proofs.Meant.{group_small, reply_meant, upload_meant}
use Rattle.exchange.specs.Exchange.{answer_in, Exchanged, Exchange, UploadExchange}

-- the bytes of a reply are those of the answer that goes into the buffer
bytes_in_lem : (layout : Layout) (h : Header) (m p : List ℕ) (x : Response) (room : ℕ)
    → reply_bytes h (response_map layout m p x) room ≡ reply_packet h (response_map layout m p (answer_in layout m p x room))
unfolding reply_bytes answer_in pick response_map reply_map
bytes_in_lem layout h m p x room = ways (ltb room (8 + length (response_map layout m p x)))
  where
    ways : (t : Bool) → pick t (reply_packet h (rc_map (rc_of_def Reason.ReplyTooLong))) (reply_packet h (response_map layout m p x))
        ≡ reply_packet h (response_map layout m p (pick t (Response.Reply (Answered.Refused Reason.ReplyTooLong)) x))
    ways true = refl
    ways false = refl

-- an answer is no longer than a packet may be
Sendable : List ℕ → Answered → Type 0
Sendable p a = 8 + length (reply_map p a) ≤ 65533

-- an answer of a return code is not
rc_sendable : (n : ℕ) → n < 256 → 8 + length (rc_map n) ≤ 65533
rc_sendable n h = rc_room n h (lit≤ tt)

-- nor is one of an offset
placed_sendable : (p : List ℕ) (n : ℕ) → n < 4294967296 → 8 + length (reply_map p (Answered.Placed n)) ≤ 65533
placed_sendable p n h = omega (arith, placed_map p n, head_word 0 n h)

-- nor is one to an upload
upload_sendable : (p : List ℕ) (q : Result Plan Reason) (after : State) → Sayable p (reply_to_def q after) → Sendable p (reply_to_def q after)
unfolding Sendable reply_to_def reply_map
upload_sendable p (Err why) after can = rc_sendable (rc_of_def why) (rc_byte why)
upload_sendable p (Ok (Plan.Tell n)) after can = placed_sendable p n can
upload_sendable p (Ok Plan.Append) after can = placed_sendable p after.session.place can
upload_sendable p (Ok (Plan.Start l)) after can = placed_sendable p after.session.place can

-- a response that is no list can be said and sent
unfoldable Tellable : List ℕ → Response → Type 0
Tellable p (Response.Reply a) = Sayable p a × Sendable p a
Tellable p Response.Images = Unit {0}

-- so can that to any request, as an echo's is no longer than its request
answer_tellable : (slot : Slot) (st after : State) (p : List ℕ) (r : Result Request Reason) → Bytes p → read_request_def p ≡ Some r
    → Answerable p (response_for slot st after p r)
    → Tellable p (response_for slot st after p r)
unfolding Tellable Sendable response_for reply_map
answer_tellable slot st after p (Err why) bytes e can = (can, rc_sendable (rc_of_def why) (rc_byte why))
answer_tellable slot st after p (Ok (Request.Echo text)) bytes e can =
    let m = echo_no_longer p text bytes e in
    (can, omega (arith, m, (request_sized p (Ok (Request.Echo text)) e).1))
answer_tellable slot st after p (Ok Request.Reset) bytes e can = (can, rc_sendable 0 (lit< tt))
answer_tellable slot st after p (Ok Request.Images) bytes e can = tt
answer_tellable slot st after p (Ok (Request.Upload u)) bytes e can = (can, upload_sendable p (plan_of slot st p u) after can)
answer_tellable slot st after p (Ok Request.Erase) bytes e can = (can, rc_sendable 0 (lit< tt))

-- and the answer that goes into the buffer, which may be rc 7 instead
in_tellable : (layout : Layout) (m p : List ℕ) (x : Response) (room : ℕ) → Tellable p x → Tellable p (answer_in layout m p x room)
unfolding answer_in Tellable Sendable reply_map
in_tellable layout m p x room other =
    pick_case (Tellable p) (ltb room (8 + length (response_map layout m p x))) _ _
    (λ e. (tt, rc_sendable (rc_of_def Reason.ReplyTooLong) (rc_byte Reason.ReplyTooLong)))
    (λ e. other)

-- a request that is answered
module _ (layout : Layout) (st : State) (p b : List ℕ) (r : Result Request Reason) (can : possible layout st ≡ true) (room : 32 ≤ length b)
    (e : read_request_def p ≡ Some r) where
  -- the state after it is that after its act
  state_done : (handle layout st p b).state ≡ done layout.slot1 (act_for layout.slot1 st p r) st
  unfolding handled act_by
  state_done = ap (λ (t : Taking). done layout.slot1 (act_by layout.slot1 st p t) st) (taking_request layout st p b r can room e)

  -- its response can be written
  answerable : Answerable p (response_for layout.slot1 st (handle layout st p b).state p r)
  answerable =
      let oks = both_true (layout_ok layout (length st.memory)) (session_ok layout.slot1 st.session) can in
      subst (λ (after : State). Answerable p (response_for layout.slot1 st after p r)) (sym state_done)
      (response_answerable layout.slot1 st p r (layout_bounds layout (length st.memory) oks.0).upload oks.1 e)

  -- the answer that goes into the buffer
  abbrev answered : Response
  answered = answer_in layout (handle layout st p b).state.memory p (response_for layout.slot1 st (handle layout st p b).state p r) (length b)

  -- where it is no list: the call says how long its packet is, and the packet stands at the buffer's start
  written : (a : Answered) → answered ≡ Response.Reply a
      → ((handle layout st p b).says ≡ said_by (request r) (length (reply_packet (header_in_def p) (reply_map p a))))
      × (take (length (reply_packet (header_in_def p) (reply_map p a))) (handle layout st p b).reply ≡ reply_packet (header_in_def p) (reply_map p a))
  unfolding bytes_by response_map
  written a is =
      let known = always_answered layout st p b can room (is_request_lem p r e).0 in
      let o : Outcome = handle layout st p b in
      subst (λ (x : List ℕ). (o.says ≡ said_by (request r) (length x)) × (take (length x) o.reply ≡ x))
      (bytes_in_lem layout (header_in_def p) o.state.memory p (response_for layout.slot1 st o.state p r) (length b)
      ∙ ap (λ (x : Response). reply_packet (header_in_def p) (response_map layout o.state.memory p x)) is)
      (subst
      (λ (q : Result Request Reason). (o.says ≡ said_by (request q) (length (bytes_by layout st o.state p (length b) (request q))))
      × (take (length (bytes_by layout st o.state p (length b) (request q))) o.reply ≡ bytes_by layout st o.state p (length b) (request q)))
      (one (sym known.read ∙ e)) (known.says, known.bytes))
    where
      one : {a : Result Request Reason} → Some a ≡ Some r → a ≡ r
      one same = cc

  -- the host reads it as it was meant
  exchanged : (a : Answered) → answered ≡ Response.Reply a → (header_in_def p).group < 65536 → Sayable p a → Sendable p a
      → (n : ℕ) × (start : ℕ) × Exchanged p r a (handle layout st p b) n start
  unfolding Sendable
  exchanged a is group sayable most =
      let m = reply_meant p a group (is_request_lem p r e).0 sayable most in
      let w = written a is in
      let whole : List ℕ = reply_packet (header_in_def p) (reply_map p a) in
      let size : length (reply_map p a) ≡ length whole - 8 = omega (arith, packet_length (header_in_def p) (reply_map p a)) in (
        length whole,
        m.0,
        record {
          says = w.0;
          read =
              ap read_reply_def w.1
              ∙ m.1
              ∙ ap (λ (k : ℕ).
              reply (record { header = reply_header_def (header_in_def p) k; rc = rc_meant a; off = off_meant a; text = text_meant a m.0 })) size;
          text = subst (λ (l : List ℕ). TextIs p a l m.0) (sym w.1) m.2;
        },
      )

-- of every request that is not refused, the host reads the reply as it was meant
pub exchange : Exchange
unfolding Tellable
exchange layout st p b r a can room bytes e is =
    let o : Outcome = handle layout st p b in
    let x : Response = response_for layout.slot1 st o.state p r in
    let told : Tellable p (answer_in layout o.state.memory p x (length b)) =
    in_tellable layout o.state.memory p x (length b)
    (answer_tellable layout.slot1 st o.state p r bytes e (answerable layout st p b r can room e)) in
    let ok : Sayable p a × Sendable p a = subst (Tellable p) is told in
    exchanged layout st p b r can room e a is (group_small p bytes) ok.0 ok.1

-- a return code fits every reply buffer
refused_fits : (p : List ℕ) (why : Reason) (room : ℕ) → 32 ≤ room → ltb room (8 + length (reply_map p (Answered.Refused why))) ≡ false
unfolding reply_map
refused_fits p why room h = rc_fits (rc_of_def why) room (rc_byte why) h

-- so does the answer to an upload
upload_fits : (layout : Layout) (m p : List ℕ) (q : Result Plan Reason) (after : State) (room : ℕ) → Sayable p (reply_to_def q after) → 32 ≤ room
    → answer_in layout m p (Response.Reply (reply_to_def q after)) room ≡ Response.Reply (reply_to_def q after)
unfolding answer_in reply_to_def response_map
upload_fits layout m p (Err why) after room can h = rw (refused_fits p why room h, pick_no) refl
upload_fits layout m p (Ok (Plan.Tell n)) after room can h = rw (placed_fits p n room can h, pick_no) refl
upload_fits layout m p (Ok Plan.Append) after room can h = rw (placed_fits p after.session.place room can h, pick_no) refl
upload_fits layout m p (Ok (Plan.Start l)) after room can h = rw (placed_fits p after.session.place room can h, pick_no) refl

-- it has no text
upload_textless : (q : Result Plan Reason) (after : State) (start : ℕ) → text_meant (reply_to_def q after) start ≡ None
unfolding reply_to_def text_meant
upload_textless (Err why) after start = refl
upload_textless (Ok (Plan.Tell n)) after start = refl
upload_textless (Ok Plan.Append) after start = refl
upload_textless (Ok (Plan.Start l)) after start = refl

-- an upload that was written is answered by its plan, and the host reads that answer
pub upload_exchange : UploadExchange
unfolding response_for act_for said_by asks_reset_def pick
upload_exchange layout st sequence x off size tag out b k can room e =
    let slot : Slot = layout.slot1 in
    let p : List ℕ = sent (write_upload_def sequence x off size tag out) k in
    let o : Outcome = handle layout st p b in
    let got = upload_meant sequence x off size tag out k e in
    let u : Upload = got.0 in
    let is : UploadIs sequence x off size tag p u = got.1 in
    let a : Answered = reply_to_def (plan_of slot st p u) o.state in
    let sayable : Sayable p a = answerable layout st p b (Ok (Request.Upload u)) can room is.read in
    let fits = upload_fits layout o.state.memory p (plan_of slot st p u) o.state (length b) sayable room in
    let group : (header_in_def p).group < 65536 = subst (λ (n : ℕ). n < 65536) (sym (ap (λ (h : Header). h.group) is.header)) (lit< tt) in
    let way =
    exchanged layout st p b (Ok (Request.Upload u)) can room is.read a fits group sayable (upload_sendable p (plan_of slot st p u) o.state sayable) in
    let n : ℕ = way.0 in
    let done-so : Exchanged p (Ok (Request.Upload u)) a o n way.1 = way.2 in (
      u,
      n,
      record {
        meant = is;
        state = state_done layout st p b (Ok (Request.Upload u)) can room is.read;
        says = done-so.says;
        read =
            done-so.read
            ∙ ap (λ (h : Header).
            reply (record { header = reply_header_def h (n - 8); rc = rc_meant a; off = off_meant a; text = text_meant a way.1 })) is.header
            ∙ ap (λ (t : Option Run). reply (record {
              header = record { op = 3; flags = 0; length = n - 8; group = 1; sequence = sequence; command = 1 };
              rc = rc_meant a;
              off = off_meant a;
              text = t;
            })) (upload_textless (plan_of slot st p u) o.state way.1);
      },
    )
