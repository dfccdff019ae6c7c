-- The request call's definition at each way of its tests, that every response can be written, and that the act of every call is fit.
-- Assumes nothing.
use mathlib.Core.Path.{◌≡◌, refl, ap, subst, ◌∙◌}
use mathlib.Core.Bool.{true, false, not}
use mathlib.Core.List.{List}
use Prim.Native.Nat.{ℕ, ◌+◌, ◌≤◌, ◌<◌}
use native.Mathlib.Omega.{arith}
use lib.Dec.{ltb, eqb}
use lib.ListN.{length}
use borrow.Author.Tests.{lt-ltb, le-ltb, not-false}
use Rattle.std.specs.Prelude.{Option, Some, None, Result, Ok, Err}
use Rattle.reason.specs.declared.Reason.{Reason}
use Rattle.laws.specs.Choice.{pick, both}
use Rattle.laws.specs.Bytes.{pasted}
use Rattle.laws.proofs.Choice.{pick_yes, pick_no, pick_case, both_true}
use Rattle.laws.proofs.Lists.{pasted_none, pasted_length}
use Rattle.session.specs.declared.Slot.{Slot}
use Rattle.session.specs.declared.Layout.{Layout}
use Rattle.rules.specs.declared.Upload.{Upload}
use Rattle.rules.specs.declared.Plan.{Plan}
use Rattle.session.specs.Session.{region_ok, session_ok, State, possible}
use Rattle.rules.specs.Plan.{above, largest, mis_sized_def, same_tag, plan_later_def, plan_sized_def, plan_length_def, plan_first_def, plan_of}
use Rattle.slot.specs.Act.{Act, keep, append, start, erase, end, blank, done, act_of}
use Rattle.slot.specs.History.{Fit}
use Rattle.slot.proofs.Memory.{blank_length}
use Rattle.slot.proofs.Fit.{keep_fit, erase_fit, end_fit, planned_fit}
use Rattle.session.proofs.Laws.{region_bounds, session_bounds}
use Rattle.requests.specs.declared.Request.{Request}
use Rattle.smp.specs.Packet.{header_in_def}
use Rattle.requests.specs.Request.{read_request_def}
use Rattle.smp.specs.Reply.{reply_bytes, Sayable}
use Rattle.smp.specs.Inner.{Written}
use Rattle.requests.proofs.Sound.{upload_inside, echo_inside, request_sized}
use Rattle.controller.specs.declared.Response.{Response}
use Rattle.controller.specs.Inner.{Answerable}
use Rattle.controller.specs.Doing.{act_for, reply_to_def, response_for, response_map, asks_reset_def}
use Rattle.controller.specs.Handle.{replied, reset_asked, refused, Outcome, Taking, refusal, request}
use Rattle.controller.specs.Handle.{asked, taking, act_by, bytes_by, said_by, handled, handle}

-- a refusal leaves all as it was
pub refused_all : (layout : Layout) (st : State) (p b : List ℕ) (n : ℕ)
    → handled layout st p b (refusal n) ≡ record { says = refused n; state = st; reply = b }
unfolding handled act_by bytes_by said_by done
refused_all layout st p b n = ap (λ (l : List ℕ). record { says = refused n; state = st; reply = l }) (pasted_none b 0)

module _ (layout : Layout) (st : State) (p b : List ℕ) where
  -- impossible regions or an impossible record: refusal 1
  pub taking_impossible : possible layout st ≡ false → taking layout st p b ≡ refusal 1
  unfolding taking
  taking_impossible h = simp (h, pick_yes)

  -- a short reply buffer: refusal 11
  pub taking_short : possible layout st ≡ true → length b < 32 → taking layout st p b ≡ refusal 11
  unfolding taking
  taking_short h l = simp (h, pick_no, lt-ltb _ _ l, pick_yes)

  -- a packet that is no request: refusal 10
  pub taking_other : possible layout st ≡ true → 32 ≤ length b → read_request_def p ≡ None → taking layout st p b ≡ refusal 10
  unfolding taking asked
  taking_other h l e = simp (h, pick_no, le-ltb _ _ l, e)

  -- a request: it is carried out
  pub taking_request : (r : Result Request Reason) → possible layout st ≡ true → 32 ≤ length b → read_request_def p ≡ Some r → taking layout st p b ≡ request r
  unfolding taking asked
  taking_request r h l e = simp (h, pick_no, le-ltb _ _ l, e)

  -- a call that is refused leaves all as it was
  pub handle_refused : (n : ℕ) → taking layout st p b ≡ refusal n → handle layout st p b ≡ record { says = refused n; state = st; reply = b }
  handle_refused n e = ap (handled layout st p b) e ∙ refused_all layout st p b n

-- a request carried out, from its parts: the state after its act and the response that was written
module _ (layout : Layout) (st : State) (p b : List ℕ) (r : Result Request Reason) (response : Response) (n : ℕ) (b' : List ℕ) (after : State)
    (state : after ≡ done layout.slot1 (act_for layout.slot1 st p r) st) (meant : response ≡ response_for layout.slot1 st after p r)
    (written : Written (header_in_def p) (response_map layout after.memory p response) b n b') where
  -- the bytes that were written are those of the definition
  bytes_meant : reply_bytes (header_in_def p) (response_map layout after.memory p response) (length b)
      ≡ bytes_by layout st (done layout.slot1 (act_for layout.slot1 st p r) st) p (length b) (request r)
  unfolding bytes_by
  bytes_meant =
      ap (λ (x : Response). reply_bytes (header_in_def p) (response_map layout after.memory p x) (length b)) meant
      ∙ ap (λ (x : State). reply_bytes (header_in_def p) (response_map layout x.memory p (response_for layout.slot1 st x p r)) (length b)) state

  -- all that the call leaves
  pub carried_all : ◌≡◌ {A = Outcome}
      (record { says = pick (asks_reset_def r) (reset_asked n) (replied n); state = after; reply = b' })
      (handled layout st p b (request r))
  unfolding handled act_by said_by
  carried_all =
      λ i.
      record {
        says = pick (asks_reset_def r) (reset_asked ((written.count ∙ ap length bytes_meant) i)) (replied ((written.count ∙ ap length bytes_meant) i));
        state = state i;
        reply = (written.bytes ∙ ap (λ (x : List ℕ). pasted b 0 x) bytes_meant) i;
      }

-- a fit act leaves the memory as long as it was
pub done_length : (slot : Slot) (st : State) (a : Act) → region_ok slot (length st.memory) ≡ true → session_ok slot st.session ≡ true
    → Fit slot st.session a
    → length (done slot a st).memory ≡ length st.memory
unfolding done Fit
done_length slot st keep h k f = refl
done_length slot st (append off x) h k f =
    let r = region_bounds slot (length st.memory) h in
    let b = session_bounds slot st.session k f.0 in
    pasted_length st.memory (slot.start + st.session.place) x (omega (arith, r, b, f))
done_length slot st (start l tagged tag x) h k f =
    let r = region_bounds slot (length st.memory) h in
    let n = blank_length slot st.memory r.inside in
    pasted_length (blank slot st.memory) slot.start x (omega (arith, r, n, f)) ∙ n
done_length slot st erase h k f = blank_length slot st.memory (region_bounds slot (length st.memory) h).inside
done_length slot st end h k f = refl

-- a plan that tells an offset tells one of a slot
abbrev TellSmall : Result Plan Reason → Type 0
TellSmall (Err why) = Unit {0}
TellSmall (Ok (Plan.Tell n)) = n ≤ 1048576
TellSmall (Ok Plan.Append) = Unit {0}
TellSmall (Ok (Plan.Start l)) = Unit {0}

-- an offset that is told is one of the slot
module _ (slot : Slot) (st : State) (s : List ℕ) (u : Upload) (size : slot.size ≤ 1048576) (ok : session_ok slot st.session ≡ true) where
  -- an open session's place is in the slot
  place_small : st.session.running ≡ true → st.session.place ≤ 1048576
  place_small h = let b = session_bounds slot st.session ok h in omega arith

  later_small : TellSmall (plan_later_def st u)
  unfolding plan_later_def
  later_small =
      pick_case TellSmall (not st.session.running) (Ok (Plan.Tell 0)) _ (λ e. omega arith)
      (λ e. pick_case TellSmall (not (eqb u.off st.session.place)) (Ok (Plan.Tell st.session.place)) _
      (λ f. place_small (not-false st.session.running e))
      (λ f. pick_case TellSmall (ltb st.session.length (u.off + u.data.len)) _ (Ok Plan.Append) (λ g. tt) (λ g. tt)))

  -- a session whose tag is the request's is open
  tag_small : same_tag st s u.sha ≡ true → st.session.place ≤ 1048576
  unfolding same_tag
  tag_small h = place_small (both_true st.session.running _ h).0

  sized_small : (l : ℕ) → TellSmall (plan_sized_def st s u l)
  unfolding plan_sized_def
  sized_small l =
      pick_case TellSmall (ltb l u.data.len) _ _ (λ e. tt)
      (λ e. pick_case TellSmall (both (same_tag st s u.sha) (not (eqb l st.session.length))) _ _ (λ f. tt)
      (λ f. pick_case TellSmall u.upgrade _ _ (λ g. tt)
      (λ g. pick_case TellSmall (same_tag st s u.sha) (Ok (Plan.Tell st.session.place)) (Ok (Plan.Start l)) (λ h. tag_small h) (λ h. tt))))

  length_small : (n : Option ℕ) → TellSmall (plan_length_def slot st s u n)
  unfolding plan_length_def
  length_small None = tt
  length_small (Some l) =
      pick_case TellSmall (eqb l 0) _ _ (λ e. tt)
      (λ e. pick_case TellSmall (ltb slot.size l) _ _ (λ f. tt)
      (λ f. pick_case TellSmall (mis_sized_def u.sha) _ _ (λ g. tt) (λ g. sized_small l)))

  told_small : TellSmall (plan_of slot st s u)
  unfolding plan_of plan_first_def
  told_small =
      pick_case TellSmall (ltb largest u.off) _ _ (λ e. tt)
      (λ e. pick_case TellSmall (above largest u.length) _ _ (λ f. tt)
      (λ f. pick_case TellSmall (eqb u.data.len 0) _ _ (λ g. tt)
      (λ g. pick_case TellSmall (ltb 0 u.off) (plan_later_def st u) _ (λ h. later_small)
      (λ h. pick_case TellSmall (above 0 u.image) _ _ (λ i. tt) (λ i. length_small u.length)))))

  -- so is the one that an upload request is answered
  placed_small : (inside : u.data.start + u.data.len ≤ length s)
      → Sayable s (reply_to_def (plan_of slot st s u) (done slot (act_of s u (plan_of slot st s u)) st))
  unfolding reply_to_def act_of done Fit
  placed_small inside = go (plan_of slot st s u) refl
    where
      fit : (q : Result Plan Reason) → plan_of slot st s u ≡ q → Fit slot st.session (act_of s u q)
      fit q e = subst (λ (x : Result Plan Reason). Fit slot st.session (act_of s u x)) e (planned_fit slot st s u inside)

      go : (q : Result Plan Reason) → plan_of slot st s u ≡ q → Sayable s (reply_to_def q (done slot (act_of s u q) st))
      go (Err why) e = tt
      go (Ok (Plan.Tell n)) e = let t : n ≤ 1048576 = subst TellSmall e told_small in omega arith
      go (Ok Plan.Append) e =
          let f = fit (Ok Plan.Append) e in
          let b = session_bounds slot st.session ok f.0 in
          omega (arith, f.3)
      go (Ok (Plan.Start l)) e = let f = fit (Ok (Plan.Start l)) e in omega (arith, f.1, f.2)

-- a request that was read can be answered: its response can be written
pub response_answerable : (slot : Slot) (st : State) (p : List ℕ) (r : Result Request Reason) → region_ok slot (length st.memory) ≡ true
    → session_ok slot st.session ≡ true
    → read_request_def p ≡ Some r
    → Answerable p (response_for slot st (done slot (act_for slot st p r) st) p r)
unfolding response_for act_for
response_answerable slot st p (Err why) h k e = tt
response_answerable slot st p (Ok (Request.Echo text)) h k e = (echo_inside p text e, (request_sized p (Ok (Request.Echo text)) e).1)
response_answerable slot st p (Ok Request.Reset) h k e = tt
response_answerable slot st p (Ok Request.Images) h k e = tt
response_answerable slot st p (Ok (Request.Upload u)) h k e =
    placed_small slot st p u (region_bounds slot (length st.memory) h).within k (upload_inside p u e).0
response_answerable slot st p (Ok Request.Erase) h k e = tt

-- the act of a request that was read is fit
pub request_fit : (slot : Slot) (st : State) (p : List ℕ) (r : Result Request Reason) → read_request_def p ≡ Some r → Fit slot st.session (act_for slot st p r)
unfolding act_for
request_fit slot st p (Err why) e = keep_fit slot st.session
request_fit slot st p (Ok (Request.Echo text)) e = keep_fit slot st.session
request_fit slot st p (Ok Request.Reset) e = end_fit slot st.session
request_fit slot st p (Ok Request.Images) e = keep_fit slot st.session
request_fit slot st p (Ok (Request.Upload u)) e = planned_fit slot st p u (upload_inside p u e).0
request_fit slot st p (Ok Request.Erase) e = erase_fit slot st.session

-- so is the act of a packet, however it was read
read_fit : (slot : Slot) (st : State) (p : List ℕ) (r : Option (Result Request Reason)) → read_request_def p ≡ r
    → Fit slot st.session (act_by slot st p (asked r))
unfolding asked act_by
read_fit slot st p None e = keep_fit slot st.session
read_fit slot st p (Some r) e = request_fit slot st p r e

-- and the act of any call
pub call_fit : (layout : Layout) (st : State) (p b : List ℕ) → Fit layout.slot1 st.session (act_by layout.slot1 st p (taking layout st p b))
unfolding taking act_by
call_fit layout st p b =
    let slot : Slot = layout.slot1 in
    let fits : Taking → Type 0 = λ t. Fit slot st.session (act_by slot st p t) in
    pick_case fits (not (possible layout st)) _ _ (λ e. keep_fit slot st.session)
    (λ e. pick_case fits (ltb (length b) 32) _ _ (λ f. keep_fit slot st.session) (λ f. read_fit slot st p (read_request_def p) refl))
