-- What the request call leaves in the session record fits the arrays of 32-bit numbers.
-- Assumes nothing.
use mathlib.Core.Path.{◌≡◌, refl, sym, subst}
use mathlib.Core.Bool.{Bool, true, false, not}
use mathlib.Core.List.{List}
use Prim.Native.Nat.{ℕ, ◌+◌, ◌≤◌, ◌<◌}
use native.Mathlib.Omega.{arith}
use lib.Dec.{ltb, lit<}
use lib.ListN.{length}
use borrow.Author.Tests.{not-false}
use Rattle.laws.proofs.Choice.{pick_case, both_true}
use Rattle.reason.specs.Rc.{rc_of_def}
use Rattle.cbor.specs.Write.{head_of}
use Rattle.cbor.proofs.Laws.{head_long, len_most}
use Rattle.session.specs.declared.Slot.{Slot}
use Rattle.session.specs.declared.Layout.{Layout}
use Rattle.session.specs.Session.{layout_ok, session_ok, State, possible}
use Rattle.slot.specs.Act.{Act, done}
use Rattle.slot.specs.History.{Fit}
use Rattle.session.proofs.Laws.{region_bounds, layout_bounds}
use Rattle.smp.specs.declared.Header.{Header}
use Rattle.smp.specs.declared.Reply.{Reply}
use Rattle.std.specs.Prelude.{Option, Some, None, Result}
use Rattle.requests.specs.declared.Request.{Request}
use Rattle.reason.specs.declared.Reason.{Reason}
use Rattle.smp.specs.Packet.{header_in_def}
use Rattle.requests.specs.Request.{read_request_def}
use Rattle.smp.specs.Reply.{rc_map, reply_map, reply_packet, reply_bytes}
use Rattle.smp.proofs.Writing.{rc_length, placed_length, packet_length, rc_map_lem, text_map}
use Rattle.listing.specs.Listing.{list_map}
use Rattle.listing.proofs.Laws.{list_length}
use Rattle.controller.specs.declared.Response.{Response}
use Rattle.controller.specs.declared.Handled.{Handled}
use Rattle.controller.specs.Doing.{act_for, response_for, response_map, asks_reset_def}
use Rattle.controller.specs.Inner.{Answerable}
use Rattle.controller.specs.Handle.{
  said,
  Outcome,
  outcome,
  Taking,
  asked,
  taking,
  act_by,
  bytes_by,
  said_by,
  handled,
  handle,
}
use Rattle.controller.proofs.Laws.{taking_impossible, handle_refused, response_answerable, call_fit}
use Rattle.records.specs.Inner.{Held32, HandledSmall}

-- an act that is fit leaves small numbers small
fit_small : (slot : Slot) (st : State) (a : Act) → slot.size ≤ 1048576 → Held32 st.session → Fit slot st.session a → Held32 (done slot a st).session
unfolding done Fit
fit_small slot st Act.keep h k f = k
fit_small slot st (Act.append off x) h k f = (k.0, omega (arith, f.3, k.0))
fit_small slot st (Act.start l tagged tag x) h k f = (omega (arith, f.2), omega (arith, f.1, f.2))
fit_small slot st Act.erase h k f = (omega arith, omega arith)
fit_small slot st Act.end h k f = (omega arith, omega arith)

-- so does a call that is possible
call_small : (layout : Layout) (st : State) (p b : List ℕ) → possible layout st ≡ true → Held32 st.session
    → Held32 (handle layout st p b).state.session
unfolding handled
call_small layout st p b h k =
    let oks = both_true (layout_ok layout (length st.memory)) (session_ok layout.slot1 st.session) h in
    let region = (layout_bounds layout (length st.memory) oks.0).upload in
    fit_small layout.slot1 st (act_by layout.slot1 st p (taking layout st p b)) (region_bounds layout.slot1 (length st.memory) region).within k
    (call_fit layout st p b)

-- so does any call
pub any_small : (layout : Layout) (st : State) (p b : List ℕ) → Held32 st.session → Held32 (handle layout st p b).state.session
any_small layout st p b k = by-test (possible layout st) refl
  where
    by-test : (t : Bool) → possible layout st ≡ t → Held32 (handle layout st p b).state.session
    by-test true e = call_small layout st p b e k
    by-test false e = subst (λ (o : Outcome). Held32 o.state.session) (sym (handle_refused layout st p b 1 (taking_impossible layout st p b e))) k

-- a head has nine bytes at most
head_nine : (m n : ℕ) → length (head_of m n) ≤ 9
head_nine m n = subst (λ (k : ℕ). k ≤ 9) (sym (head_long m n)) (len_most n)

-- a response that can be written is small
bytes_small : (layout : Layout) (h : Header) (m p : List ℕ) (x : Response) (room : ℕ) → Answerable p x
    → length (reply_bytes h (response_map layout m p x) room) < 4294967296
unfolding reply_bytes response_map reply_map
bytes_small layout h m p x room s =
    pick_case (λ (y : List ℕ). length y < 4294967296) (ltb room (8 + length (response_map layout m p x))) _ _ (λ e. omega (arith, rc_length h 7 (lit< tt)))
    (λ e. meant x s)
  where
    meant : (x : Response) → Answerable p x → length (reply_packet h (response_map layout m p x)) < 4294967296
    meant (Response.Reply (Reply.Refused why)) s = omega (arith, packet_length h (rc_map (rc_of_def why)), rc_map_lem (rc_of_def why), head_nine 0 (rc_of_def why))
    meant (Response.Reply Reply.Done) s = omega (arith, rc_length h 0 (lit< tt))
    meant (Response.Reply (Reply.Placed n)) s = omega (arith, placed_length h p n s)
    meant (Response.Reply (Reply.Text r)) s =
        omega (arith, packet_length h (reply_map p (Reply.Text r)), text_map p r s.0, head_nine 0 r.len, s.0, s.1)
    meant Response.Images s = omega (arith, packet_length h (list_map m layout), list_length m layout)

-- what any call says is small
said_small : (layout : Layout) (st : State) (p b : List ℕ) → HandledSmall (handle layout st p b).says
unfolding handled taking said_by bytes_by act_by asked
said_small layout st p b =
    let small : Taking → Type 0 = λ t. HandledSmall (handled layout st p b t).says in
    pick_case small (not (possible layout st)) _ _ (λ e. tt)
    (λ e. pick_case small (ltb (length b) 32) _ _ (λ f. tt) (λ f. read (not-false (possible layout st) e) (read_request_def p) refl))
  where
    read : possible layout st ≡ true → (t : Option (Result Request Reason)) → read_request_def p ≡ t → HandledSmall (handled layout st p b (asked t)).says
    read h None e = tt
    read h (Some r) e =
        let slot = layout.slot1 in
        let after = done slot (act_for slot st p r) st in
        let oks = both_true (layout_ok layout (length st.memory)) (session_ok slot st.session) h in
        let can = response_answerable slot st p r (layout_bounds layout (length st.memory) oks.0).upload oks.1 e in
        let n = bytes_small layout (header_in_def p) after.memory p (response_for slot st after p r) (length b) can in
        pick_case HandledSmall (asks_reset_def r) _ _ (λ f. n) (λ f. n)

-- what a call gave is small
pub given_small : (layout : Layout) (st : State) (p b : List ℕ) (h : Handled) (m' tag' b' : List ℕ) → outcome h m' tag' b' ≡ handle layout st p b
    → Held32 st.session
    → Held32 h.session × HandledSmall (said h.answer)
given_small layout st p b h m' tag' b' e k = (
  subst (λ (o : Outcome). Held32 o.state.session) (sym e) (any_small layout st p b k),
  subst (λ (o : Outcome). HandledSmall o.says) (sym e) (said_small layout st p b),
)
