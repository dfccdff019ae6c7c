-- `controller::take` meets its contract: its tests are those of the definition, in the order of the refusals; then the request is carried out,
-- and its response written.
-- Assumes nothing.
use mathlib.Core.Path.{◌≡◌, refl, sym, ap, subst, ◌∙◌}
use mathlib.Core.Bool.{true}
use Prim.Native.Nat.{ℕ}
use native.Mathlib.Omega.{arith}
use lib.ListN.{length}
use Rattle.std.specs.Prelude.{Some, None, Err}
use Rattle.laws.proofs.Choice.{both_true}
use Rattle.std.specs.Result.{result_ok}
use Rattle.std.proofs.lemmas.Grind.{common_steps}
use Rattle.refusal.specs.declared.Refusal.{Refusal}
use Rattle.session.specs.Session.{region_ok, layout_ok, session_ok, State}
use Rattle.session.proofs.Laws.{layout_bounds}
use Rattle.slot.specs.Store.{state_in}
use Rattle.requests.specs.Request.{read_request_def}
use Rattle.requests.proofs.Sound.{request_sized}
use Rattle.controller.specs.Doing.{act_for, response_for}
use Rattle.controller.specs.Inner.{Answerable}
use Rattle.controller.specs.Handle.{handled}
use Rattle.controller.proofs.Laws.{taking_impossible, taking_short, taking_other, taking_request, handle_refused}
use Rattle.controller.proofs.Laws.{carried_all, response_answerable, request_fit, done_length}
use Rattle.controller.proofs.take.Goals.{In_ok-request}
use Rattle.controller.proofs.take.Goals as goal

pub returns-then-not-possible : goal.returns-then-not-possible
returns-then-not-possible c =
    let a = c.args in
    let st = state_in a.store.now in
    record {
      same_memory = refl;
      same_tag = refl;
      outcome = sym (handle_refused a.layout st a.packet.now a.reply.now 1
          (taking_impossible a.layout st a.packet.now a.reply.now (sym c.possible.ensures ∙ c.if-not-possible.true)));
    }

pub returns-then-reply-lt32 : goal.returns-then-reply-lt32
returns-then-reply-lt32 c =
    let a = c.args in
    let st = state_in a.store.now in
    record {
      same_memory = refl;
      same_tag = refl;
      outcome = sym (handle_refused a.layout st a.packet.now a.reply.now 11
          (taking_short a.layout st a.packet.now a.reply.now (sym c.possible.ensures ∙ c.if-not-possible.false) (omega arith)));
    }

pub returns-in_err-request : goal.returns-in_err-request
returns-in_err-request c =
    let a = c.args in
    let st = state_in a.store.now in
    let none : read_request_def a.packet.now ≡ None = sym c.read_request.ensures ∙ c.ok_or.ensures.ok_part ∙ ap result_ok c.in_err-request.was in
    let is : c.from_residual.result ≡ Err Refusal.WrongKind = grind (arith, common_steps) in
    rw is (record {
      same_memory = refl;
      same_tag = refl;
      outcome = sym (handle_refused a.layout st a.packet.now a.reply.now 10
          (taking_other a.layout st a.packet.now a.reply.now (sym c.possible.ensures ∙ c.if-not-possible.false) (omega arith) none));
    })

-- what is known of a request that was read: it is the packet's, and regions and session are possible
read : (c : In_ok-request) → read_request_def c.args.packet.now ≡ Some c.in_ok-request.request
read c = sym c.read_request.ensures ∙ c.ok_or.ensures.ok_part ∙ ap result_ok c.in_ok-request.was

possible-both : (c : In_ok-request) → (layout_ok c.args.layout (length c.args.store.now.memory.now) ≡ true)
    × (session_ok c.args.layout.slot1 c.args.store.now.session ≡ true)
possible-both c = both_true _ _ (sym c.possible.ensures ∙ c.if-not-possible.false)

region : (c : In_ok-request) → region_ok c.args.store.now.slot (length c.args.store.now.memory.now) ≡ true
region c = rw c.requires (layout_bounds c.args.layout _ (possible-both c).0).upload

session : (c : In_ok-request) → session_ok c.args.store.now.slot c.args.store.now.session ≡ true
session c = rw c.requires (possible-both c).1

pub carry-response-requires-clause-memory_value : goal.carry-response-requires-clause-memory_value
carry-response-requires-clause-memory_value c =
    let d = (goal.at.carry-response-requires-clause-memory_value c).In_ok-request in
    (region d, session d)

pub carry-response-requires-clause-packet_value : goal.carry-response-requires-clause-packet_value
carry-response-requires-clause-packet_value c = read (goal.at.carry-response-requires-clause-packet_value c).In_ok-request

pub write_response-length-requires-clause-memory_value : goal.write_response-length-requires-clause-memory_value
write_response-length-requires-clause-memory_value c =
    let d = (goal.at.write_response-length-requires-clause-memory_value c).In_ok-request in
    let s = c.args.store.now in
    let st = state_in s in
    let r = c.in_ok-request.request in
    let fit = request_fit s.slot st c.args.packet.now r (read d) in
    let same = ap (λ (x : State). length x.memory) c.carry-response.ensures.did.state
    ∙ done_length s.slot st (act_for s.slot st c.args.packet.now r) (region d) (session d) fit in
    subst (λ (n : ℕ). layout_ok c.args.layout n ≡ true) (sym same) (possible-both d).0

pub write_response-length-requires-clause-packet_bound : goal.write_response-length-requires-clause-packet_bound
write_response-length-requires-clause-packet_bound c =
    let d = (goal.at.write_response-length-requires-clause-packet_bound c).In_ok-request in
    omega (arith, (request_sized c.args.packet.now c.in_ok-request.request (read d)).2)

pub write_response-length-requires-clause-answerable : goal.write_response-length-requires-clause-answerable
write_response-length-requires-clause-answerable c =
    let d = (goal.at.write_response-length-requires-clause-answerable c).In_ok-request in
    let p = c.args.packet.now in
    let s = c.args.store.now in
    let st = state_in s in
    let r = c.in_ok-request.request in
    let done-so = c.carry-response.ensures in
    let meant = done-so.response ∙ ap (λ (x : State). response_for s.slot st x p r) done-so.did.state in
    subst (Answerable p) (sym meant) (response_answerable s.slot st p r (region d) (session d) (read d))

pub returns : goal.returns
returns c =
    let d = (goal.at.returns c).In_ok-request in
    let a = c.args in
    let st = state_in a.store.now in
    let p = a.packet.now in
    let b = a.reply.now in
    let r = c.in_ok-request.request in
    let done-so = c.carry-response.ensures in
    let state = rw c.requires at done-so.did.state in
    let meant = rw c.requires at done-so.response in
    let taken = taking_request a.layout st p b r (sym c.possible.ensures ∙ c.if-not-possible.false) (omega arith) (read d) in
    record {
      same_memory = done-so.did.same_memory;
      same_tag = done-so.did.same_tag;
      outcome = rw c.asks_reset.ensures
          (carried_all a.layout st p b r c.carry-response.result c.write_response-length.result _ (state_in c.carry-response.new.store) state meant
          c.write_response-length.ensures
          ∙ ap (handled a.layout st p b) (sym taken));
    }
