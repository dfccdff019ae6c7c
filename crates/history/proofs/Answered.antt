-- Every request is answered: what is read as a request is carried out, and its reply stands at the buffer's start.
-- Assumes nothing.
use mathlib.Core.Path.{◌≡◌, refl, ap, ◌∙◌}
use mathlib.Core.List.{List}
use Prim.Native.Nat.{ℕ}
use lib.ListN.{length, take, drop}
use lib.Seq.{take_at}
use Rattle.laws.specs.Bytes.{pasted}
use Rattle.laws.proofs.Choice.{pick_yes}
use Rattle.laws.proofs.Lists.{pasted_start}
use Rattle.session.specs.declared.Layout.{Layout}
use Rattle.session.specs.Session.{State}
use Rattle.std.specs.Prelude.{Some, Result}
use Rattle.reason.specs.declared.Reason.{Reason}
use Rattle.requests.specs.declared.Request.{Request}
use Rattle.smp.specs.Packet.{header_in_def}
use Rattle.requests.specs.Request.{command_of_def, request_of_def, read_request_def}
use Rattle.controller.specs.Handle.{Taking, request, taking, bytes_by, said_by, handled}
use Rattle.history.specs.Calls.{Answered}
use Rattle.controller.proofs.Laws.{taking_request}

-- what a call leaves that is taken as a request
module _ (layout : Layout) (st : State) (p b : List ℕ) (r : Result Request Reason) where
  said_so : (t : Taking) → t ≡ request r
      → (handled layout st p b t).says ≡ said_by (request r) (length (bytes_by layout st (handled layout st p b t).state p (length b) (request r)))
  unfolding handled
  said_so t e = rw e refl

  stands : (t : Taking) → t ≡ request r
      → take (length (bytes_by layout st (handled layout st p b t).state p (length b) (request r))) (handled layout st p b t).reply
      ≡ bytes_by layout st (handled layout st p b t).state p (length b) (request r)
  unfolding handled
  stands t e = rw e (at-start (bytes_by layout st _ p (length b) (request r)))
    where
      at-start : (x : List ℕ) → take (length x) (pasted b 0 x) ≡ x
      at-start x = ap (λ (m : List ℕ). take (length x) m) (pasted_start b x) ∙ take_at x (drop (length x) b) (length x) refl

pub always_answered : Answered
unfolding read_request_def
always_answered layout st p b h l e =
    let r = request_of_def (command_of_def (header_in_def p)) p in
    let read : read_request_def p ≡ Some r = rw (e, pick_yes) in
    let taken : taking layout st p b ≡ request r = taking_request layout st p b r h l read in
    record { asks = r; read = read; says = said_so layout st p b r (taking layout st p b) taken; bytes = stands layout st p b r (taking layout st p b) taken }
