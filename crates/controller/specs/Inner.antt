-- Only proofs need this file: what carrying a request out promises, the state after its act and the response; which responses can be written;
-- and what taking a packet promises.
-- Assumes nothing.
use Rattle.std.specs.Prelude.{ℕ, ◌≡◌, List, Result}
use Prim.{Unit}
use Rattle.refusal.specs.declared.Refusal.{Refusal}
use Rattle.reason.specs.declared.Reason.{Reason}
use Rattle.session.specs.declared.Layout.{Layout}
use Rattle.slot.specs.declared.Store.{Store}
use Rattle.slot.specs.Store.{state_in, Did}
use Rattle.requests.specs.declared.Request.{Request}
use Rattle.smp.specs.Reply.{Sayable}
use Rattle.controller.specs.declared.Response.{Response}
use Rattle.controller.specs.declared.Replied.{Replied}
use Rattle.controller.specs.Doing.{act_for, response_for}
use Rattle.controller.specs.Handle.{Outcome, said, handle}

-- a request r of the packet p, carried out in a store, gave a response
pub record Carried (before after : Store) (p : List ℕ) (r : Result Request Reason) (x : Response) : Type 0 where
  pub did : Did before after (act_for before.slot (state_in before) p r)
  pub response : x ≡ response_for before.slot (state_in before) (state_in after) p r

-- a response can be written to the request p
abbrev pub Answerable : List ℕ → Response → Type 0
Answerable p (Response.Reply r) = Sayable p r
Answerable p Response.Images = Unit {0}

-- the outcome of taking a packet that gave this answer, and left b in the reply buffer
abbrev pub outcome_in : Result Replied Refusal → Store → List ℕ → Outcome
outcome_in answer after b = record { says = said answer; state = state_in after; reply = b }

-- the packet p was taken, with b in the reply buffer before and b' after; the same memory and tag are lent
pub record Took (layout : Layout) (before after : Store) (p b b' : List ℕ) (answer : Result Replied Refusal) : Type 0 where
  pub same_memory : after.memory.ghost_name ≡ before.memory.ghost_name
  pub same_tag : after.tag.ghost_name ≡ before.tag.ghost_name
  pub outcome : outcome_in answer after b' ≡ handle layout (state_in before) p b
