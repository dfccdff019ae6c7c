-- Demand 3 for a controller in C: its arrays stand for the states that the packets go through.
-- Assumes nothing.
use mathlib.Core.Path.{◌≡◌, refl, sym, ap, subst, ◌∙◌}
use mathlib.Core.Bool.{Bool, true, false}
use mathlib.Core.List.{List, [], ◌∷◌}
use Prim.Native.Nat.{ℕ}
use native.Mathlib.Omega.{arith}
use lib.ListN.{length}
use Rattle.laws.specs.Choice.{pick}
use Rattle.laws.proofs.Choice.{pick_yes, pick_no}
use Rattle.session.specs.declared.Layout.{Layout}
use Rattle.session.specs.declared.Session.{Session}
use Rattle.session.specs.Session as slots
use Rattle.session.specs.Session.{State, state_of, layout_ok, closed, closed_in, no_tag}
use Rattle.slot.specs.Act.{done}
use Rattle.slot.specs.History.{HeldIn, SentWhole}
use Rattle.controller.specs.Handle.{Said, replied, reset_asked, refused, Taking, refusal, request, said_by, act_by, taking, handled, handle}
use Rattle.controller.specs.Doing.{asks_reset_def}
use Rattle.history.specs.Calls as calling
use Rattle.history.specs.Calls.{acts_of}
use Rattle.history.proofs.Calls.{packet_demand, packet_unbroken, packet_same_memory}
use Rattle.records.specs.Records.{layout_of, session_of, session_numbers}
use Rattle.records.specs.Results.{handled_by}
use Rattle.packet_calls.specs.Calls.{handled_c, ConfiguredC, configured_by, configured_c}
use Rattle.caller.specs.Handling.{
  Kept,
  state_in,
  configured_in,
  HandleCall,
  kept_by,
  kept_after,
  calls_in,
  after,
  Configured,
  CallerDemand,
  CallerUnbroken,
  CallersAgree,
}
use Rattle.caller.proofs.Records.{session_back}

-- a reply is no refusal
no_refusal : (r : Bool) (size n : ℕ) → pick r (reset_asked size) (replied size) ≡ refused n → ⊥
unfolding pick
no_refusal true size n e = let z : ◌≡◌ {A = ℕ} 0 1 = cc in omega arith
no_refusal false size n e = let z : ◌≡◌ {A = ℕ} 0 1 = cc in omega arith

-- a call that was refused leaves the state
refused_stays : (layout : Layout) (st : State) (p b : List ℕ) (n : ℕ) → (handle layout st p b).says ≡ refused n → (handle layout st p b).state ≡ st
unfolding handled act_by said_by done
refused_stays layout st p b n e = by-taking (taking layout st p b) e
  where
    by-taking : (t : Taking) → (handled layout st p b t).says ≡ refused n → (handled layout st p b t).state ≡ st
    by-taking (refusal m) e = refl
    by-taking (request r) e = absurd (no_refusal (asks_reset_def r) _ n e)

-- what a call's arrays stand for afterwards, by what was said: the state that the packet leaves
by_said : (layout : Layout) (k : Kept) (c : HandleCall) (a : Said) → (handle layout (state_in k) c.packet c.reply).says ≡ a
    → state_in (kept_by (handled_by k.session c.answer (handle layout (state_in k) c.packet c.reply) a))
    ≡ (handle layout (state_in k) c.packet c.reply).state
unfolding handled_by
by_said layout k c (replied n) e =
    let st : State = (handle layout (state_in k) c.packet c.reply).state in
    ap (λ (s : Session). state_of st.memory st.tag s) (session_back st.session)
by_said layout k c (reset_asked n) e =
    let st : State = (handle layout (state_in k) c.packet c.reply).state in
    ap (λ (s : Session). state_of st.memory st.tag s) (session_back st.session)
by_said layout k c (refused n) e =
    let st : State = (handle layout (state_in k) c.packet c.reply).state in
    ap (λ (s : Session). state_of st.memory st.tag s) (sym (ap (λ (u : State). u.session) (refused_stays layout (state_in k) c.packet c.reply n e)))

-- the arrays after calls stand for the state after their packets
kept_is : (l : List ℕ) (first : Kept) (calls : List HandleCall)
    → state_in (kept_after l first calls) ≡ calling.after (layout_of l) (state_in first) (calls_in calls)
unfolding kept_after calls_in calling.after handled_c
kept_is l first [] = refl
kept_is l first (c ∷ calls) =
    let k : Kept = kept_after l first calls in
    by_said (layout_of l) k c (handle (layout_of l) (state_in k) c.packet c.reply).says refl
    ∙ ap (λ (st : State). (handle (layout_of l) st c.packet c.reply).state) (kept_is l first calls)

-- what configuring gives for a layout that is possible, and for one that is not
configured_yes : (l : List ℕ) (k : Kept) → layout_ok (layout_of l) (length k.memory) ≡ true
    → configured_c l (length k.memory) k.session k.tag ≡ record { result = 0; session = session_numbers closed; tag = no_tag }
unfolding configured_c configured_by slots.configured
configured_yes l k e = rw (e, pick_yes)

configured_no : (l : List ℕ) (k : Kept) → layout_ok (layout_of l) (length k.memory) ≡ false
    → (configured_c l (length k.memory) k.session k.tag).result ≡ 1
unfolding configured_c configured_by slots.configured
configured_no l k e = rw (e, pick_no)

-- a configuration that was not refused is of a layout that is possible, and leaves a closed session
configured_is : (l : List ℕ) (k : Kept) → Configured l k
    → (layout_ok (layout_of l) (length k.memory) ≡ true) × (state_in (configured_in l k) ≡ closed_in k.memory)
configured_is l k c = by-test (layout_ok (layout_of l) (length k.memory)) refl
  where
    by-test : (t : Bool) → layout_ok (layout_of l) (length k.memory) ≡ t
        → (layout_ok (layout_of l) (length k.memory) ≡ true) × (state_in (configured_in l k) ≡ closed_in k.memory)
    by-test true e = (
      e,
      ap (λ (r : ConfiguredC). state_of k.memory r.tag (session_of r.session)) (configured_yes l k e)
          ∙ ap (λ (s : Session). state_of k.memory no_tag s) (session_back closed),
    )
    by-test false e = let z : ◌≡◌ {A = ℕ} 0 1 = sym c ∙ configured_no l k e in absurd (omega arith)

-- so the arrays after any calls stand for the state after their packets, from a closed session on
after_is : (l : List ℕ) (k : Kept) (calls : List HandleCall) → Configured l k
    → after l k calls ≡ calling.after (layout_of l) (closed_in k.memory) (calls_in calls)
after_is l k calls c =
    kept_is l (configured_in l k) calls
    ∙ ap (λ (st : State). calling.after (layout_of l) st (calls_in calls)) (configured_is l k c).1

-- the demand
pub caller_demand : CallerDemand
caller_demand l k calls c =
    let layout : Layout = layout_of l in
    let first : State = closed_in k.memory in
    subst (λ (st : State). HeldIn layout first (acts_of layout first (calls_in calls)) st) (sym (after_is l k calls c))
    (packet_demand layout first (calls_in calls) (configured_is l k c).0 refl)

-- its last sentence
pub caller_unbroken : CallerUnbroken
caller_unbroken l k calls image c running cut =
    let layout : Layout = layout_of l in
    let first : State = closed_in k.memory in
    let is = after_is l k calls c in
    subst (λ (st : State). SentWhole layout.slot1 first image st) (sym is)
    (packet_unbroken layout first (calls_in calls) image (configured_is l k c).0 refl (ap (λ (st : State). st.session.running) (sym is) ∙ running) cut)

-- two controllers that took chunks of one image agree
pub callers_agree : CallersAgree
callers_agree l k k' calls calls' image c c' alike running running' level cut cut' =
    let layout : Layout = layout_of l in
    let is = after_is l k calls c in
    let is' = after_is l k' calls' c' in
    ap (λ (st : State). st.memory) is
    ∙ packet_same_memory layout image (closed_in k.memory) (closed_in k'.memory) (calls_in calls) (calls_in calls') (configured_is l k c).0 refl
    refl alike (ap (λ (st : State). st.session.running) (sym is) ∙ running) (ap (λ (st : State). st.session.running) (sym is') ∙ running')
    (ap (λ (st : State). st.session.place) (sym is) ∙ level ∙ ap (λ (st : State). st.session.place) is') cut cut'
    ∙ ap (λ (st : State). st.memory) (sym is')
