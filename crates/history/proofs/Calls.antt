-- The memory demand for any list of packets: what a call does to memory, session and tag is one act, the act is fit, and so calls are a history
-- of fit acts, of which the slot's theorems speak.
-- Assumes nothing.
use mathlib.Core.Path.{◌≡◌, refl, sym, ap, ap₂, subst, ◌∙◌}
use mathlib.Core.List.{List, [], ◌∷◌}
use Prim.Native.Nat.{ℕ, zero, suc, ◌+◌, ◌-◌, ◌≤◌, ◌<◌}
use native.Mathlib.Omega.{arith}
use lib.ListN.{length, take, drop}
use borrow.Author.Tests.{le-ltb, lt-ltb}
use Rattle.laws.proofs.Choice.{pick_yes, pick_no}
use Rattle.session.specs.declared.Layout.{Layout}
use Rattle.session.specs.declared.Session.{Session}
use Rattle.session.specs.Session.{State, state_of, closed_in}
use Rattle.slot.specs.History.{History, begun, went, HeldIn, SentWhole}
use Rattle.session.proofs.Laws.{layout_bounds}
use Rattle.slot.proofs.History.{demand, as_unbroken, same_memory}
use Rattle.controller.specs.Handle.{Outcome, taking, act_by, handled, handle}
use Rattle.controller.proofs.Laws.{call_fit}
use Rattle.history.specs.Calls.{
  Call,
  after,
  acts_of,
  PacketDemand,
  PacketUnbroken,
  PacketSameMemory,
  buffer_after,
  size_at,
  call_at,
  calls_from,
  calls_of,
  Ran,
}

-- calls are a history of fit acts
pub calls_history : (layout : Layout) (first : State) (calls : List Call) → History layout.slot1 first (acts_of layout first calls) (after layout first calls)
unfolding after acts_of handled
calls_history layout first [] = begun
calls_history layout first (c ∷ calls) =
    let st : State = after layout first calls in
    went (calls_history layout first calls) (act_by layout.slot1 st c.packet (taking layout st c.packet c.buffer))
    (call_fit layout st c.packet c.buffer)

-- the demand, for any list of packets
pub packet_demand : PacketDemand
packet_demand layout first calls h closed = demand layout first _ _ h closed (calls_history layout first calls)

-- its last sentence: of chunks that were cut from one image, the memory is what one unbroken sending leaves
pub packet_unbroken : PacketUnbroken
packet_unbroken layout first calls image h closed open-now cut =
    as_unbroken layout.slot1 first _ _ image (layout_bounds layout (length first.memory) h).upload closed (calls_history layout first calls) open-now cut

-- two lists of packets, of chunks of one image, leave the same memory wherever they stand open at the same place
pub packet_same_memory : PacketSameMemory
packet_same_memory layout image first first' calls calls' h closed closed' alike open-now open-now' level cut cut' =
    same_memory layout.slot1 image first first' _ _ _ _ (layout_bounds layout (length first.memory) h).upload closed closed' alike
    (calls_history layout first calls) (calls_history layout first' calls') open-now
    open-now' level cut cut'

-- a run is at its end: less than a length is left, or the packet is not whole; or one packet more follows
pub run_end : (layout : Layout) (first : State) (run b : List ℕ) (n at : ℕ) (calls : List Call) → length run - at < 2
    → calls_from layout first run b n at calls ≡ calls
unfolding calls_from
run_end layout first run b zero at calls h = refl
run_end layout first run b (suc n) at calls h = simp (lt-ltb _ _ h, pick_yes)

pub run_cut : (layout : Layout) (first : State) (run b : List ℕ) (n at : ℕ) (calls : List Call) → 2 ≤ length run - at
    → length run - (at + 2) < size_at run at → calls_from layout first run b n at calls ≡ calls
unfolding calls_from
run_cut layout first run b zero at calls h l = refl
run_cut layout first run b (suc n) at calls h l = simp (le-ltb _ _ h, lt-ltb _ _ l, pick_yes, pick_no)

pub run_on : (layout : Layout) (first : State) (run b : List ℕ) (n at : ℕ) (calls : List Call) → 2 ≤ length run - at → size_at run at ≤ length run -
    (at + 2) → calls_from layout first run b (suc n) at calls
    ≡ calls_from layout first run b n (at + 2 + size_at run at) (call_at layout first run b at calls ∷ calls)
unfolding calls_from
run_on layout first run b n at calls h l = simp (le-ltb _ _ h, le-ltb _ _ l, pick_no)

-- how far a run has come at a place: the calls made so far, and what they left
pub record Come (layout : Layout) (m run b m' tag' : List ℕ) (s : Session) (b' : List ℕ) (at : ℕ) : Type 0 where
  pub left : ℕ
  pub calls : List Call
  pub enough : length run ≤ at + left
  pub same : calls_of layout (closed_in m) run b ≡ calls_from layout (closed_in m) run b left at calls
  pub state : state_of m' tag' s ≡ after layout (closed_in m) calls
  pub buffer : b' ≡ buffer_after layout (closed_in m) b calls

-- no packet was taken yet
pub come_none : (layout : Layout) (m run b tag : List ℕ) (s : Session) → state_of m tag s ≡ closed_in m → Come layout m run b m tag s b 0
unfolding after buffer_after
come_none layout m run b tag s e =
    record {
      left = length run;
      calls = [];
      enough = omega arith;
      same = refl;
      state = e;
      buffer = refl;
    }

-- one packet more was taken
pub come_more : (layout : Layout) (m run b m₁ tag₁ : List ℕ) (s₁ : Session) (b₁ : List ℕ) (at : ℕ) (m₂ tag₂ : List ℕ) (s₂ : Session) (b₂ : List ℕ)
    → Come layout m run b m₁ tag₁ s₁ b₁ at
    → 2 ≤ length run - at
    → size_at run at ≤ length run - (at + 2)
    → state_of m₂ tag₂ s₂ ≡ (handle layout (state_of m₁ tag₁ s₁) (take (size_at run at) (drop (at + 2) run)) b₁).state
    → b₂ ≡ (handle layout (state_of m₁ tag₁ s₁) (take (size_at run at) (drop (at + 2) run)) b₁).reply
    → Come layout m run b m₂ tag₂ s₂ b₂ (at + 2 + size_at run at)
unfolding after buffer_after
come_more layout m run b m₁ tag₁ s₁ b₁ at m₂ tag₂ s₂ b₂ c two whole st rep =
    let p : List ℕ = take (size_at run at) (drop (at + 2) run) in
    let first : State = closed_in m in
    let one : c.left ≡ suc (c.left - 1) = omega (arith, c.enough, two) in
    let both : handle layout (state_of m₁ tag₁ s₁) p b₁ ≡ handle layout (after layout first c.calls) p (buffer_after layout first b c.calls) =
    ap₂ (λ (x : State) (y : List ℕ). handle layout x p y) c.state c.buffer in
    record {
      left = c.left - 1;
      calls = call_at layout first run b at c.calls ∷ c.calls;
      enough = omega (arith, c.enough, two);
      same =
          c.same
          ∙ ap (λ (n : ℕ). calls_from layout first run b n at c.calls) one
          ∙ run_on layout first run b (c.left - 1) at c.calls two whole;
      state = st ∙ ap (λ (o : Outcome). o.state) both;
      buffer = rep ∙ ap (λ (o : Outcome). o.reply) both;
    }

-- no packet is left: what the run promises
pub come_end : (layout : Layout) (m run b m' tag' : List ℕ) (s : Session) (b' : List ℕ) (at : ℕ) (c : Come layout m run b m' tag' s b' at)
    → calls_from layout (closed_in m) run b c.left at c.calls ≡ c.calls
    → Ran layout m run b m' tag' s b'
come_end layout m run b m' tag' s b' at c e =
    let first : State = closed_in m in
    let all : c.calls ≡ calls_of layout first run b = sym (c.same ∙ e) in
    let state : state_of m' tag' s ≡ after layout first (calls_of layout first run b) = c.state ∙ ap (λ (l : List Call). after layout first l) all in
    record {
      state = state;
      buffer = c.buffer ∙ ap (λ (l : List Call). buffer_after layout first b l) all;
      held = λ h.
          subst (λ (st : State). HeldIn layout first (acts_of layout first (calls_of layout first run b)) st) (sym state)
          (packet_demand layout first (calls_of layout first run b) h refl);
      unbroken = λ image h running cut.
          subst (λ (st : State). SentWhole layout.slot1 first image st) (sym state)
          (packet_unbroken layout first (calls_of layout first run b) image h refl (ap (λ (st : State). st.session.running) (sym state) ∙ running) cut);
    }
