-- Any history of request calls: one memory with its two regions, record and tag handed back after each call. What is shown of the memory at every point.
-- Assumes nothing.
use Rattle.std.specs.Prelude.{ℕ, zero, suc, ◌+◌, ◌*◌, ◌-◌, ◌≤◌, ◌≡◌, true, false, List, [], ◌∷◌, ltb, length, take, drop, get_or, Some, Result}
use Rattle.laws.specs.Choice.{pick}
use Rattle.session.specs.declared.Layout.{Layout}
use Rattle.session.specs.declared.Session.{Session}
use Rattle.session.specs.Session.{layout_ok, State, state_of, possible, closed_in}
use Rattle.slot.specs.Act.{Act}
use Rattle.slot.specs.History.{HeldIn, CutFrom, SentWhole}
use Rattle.reason.specs.declared.Reason.{Reason}
use Rattle.requests.specs.declared.Request.{Request}
use Rattle.requests.specs.Request.{read_request_def, is_request_def}
use Rattle.controller.specs.Handle.{request, taking, act_by, bytes_by, said_by, handle}

-- one call's packet and reply buffer
pub record Call : Type 0 where
  pub packet : List ℕ
  pub buffer : List ℕ

-- memory, session and tag after calls, the newest first
unfoldable pub after : Layout → State → List Call → State
after layout first [] = first
after layout first (c ∷ calls) = (handle layout (after layout first calls) c.packet c.buffer).state

-- what calls did, the newest first
unfoldable pub acts_of : Layout → State → List Call → List Act
acts_of layout first [] = []
acts_of layout first (c ∷ calls) =
    let st : State = after layout first calls in
    act_by layout.slot1 st c.packet (taking layout st c.packet c.buffer) ∷ acts_of layout first calls

-- the demand, for any list of packets: at every point, what `HeldIn` says
abbrev pub PacketDemand : Type 0
PacketDemand =
    (layout : Layout) (first : State) (calls : List Call) → layout_ok layout (length first.memory) ≡ true → first.session.running ≡ false
    → HeldIn layout first (acts_of layout first calls) (after layout first calls)

-- the demand's last sentence, for packets
abbrev pub PacketUnbroken : Type 0
PacketUnbroken =
    (layout : Layout) (first : State) (calls : List Call) (image : List ℕ) → layout_ok layout (length first.memory) ≡ true
    → first.session.running ≡ false
    → (after layout first calls).session.running ≡ true
    → CutFrom image (acts_of layout first calls)
    → SentWhole layout.slot1 first image (after layout first calls)

-- any two lists of packets, of chunks of one image, leave the same memory wherever they stand open at the same place
abbrev pub PacketSameMemory : Type 0
PacketSameMemory =
    (layout : Layout) (image : List ℕ) (first first' : State) (calls calls' : List Call) → layout_ok layout (length first.memory) ≡ true
    → first.session.running ≡ false
    → first'.session.running ≡ false
    → first.memory ≡ first'.memory
    → (after layout first calls).session.running ≡ true
    → (after layout first' calls').session.running ≡ true
    → (after layout first calls).session.place ≡ (after layout first' calls').session.place
    → CutFrom image (acts_of layout first calls)
    → CutFrom image (acts_of layout first' calls')
    → (after layout first calls).memory ≡ (after layout first' calls').memory

-- the reply buffer after calls, the newest first
unfoldable pub buffer_after : Layout → State → List ℕ → List Call → List ℕ
buffer_after layout first b [] = b
buffer_after layout first b (c ∷ calls) = (handle layout (after layout first calls) c.packet c.buffer).reply

-- the length that stands before a packet of a run, in two bytes
abbrev pub size_at : List ℕ → ℕ → ℕ
size_at run at = get_or run at 0 * 256 + get_or run (at + 1) 0

-- the next call of a run, whose packet follows its length: the reply buffer is as the call before left it
abbrev pub call_at : Layout → State → List ℕ → List ℕ → ℕ → List Call → Call
call_at layout first run b at calls = record { packet = take (size_at run at) (drop (at + 2) run); buffer = buffer_after layout first b calls }

-- the calls of a run, n at most from a place on and after those made so far: as far as the packets are whole
unfoldable pub calls_from : Layout → State → List ℕ → List ℕ → ℕ → ℕ → List Call → List Call
calls_from layout first run b zero at calls = calls
calls_from layout first run b (suc n) at calls =
    pick (ltb (length run - at) 2) calls
    (pick (ltb (length run - (at + 2)) (size_at run at)) calls
    (calls_from layout first run b n (at + 2 + size_at run at) (call_at layout first run b at calls ∷ calls)))

-- the calls of a run
abbrev pub calls_of : Layout → State → List ℕ → List ℕ → List Call
calls_of layout first run b = calls_from layout first run b (length run) 0 []

-- what a run of packets leaves, from a closed session on: the state and the reply buffer as after its calls; and where the two regions are
-- possible, the demand holds of them, with its last sentence
pub record Ran (layout : Layout) (m run b m' tag' : List ℕ) (s : Session) (b' : List ℕ) : Type 0 where
  pub state : state_of m' tag' s ≡ after layout (closed_in m) (calls_of layout (closed_in m) run b)
  pub buffer : b' ≡ buffer_after layout (closed_in m) b (calls_of layout (closed_in m) run b)
  pub held : layout_ok layout (length m) ≡ true
      → HeldIn layout (closed_in m) (acts_of layout (closed_in m) (calls_of layout (closed_in m) run b)) (state_of m' tag' s)
  pub unbroken : (image : List ℕ) → layout_ok layout (length m) ≡ true → s.running ≡ true
      → CutFrom image (acts_of layout (closed_in m) (calls_of layout (closed_in m) run b))
      → SentWhole layout.slot1 (closed_in m) image (state_of m' tag' s)

-- "every request is answered": a request, with a possible layout and session and a reply buffer of 32 bytes or more, gets a reply, whose bytes
-- are those of its reply's meaning, in the form that 01 gives it
pub record AnsweredBy (layout : Layout) (st : State) (p b : List ℕ) : Type 0 where
  pub asks : Result Request Reason
  pub read : read_request_def p ≡ Some asks
  pub says : (handle layout st p b).says
      ≡ said_by (request asks) (length (bytes_by layout st (handle layout st p b).state p (length b) (request asks)))
  pub bytes : take (length (bytes_by layout st (handle layout st p b).state p (length b) (request asks))) (handle layout st p b).reply
      ≡ bytes_by layout st (handle layout st p b).state p (length b) (request asks)

abbrev pub Answered : Type 0
Answered = (layout : Layout) (st : State) (p b : List ℕ) → possible layout st ≡ true → 32 ≤ length b → is_request_def p ≡ true → AnsweredBy layout st p b
