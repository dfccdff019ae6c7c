-- Demand 3 for a controller in C: "one memory with one slot in it, the record closed at first and handed back after each call, nothing else writing
-- there, and any packets in any order after its one configuration".
-- Assumes nothing.
use Rattle.std.specs.Prelude.{ℕ, ◌≡◌, true, List, [], ◌∷◌, length}
use Rattle.session.specs.Session.{State, state_of, closed_in}
use Rattle.slot.specs.Act.{Act}
use Rattle.slot.specs.History.{HeldIn, CutFrom, SentWhole}
use Rattle.history.specs.Calls.{Call, acts_of}
use Rattle.records.specs.Records.{layout_of, session_of}
use Rattle.records.specs.Results.{HandledC}
use Rattle.packet_calls.specs.Calls.{handled_c, configured_c}

-- the arrays that the controller keeps from call to call
pub record Kept : Type 0 where
  pub memory : List ℕ
  pub session : List ℕ
  pub tag : List ℕ

-- what they stand for
abbrev pub state_in : Kept → State
state_in k = state_of k.memory k.tag (session_of k.session)

-- what they hold after bg_configure: the memory as it was, and the session record and tag that it left
abbrev pub configured_in : List ℕ → Kept → Kept
configured_in l k =
    record {
      memory = k.memory;
      session = (configured_c l (length k.memory) k.session k.tag).session;
      tag = (configured_c l (length k.memory) k.session k.tag).tag;
    }

-- one call of bg_handle: its packet, its reply buffer and the two numbers of its answer
pub record HandleCall : Type 0 where
  pub packet : List ℕ
  pub reply : List ℕ
  pub answer : List ℕ

-- what a call leaves in the arrays that are kept
abbrev pub kept_by : HandledC → Kept
kept_by h = record { memory = h.memory; session = h.session; tag = h.tag }

-- the arrays after calls, the newest first, each handed what the one before it left
unfoldable pub kept_after : List ℕ → Kept → List HandleCall → Kept
kept_after l first [] = first
kept_after l first (c ∷ calls) =
    let k : Kept = kept_after l first calls in
    kept_by (handled_c l k.memory k.session k.tag c.packet c.reply c.answer)

-- the calls' packets and reply buffers
unfoldable pub calls_in : List HandleCall → List Call
calls_in [] = []
calls_in (c ∷ calls) = record { packet = c.packet; buffer = c.reply } ∷ calls_in calls

-- what the arrays stand for after one configuration that was not refused, and any calls
abbrev pub after : List ℕ → Kept → List HandleCall → State
after l k calls = state_in (kept_after l (configured_in l k) calls)

-- what those calls did
abbrev pub acts_in : List ℕ → Kept → List HandleCall → List Act
acts_in l k calls = acts_of (layout_of l) (closed_in k.memory) (calls_in calls)

-- a configuration was not refused
abbrev pub Configured : List ℕ → Kept → Type 0
Configured l k = (configured_c l (length k.memory) k.session k.tag).result ≡ 0

-- the demand
abbrev pub CallerDemand : Type 0
CallerDemand =
    (l : List ℕ) (k : Kept) (calls : List HandleCall) → Configured l k
    → HeldIn (layout_of l) (closed_in k.memory) (acts_in l k calls) (after l k calls)

-- its last sentence
abbrev pub CallerUnbroken : Type 0
CallerUnbroken =
    (l : List ℕ) (k : Kept) (calls : List HandleCall) (image : List ℕ) → Configured l k
    → (after l k calls).session.running ≡ true
    → CutFrom image (acts_in l k calls)
    → SentWhole (layout_of l).slot1 (closed_in k.memory) image (after l k calls)

-- two controllers that were configured alike over equal memories, and took chunks of one image, hold the same memory wherever they stand open at the
-- same place
abbrev pub CallersAgree : Type 0
CallersAgree =
    (l : List ℕ) (k k' : Kept) (calls calls' : List HandleCall) (image : List ℕ) → Configured l k
    → Configured l k'
    → k.memory ≡ k'.memory
    → (after l k calls).session.running ≡ true
    → (after l k' calls').session.running ≡ true
    → (after l k calls).session.place ≡ (after l k' calls').session.place
    → CutFrom image (acts_in l k calls)
    → CutFrom image (acts_in l k' calls')
    → (after l k calls).memory ≡ (after l k' calls').memory
