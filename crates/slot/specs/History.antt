-- What is shown of any history of acts: "Whenever a session stands open at offset n, the slot's first n bytes are the data written since that
-- session's start, joined in order, and the slot's other bytes are 255. No byte outside the slot has ever changed."
-- Assumes nothing.
use Rattle.std.specs.Prelude.{ℕ, ◌+◌, ◌-◌, ◌≤◌, ◌≡◌, Bool, true, false, List, [], ◌∷◌, ◌++◌, length, take, drop, replicate}
use Rattle.session.specs.declared.Slot.{Slot}
use Rattle.session.specs.declared.Layout.{Layout}
use Rattle.session.specs.declared.Session.{Session}
use Rattle.session.specs.Session.{region_ok, layout_ok, session_ok, State}
use Rattle.slot.specs.Act.{Act, keep, append, start, erase, end, done}

-- an act that the upload rules may come to in a session: data is added only to an open session, at the offset that its request names, which
-- is the session's place, and within its length; a session starts only with a length that the slot has and with data within it
unfoldable pub Fit : Slot → Session → Act → Type 0
Fit slot s keep = Unit {0}
Fit slot s (append off x) = (s.running ≡ true) × (off ≡ s.place) × (1 ≤ length x) × (s.place + length x ≤ s.length)
Fit slot s (start l tagged tag x) = (1 ≤ length x) × (length x ≤ l) × (l ≤ slot.size)
Fit slot s erase = Unit {0}
Fit slot s end = Unit {0}

-- a history of acts, the newest first, from a state to a state, each act fit where it was done
pub data History (slot : Slot) (first : State) : List Act → State → Type 0 where
  begun : History slot first [] first
  went : {acts : List Act} {st : State} → History slot first acts st → (a : Act) → Fit slot st.session a → History slot first (a ∷ acts) (done slot a st)

-- the data written since the last session's start, joined in order, by what the acts did
unfoldable pub written : List Act → List ℕ
written [] = []
written (keep ∷ acts) = written acts
written (append off x ∷ acts) = written acts ++ x
written (start l tagged tag x ∷ acts) = x
written (erase ∷ acts) = []
written (end ∷ acts) = []

-- the slot's bytes in a memory
abbrev pub slot_in : Slot → List ℕ → List ℕ
slot_in slot m = take slot.size (drop slot.start m)

-- the demand, of the state after a history: outside the slot all is as at first, at every point; and while a session is open at n, the slot is
-- the data written and then 255s
pub record Held (slot : Slot) (first : State) (acts : List Act) (st : State) : Type 0 where
  pub below : take slot.start st.memory ≡ take slot.start first.memory
  pub beyond : drop (slot.start + slot.size) st.memory ≡ drop (slot.start + slot.size) first.memory
  pub size : length st.memory ≡ length first.memory
  pub possible : session_ok slot st.session ≡ true
  pub joined : st.session.running ≡ true → take st.session.place (slot_in slot st.memory) ≡ written acts
  pub blank_after : st.session.running ≡ true → drop st.session.place (slot_in slot st.memory) ≡ replicate (slot.size - st.session.place) 255

-- the demand with slot 0, which is "only read": its bytes are as at first, at every point
pub record HeldIn (layout : Layout) (first : State) (acts : List Act) (st : State) : Type 0 where
  pub held : Held layout.slot1 first acts st
  pub only_read : slot_in layout.slot0 st.memory ≡ slot_in layout.slot0 first.memory

-- the demand: in any history from a closed record and a memory with two possible regions
abbrev pub Demand : Type 0
Demand =
    (layout : Layout) (first : State) (acts : List Act) (st : State) → layout_ok layout (length first.memory) ≡ true
    → first.session.running ≡ false
    → History layout.slot1 first acts st
    → HeldIn layout first acts st

-- each chunk that was written since the start is the image's part at the offset that its request names; at the start that is 0
unfoldable pub CutFrom : List ℕ → List Act → Type 0
CutFrom image [] = Unit {0}
CutFrom image (keep ∷ acts) = CutFrom image acts
CutFrom image (append off x ∷ acts) = (x ≡ take (length x) (drop off image)) × CutFrom image acts
CutFrom image (start l tagged tag x ∷ acts) = x ≡ take (length x) image
CutFrom image (erase ∷ acts) = Unit {0}
CutFrom image (end ∷ acts) = Unit {0}

-- one unbroken sending of an image, the newest act first: one start and then appends, each with the image's part at the offset that it names,
-- and nothing before, between or after them
pub data Sending (image : List ℕ) : List Act → Type 0 where
  starts : (l : ℕ) (tagged : Bool) (tag x : List ℕ) → x ≡ take (length x) image → Sending image (start l tagged tag x ∷ [])
  goes_on : {acts : List Act} → Sending image acts → (off : ℕ) (x : List ℕ) → x ≡ take (length x) (drop off image) → Sending image (append off x ∷ acts)

-- the memory of a state is what one unbroken sending, from the first state to the same place, leaves: there is such a sending, and every one
-- leaves it
pub record SentWhole (slot : Slot) (first : State) (image : List ℕ) (st : State) : Type 0 where
  pub acts : List Act
  pub left : State
  pub sending : Sending image acts
  pub history : History slot first acts left
  pub place : left.session.place ≡ st.session.place
  pub memory : st.memory ≡ left.memory
  pub every : (acts' : List Act) (left' : State) → Sending image acts' → History slot first acts' left' → left'.session.place ≡ st.session.place
      → st.memory ≡ left'.memory

-- the demand's last sentence: "if those chunks were cut from one image at the offsets they name, the memory is what one unbroken sending of its
-- first n bytes leaves"
abbrev pub Unbroken : Type 0
Unbroken =
    (slot : Slot) (first : State) (acts : List Act) (st : State) (image : List ℕ) → region_ok slot (length first.memory) ≡ true
    → first.session.running ≡ false
    → History slot first acts st
    → st.session.running ≡ true
    → CutFrom image acts
    → SentWhole slot first image st

-- so two histories from equal memories, of chunks of one image, leave the same memory wherever they stand open at the same place, "however much was
-- repeated, refused or resumed between"
abbrev pub SameMemory : Type 0
SameMemory =
    (slot : Slot) (image : List ℕ) (first first' : State) (acts acts' : List Act) (st st' : State) → region_ok slot (length first.memory) ≡ true
    → first.session.running ≡ false
    → first'.session.running ≡ false
    → first.memory ≡ first'.memory
    → History slot first acts st
    → History slot first' acts' st'
    → st.session.running ≡ true
    → st'.session.running ≡ true
    → st.session.place ≡ st'.session.place
    → CutFrom image acts
    → CutFrom image acts'
    → st.memory ≡ st'.memory
