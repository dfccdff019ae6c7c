-- The two regions and the session record: which are possible. "The slot is a region of it: start A, size S from 1 to 1,048,576, ending
-- inside the memory. .. The session record is closed, or open with length L (1 to S), place n (1 to L), and perhaps a 32-byte tag."
-- Assumes nothing.
use Rattle.std.specs.Prelude.{ℕ, ◌+◌, ◌≤◌, ◌<◌, min, max, ◌≡◌, Bool, true, false, not, List, leb, ltb, length, replicate, Result, Ok, Err}
use Rattle.laws.specs.Choice.{pick, both}
use Rattle.refusal.specs.declared.Refusal.{Refusal}
use Rattle.refusal.specs.Number.{number_of}
use Rattle.session.specs.declared.Slot.{Slot}
use Rattle.session.specs.declared.Layout.{Layout}
use Rattle.session.specs.declared.Session.{Session}

-- a region lies in a memory of this many bytes
abbrev pub lies_in_def : Slot → ℕ → Bool
lies_in_def slot m = leb (slot.start + slot.size) m

-- the upload slot's region is possible in a memory of this many bytes
unfoldable pub region_ok : Slot → ℕ → Bool
region_ok slot m = both (leb 1 slot.size) (both (leb slot.size 1048576) (lies_in_def slot m))

-- two regions overlap: a byte is in both
unfoldable pub overlapping : Slot → Slot → Bool
overlapping a b = ltb (max a.start b.start) (min (a.start + a.size) (b.start + b.size))

-- a byte of the memory is in a region
abbrev pub In : Slot → ℕ → Type 0
In slot i = (slot.start ≤ i) × (i < slot.start + slot.size)

-- so it is: regions that overlap have a byte in both, and others have none
abbrev pub OverlapIs : Type 0
OverlapIs =
    (a b : Slot) → (overlapping a b ≡ true → (i : ℕ) × (In a i × In b i)) × (overlapping a b ≡ false → (i : ℕ) → In a i → In b i → ⊥)

-- "Slot 0 is a second region of the memory, only read; if it overlaps the upload slot, or doesn't lie in the memory, refusal 1."
unfoldable pub layout_ok : Layout → ℕ → Bool
layout_ok layout m = both (region_ok layout.slot1 m) (both (lies_in_def layout.slot0 m) (not (overlapping layout.slot0 layout.slot1)))

-- a session record is possible for a slot
unfoldable pub session_ok : Slot → Session → Bool
session_ok slot s =
    pick s.running
    (both (leb 1 s.length) (both (leb s.length slot.size) (both (leb 1 s.place) (leb s.place s.length))))
    true

-- all that lasts from one request to the next: the lent memory, the session record and its tag
pub record State : Type 0 where
  pub memory : List ℕ
  pub session : Session
  pub tag : List ℕ

-- this memory and tag with this session
abbrev pub state_of : List ℕ → List ℕ → Session → State
state_of m tag s = record { memory = m; session = s; tag = tag }

-- both regions and the session record are possible
abbrev pub possible : Layout → State → Bool
possible layout st = both (layout_ok layout (length st.memory)) (session_ok layout.slot1 st.session)

-- the closed record, and a tag that is none
abbrev pub closed : Session
closed = record { running = false; length = 0; place = 0; tagged = false }

abbrev pub no_tag : List ℕ
no_tag = replicate 32 0

-- a memory with no session: what configuring begins with
abbrev pub closed_in : List ℕ → State
closed_in m = state_of m no_tag closed

-- what configuring says, in the paper's terms: the two regions, or the refusal of this number
pub data Said : Type 0 where
  ready : Layout → Said
  refused : ℕ → Said

abbrev pub said : Result Layout Refusal → Said
said (Ok layout) = ready layout
said (Err r) = refused (number_of r)

-- "Configuration fixes A and S, which then stay": refusal 1, or the two regions
unfoldable pub configured : Layout → ℕ → Said
configured layout m = pick (layout_ok layout m) (ready layout) (refused 1)
