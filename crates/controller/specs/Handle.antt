-- The request call: what it says, and what becomes of memory, session, tag and reply buffer, for every input. "Request order: 1, 11, 10, then
-- rc 8, rc 3, then the command's own rules."
-- Assumes nothing.
use Rattle.std.specs.Prelude.{ℕ, not, List, [], ltb, length, Option, Some, None, Result, Ok, Err}
use Rattle.laws.specs.Choice.{pick}
use Rattle.laws.specs.Bytes.{pasted}
use Rattle.refusal.specs.declared.Refusal.{Refusal}
use Rattle.refusal.specs.Number.{number_of}
use Rattle.reason.specs.declared.Reason.{Reason}
use Rattle.session.specs.declared.Slot.{Slot}
use Rattle.session.specs.declared.Layout.{Layout}
use Rattle.session.specs.Session.{State, state_of, possible}
use Rattle.slot.specs.Act.{Act, done}
use Rattle.requests.specs.declared.Request.{Request}
use Rattle.smp.specs.Packet.{header_in_def}
use Rattle.requests.specs.Request.{read_request_def}
use Rattle.smp.specs.Reply.{reply_bytes}
use Rattle.controller.specs.declared.Replied.{Replied}
use Rattle.controller.specs.declared.Handled.{Handled}
use Rattle.controller.specs.Doing.{act_for, response_for, response_map, asks_reset_def}

-- what the call says, in the paper's terms: a reply of so many bytes, that with a reset asked, or the refusal of this number
pub data Said : Type 0 where
  replied : ℕ → Said
  reset_asked : ℕ → Said
  refused : ℕ → Said

-- each answer's meaning
abbrev pub said : Result Replied Refusal → Said
said (Ok r) = pick r.asks_reset (reset_asked r.length) (replied r.length)
said (Err r) = refused (number_of r)

-- all that a call leaves: what it said, memory with session and tag, and the reply buffer
pub record Outcome : Type 0 where
  pub says : Said
  pub state : State
  pub reply : List ℕ

-- the outcome of a call that gave h, and left m in the memory, tag in the tag and b in the reply buffer
abbrev pub outcome : Handled → List ℕ → List ℕ → List ℕ → Outcome
outcome h m tag b = record { says = said h.answer; state = state_of m tag h.session; reply = b }

-- how a call is taken: refused by this number, or as this request
pub data Taking : Type 0 where
  refusal : ℕ → Taking
  request : Result Request Reason → Taking

-- a packet that was read: refusal 10, or the request
unfoldable pub asked : Option (Result Request Reason) → Taking
asked None = refusal 10
asked (Some r) = request r

-- the refusals in their order: 1, 11, 10
unfoldable pub taking : Layout → State → List ℕ → List ℕ → Taking
taking layout st p b =
    pick (not (possible layout st)) (refusal 1)
    (pick (ltb (length b) 32) (refusal 11)
    (asked (read_request_def p)))

-- what is done to memory, session and tag: nothing at a refusal
unfoldable pub act_by : Slot → State → List ℕ → Taking → Act
act_by slot st p (refusal n) = Act.keep
act_by slot st p (request r) = act_for slot st p r

-- the reply's bytes, in a buffer of so many: none at a refusal
unfoldable pub bytes_by : Layout → State → State → List ℕ → ℕ → Taking → List ℕ
bytes_by layout st after p room (refusal n) = []
bytes_by layout st after p room (request r) =
    reply_bytes (header_in_def p) (response_map layout after.memory p (response_for layout.slot1 st after p r)) room

-- what is said, with a reply of so many bytes
unfoldable pub said_by : Taking → ℕ → Said
said_by (refusal n) size = refused n
said_by (request r) size = pick (asks_reset_def r) (reset_asked size) (replied size)

-- the call, by how it is taken: its act is done, and the reply to the state after stands at the buffer's start
unfoldable pub handled : Layout → State → List ℕ → List ℕ → Taking → Outcome
handled layout st p b t =
    let after : State = done layout.slot1 (act_by layout.slot1 st p t) st in
    let x : List ℕ = bytes_by layout st after p (length b) t in
    record { says = said_by t (length x); state = after; reply = pasted b 0 x }

-- the request call
abbrev pub handle : Layout → State → List ℕ → List ℕ → Outcome
handle layout st p b = handled layout st p b (taking layout st p b)
