-- Both ends of an exchange: what the request call leaves in the reply buffer, the host reads as it was meant; and the whole way of an upload,
-- from the host's writer to the host's reader.
-- Assumes nothing.
use Rattle.std.specs.Prelude.{ℕ, ◌+◌, ◌-◌, ◌≤◌, ◌≡◌, true, List, ltb, length, take, Some, None, Result}
use Rattle.laws.specs.Choice.{pick}
use Rattle.laws.specs.Bytes.{Bytes}
use Rattle.reason.specs.declared.Reason.{Reason}
use Rattle.session.specs.declared.Slot.{Slot}
use Rattle.session.specs.declared.Layout.{Layout}
use Rattle.rules.specs.declared.Upload.{Upload}
use Rattle.session.specs.Session.{State, possible}
use Rattle.rules.specs.Plan.{plan_of}
use Rattle.slot.specs.Act.{done, act_of}
use Rattle.requests.specs.declared.Request.{Request}
use Rattle.smp.specs.declared.Reply.{Reply as Answered}
use Rattle.smp.specs.Packet.{header_in_def}
use Rattle.requests.specs.Request.{read_request_def}
use Rattle.smp.specs.Reply.{reply_header_def}
use Rattle.controller.specs.declared.Response.{Response}
use Rattle.controller.specs.Doing.{reply_to_def, response_for, response_map}
use Rattle.controller.specs.Handle.{Outcome, replied, request, said_by, handle}
use Rattle.host.specs.Write.{packet}
use Rattle.uploads.specs.Upload.{write_upload_def}
use Rattle.replies.specs.Read.{reply, read_reply_def}
use Rattle.meant.specs.Meant.{sent, UploadIs, rc_meant, off_meant, text_meant, TextIs}

-- what is replied to the packet p, where x is the response and m the memory: "An echo reply longer than its buffer becomes rc 7", "a list that
-- doesn't fit rc 7"
unfoldable pub answer_in : Layout → List ℕ → List ℕ → Response → ℕ → Response
answer_in layout m p x room = pick (ltb room (8 + length (response_map layout m p x))) (Response.Reply (Answered.Refused Reason.ReplyTooLong)) x

-- the call with the outcome o, for the request r of the packet p, says that it wrote n bytes, and the host reads them as the answer a to that
-- packet: op plus 1, its group, sequence number and command, and the return code, the offset and the text that were meant
pub record Exchanged (p : List ℕ) (r : Result Request Reason) (a : Answered) (o : Outcome) (n start : ℕ) : Type 0 where
  pub says : o.says ≡ said_by (request r) n
  pub read : read_reply_def (take n o.reply)
      ≡ reply (record { header = reply_header_def (header_in_def p) (n - 8); rc = rc_meant a; off = off_meant a; text = text_meant a start })
  pub text : TextIs p a (take n o.reply) start

-- of every request that is not refused, the host reads the reply as it was meant, but for a list, which is none that it knows
abbrev pub Exchange : Type 0
Exchange =
    (layout : Layout) (st : State) (p b : List ℕ) (r : Result Request Reason) (a : Answered) → possible layout st ≡ true → 32 ≤ length b → Bytes p
    → read_request_def p ≡ Some r
    → answer_in layout (handle layout st p b).state.memory p (response_for layout.slot1 st (handle layout st p b).state p r) (length b)
    ≡ Response.Reply a
    → (n : ℕ) × (start : ℕ) × Exchanged p r a (handle layout st p b) n start

-- the packet p of an upload, with the sequence number that the host gave it, was read as u, which is the upload that was meant; its plan was
-- carried out; and the host reads the answer to that plan, with the same sequence number
pub record UploadAnswered (slot : Slot) (st : State) (sequence : ℕ) (x : List ℕ) (off size : ℕ) (tag p : List ℕ) (o : Outcome) (u : Upload) (n : ℕ)
    : Type 0 where
  pub meant : UploadIs sequence x off size tag p u
  pub state : o.state ≡ done slot (act_of p u (plan_of slot st p u)) st
  pub says : o.says ≡ replied n
  pub read : read_reply_def (take n o.reply)
      ≡ reply (record {
        header = record { op = 3; flags = 0; length = n - 8; group = 1; sequence = sequence; command = 1 };
        rc = rc_meant (reply_to_def (plan_of slot st p u) o.state);
        off = off_meant (reply_to_def (plan_of slot st p u) o.state);
        text = None;
      })

-- of every upload that was written, where the regions and the record are possible and the reply buffer is of 32 bytes or more
abbrev pub UploadExchange : Type 0
UploadExchange =
    (layout : Layout) (st : State) (sequence : ℕ) (x : List ℕ) (off size : ℕ) (tag out b : List ℕ) (k : ℕ) → possible layout st ≡ true
    → 32 ≤ length b
    → (write_upload_def sequence x off size tag out).says ≡ packet k
    → (u : Upload) × (n : ℕ)
    × UploadAnswered layout.slot1 st sequence x off size tag (sent (write_upload_def sequence x off size tag out) k)
    (handle layout st (sent (write_upload_def sequence x off size tag out) k) b) u n
