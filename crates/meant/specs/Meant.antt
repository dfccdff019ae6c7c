-- What is shown of both ends together: what the host writes is read by the controller as the request that was meant, with the sequence number,
-- group and command that the host wrote, and what the controller writes is read by the host as what it meant.
-- Assumes nothing.
use Rattle.std.specs.Prelude.{ℕ, ◌+◌, ◌-◌, ◌≤◌, ◌<◌, ◌≡◌, true, false, not, List, [], eqb, length, take, drop, Option, Some, None, is_some, Ok}
use Rattle.laws.specs.declared.Run.{Run}
use Rattle.laws.specs.Choice.{pick, both}
use Rattle.laws.specs.Parts.{bytes_in}
use Rattle.reason.specs.Rc.{rc_of_def}
use Rattle.rules.specs.declared.Upload.{Upload}
use Rattle.slot.specs.Act.{data_in}
use Rattle.smp.specs.declared.Header.{Header}
use Rattle.requests.specs.declared.Request.{Request}
use Rattle.smp.specs.declared.Reply.{Reply as Answered}
use Rattle.smp.specs.Packet.{header_in_def}
use Rattle.requests.specs.Request.{read_request_def, is_request_def}
use Rattle.smp.specs.Reply.{reply_map, reply_header_def, reply_packet, Sayable}
use Rattle.host.specs.Write.{request_header, Outcome, packet, write_echo_def, write_reset_def, write_erase_def}
use Rattle.uploads.specs.Upload.{write_upload_def}
use Rattle.replies.specs.Read.{reply, read_reply_def}

-- the packet at the start of a buffer, where a writer says that it wrote one of n bytes
abbrev pub sent : Outcome → ℕ → List ℕ
sent o n = take n o.buffer

-- the header of a request p of this group, sequence number and command
abbrev pub headed : ℕ → ℕ → ℕ → List ℕ → Header
headed group sequence command p = request_header group sequence command (length p - 8)

-- an echo request p is read as the echo of a text, which stands at `start`
pub record EchoIs (sequence : ℕ) (text p : List ℕ) (start : ℕ) : Type 0 where
  pub header : header_in_def p ≡ headed 0 sequence 0 p
  pub read : read_request_def p ≡ Some (Ok (Request.Echo (record { start = start; len = length text })))
  pub text_is : take (length text) (drop start p) ≡ text

-- an echo that was written is read as the echo of that text
abbrev pub EchoMeant : Type 0
EchoMeant =
    (sequence : ℕ) (text out : List ℕ) (n : ℕ) → (write_echo_def sequence text out).says ≡ packet n
    → (start : ℕ) × EchoIs sequence text (sent (write_echo_def sequence text out) n) start

-- a request p of command 5 in this group is read as r
pub record EmptyIs (group sequence : ℕ) (r : Request) (p : List ℕ) : Type 0 where
  pub header : header_in_def p ≡ headed group sequence 5 p
  pub read : read_request_def p ≡ Some (Ok r)

-- a reset that was written is read as one
abbrev pub ResetMeant : Type 0
ResetMeant =
    (sequence : ℕ) (out : List ℕ) (n : ℕ) → (write_reset_def sequence out).says ≡ packet n → EmptyIs 0 sequence Request.Reset (sent (write_reset_def sequence out) n)

-- so is an erase
abbrev pub EraseMeant : Type 0
EraseMeant =
    (sequence : ℕ) (out : List ℕ) (n : ℕ) → (write_erase_def sequence out).says ≡ packet n → EmptyIs 1 sequence Request.Erase (sent (write_erase_def sequence out) n)

-- an upload request p is read as u: the offset, the data, and at offset 0 the length and the tag; nothing else is asked
pub record UploadIs (sequence : ℕ) (x : List ℕ) (off size : ℕ) (tag p : List ℕ) (u : Upload) : Type 0 where
  pub header : header_in_def p ≡ headed 1 sequence 1 p
  pub read : read_request_def p ≡ Some (Ok (Request.Upload u))
  pub offset : u.off ≡ off
  pub data_is : data_in p u ≡ x
  pub data_size : u.data.len ≡ length x
  pub length_is : u.length ≡ pick (eqb off 0) (Some size) None
  pub image_is : u.image ≡ None
  pub tag_there : is_some u.sha ≡ both (eqb off 0) (not (eqb (length tag) 0))
  pub tag_is : bytes_in p u.sha ≡ pick (eqb off 0) tag []
  pub upgrade_is : u.upgrade ≡ false

-- an upload that was written is read as the upload of that data
abbrev pub UploadMeant : Type 0
UploadMeant =
    (sequence : ℕ) (x : List ℕ) (off size : ℕ) (tag out : List ℕ) (n : ℕ) → (write_upload_def sequence x off size tag out).says ≡ packet n
    → (u : Upload) × UploadIs sequence x off size tag (sent (write_upload_def sequence x off size tag out) n) u

-- the return code, the offset and the text that a reply means; the text stands at `start` in the reply
unfoldable pub rc_meant : Answered → ℕ
rc_meant (Answered.Refused why) = rc_of_def why
rc_meant Answered.Done = 0
rc_meant (Answered.Placed n) = 0
rc_meant (Answered.Text text) = 0

unfoldable pub off_meant : Answered → Option ℕ
off_meant (Answered.Refused why) = None
off_meant Answered.Done = None
off_meant (Answered.Placed n) = Some n
off_meant (Answered.Text text) = None

unfoldable pub text_meant : Answered → ℕ → Option Run
text_meant (Answered.Refused why) start = None
text_meant Answered.Done start = None
text_meant (Answered.Placed n) start = None
text_meant (Answered.Text text) start = Some (record { start = start; len = text.len })

-- the text that a reply p carries at `start` is that of the request s
unfoldable pub TextIs : List ℕ → Answered → List ℕ → ℕ → Type 0
TextIs s (Answered.Refused why) p start = Unit {0}
TextIs s Answered.Done p start = Unit {0}
TextIs s (Answered.Placed n) p start = Unit {0}
TextIs s (Answered.Text text) p start = take text.len (drop start p) ≡ take text.len (drop text.start s)

-- a reply that was written is read as what it meant
abbrev pub ReplyMeant : Type 0
ReplyMeant =
    (s : List ℕ) (r : Answered) → (header_in_def s).group < 65536 → is_request_def s ≡ true → Sayable s r → 8 + length (reply_map s r) ≤ 65533
    → (start : ℕ)
    × (read_reply_def (reply_packet (header_in_def s) (reply_map s r))
    ≡ reply (record { header = reply_header_def (header_in_def s) (length (reply_map s r)); rc = rc_meant r; off = off_meant r; text = text_meant r start }))
    × TextIs s r (reply_packet (header_in_def s) (reply_map s r)) start
