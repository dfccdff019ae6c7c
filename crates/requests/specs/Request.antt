-- Requests: which packets are one, and what each asks for.
-- Assumes nothing.
use Rattle.std.specs.Prelude.{◌≡◌, Bool, not, List, ℕ, ◌+◌, ◌≤◌, eqb, length, Option, Some, None, Result, Ok, Err}
use Rattle.laws.specs.declared.Run.{Run}
use Rattle.laws.specs.Choice.{pick, both}
use Rattle.laws.specs.Bytes.{Bytes}
use Rattle.reason.specs.declared.Reason.{Reason}
use Rattle.fields.specs.declared.Kind.{Kind}
use Rattle.fields.specs.declared.Key.{Key}
use Rattle.fields.specs.declared.Fields.{Fields}
use Rattle.fields.specs.Fields.{number_in_def, run_in_def, flag_in_def}
use Rattle.map.specs.Walk.{map_from_def}
use Rattle.smp.specs.declared.Header.{Header}
use Rattle.requests.specs.declared.Command.{Command}
use Rattle.requests.specs.declared.Request.{Request}
use Rattle.smp.specs.declared.Reply.{Reply}
use Rattle.smp.specs.Packet.{header_in_def, sized}
use Rattle.smp.specs.Reply.{reply_map}

-- the image group, op not 2: "the state read (op 0, group 1, command 0)"
unfoldable pub image_read_def : Header → Option Command
image_read_def h = pick (both (eqb h.command 0) (eqb h.op 0)) (Some Command.Images) None

-- "echo (op 0 or 2, group 0, command 0) .. Reset (op 2, group 0, command 5) .. Upload (op 2, group 1, command 1) .. Erase (op 2, group 1,
-- command 5)"
unfoldable pub command_of_def : Header → Option Command
command_of_def h =
    pick (eqb h.group 0)
    (pick (eqb h.command 0) (Some Command.Echo)
    (pick (both (eqb h.command 5) (eqb h.op 2)) (Some Command.Reset)
    None))
    (pick (eqb h.group 1)
    (pick (eqb h.op 2)
    (pick (eqb h.command 1) (Some Command.Upload)
    (pick (eqb h.command 5) (Some Command.Erase)
    None))
    (image_read_def h))
    None)

-- "a malformed map gets rc 3": what the fields of a map ask for, where there is one
unfoldable pub mapped : (Fields → Result Request Reason) → Option Fields → Result Request Reason
mapped ask None = Err Reason.MalformedMap
mapped ask (Some f) = ask f

-- "echo: "d" text, required"
unfoldable pub echo_with : Option Run → Result Request Reason
echo_with None = Err Reason.NoText
echo_with (Some r) = Ok (Request.Echo r)

-- "Erase: "slot" unsigned, absent or 1"
unfoldable pub erase_with : Option ℕ → Result Request Reason
erase_with None = Ok Request.Erase
erase_with (Some n) = pick (eqb n 1) (Ok Request.Erase) (Err Reason.OtherSlot)

-- upload: ""off" or "data" missing"; else its keys as they are
unfoldable pub upload_with : Fields → Option ℕ → Option Run → Result Request Reason
upload_with f None x = Err Reason.NoOffset
upload_with f (Some off) None = Err Reason.NoData
upload_with f (Some off) (Some chunk) =
    Ok
    (Request.Upload
    (record {
      off = off;
      «data» = chunk;
      length = number_in_def f Key.Len;
      image = number_in_def f Key.Image;
      sha = run_in_def f Key.Sha;
      upgrade = flag_in_def f Key.Upgrade;
    }))

abbrev pub upload_of_def : Fields → Result Request Reason
upload_of_def f = upload_with f (number_in_def f Key.Off) (run_in_def f Key.Data)

-- what a request of this command asks for: reset and the state read take any map; "Any other op, group and command together: rc 8"
unfoldable pub request_of_def : Option Command → List ℕ → Result Request Reason
request_of_def (Some Command.Echo) s = mapped (λ f. echo_with (run_in_def f Key.Text)) (map_from_def Kind.Echo s 8)
request_of_def (Some Command.Reset) s = mapped (λ f. Ok Request.Reset) (map_from_def Kind.Bare s 8)
request_of_def (Some Command.Images) s = mapped (λ f. Ok Request.Images) (map_from_def Kind.Bare s 8)
request_of_def (Some Command.Upload) s = mapped upload_of_def (map_from_def Kind.Upload s 8)
request_of_def (Some Command.Erase) s = mapped (λ f. erase_with (number_in_def f Key.Slot)) (map_from_def Kind.Erase s 8)
request_of_def None s = Err Reason.UnknownCommand

-- a packet is a request: the right length, and op 0 or 2
unfoldable pub is_request_def : List ℕ → Bool
is_request_def s = both (sized s) (not (both (not (eqb (header_in_def s).op 0)) (not (eqb (header_in_def s).op 2))))

-- a packet read as a request, if it is one: a request, or the reason of the rc that answers it
unfoldable pub read_request_def : List ℕ → Option (Result Request Reason)
read_request_def s = pick (is_request_def s) (Some (request_of_def (command_of_def (header_in_def s)) s)) None

-- the reply to an echo is no longer than its request
abbrev pub EchoNoLonger : Type 0
EchoNoLonger =
    (s : List ℕ) (text : Run) → Bytes s → read_request_def s ≡ Some (Ok (Request.Echo text)) → 8 + length (reply_map s (Reply.Text text)) ≤ length s
