-- The one proof over the starred table: the test is computed over all of it, and each row's two sides are then equal.
-- Assumes nothing.
use mathlib.Core.Path.{◌≡◌, refl}
use mathlib.Core.Bool.{true}
use mathlib.Core.List.{List, [], ◌∷◌}
use Prim.Native.Nat.{ℕ, zero, suc, ◌<◌}
use native.Mathlib.Nat.{not-suc-le-zero, le_of_suc-le-suc}
use lib.ListN.{length, get_or}
use Rattle.laws.specs.Choice.{pick, both}
use Rattle.laws.specs.Bytes.{same, be16, of_be16, pasted}
use Rattle.laws.proofs.Choice.{both_true}
use Rattle.laws.proofs.Lists.{same_true}
use Rattle.crc.specs.Crc.{shifted, bits, byte, onward}
use Rattle.strict_base64.specs.Base64.{char, encode}
use Rattle.frame.specs.Line.{frame}
use Rattle.sender.specs.Sender.{frame_count_def, raw_of, start_of, stop_of, piece_of, frame_of}
use Rattle.cbor.specs.Write.{be_bytes, head_of}
use Rattle.fields.specs.Fields.{index_of, first_of, second_of, run_in_def, as_run}
use Rattle.map.specs.Walk.{map_from_def}
use Rattle.session.specs.Session.{region_ok, overlapping, layout_ok, session_ok}
use Rattle.rules.specs.Plan.{above, mis_sized_def, same_tag, plan_later_def, plan_sized_def, plan_length_def, plan_first_def, plan_of}
use Rattle.slot.specs.Act.{done}
use Rattle.smp.specs.Packet.{sized, header_bytes}
use Rattle.requests.specs.Request.{command_of_def, mapped, echo_with, request_of_def, is_request_def, read_request_def}
use Rattle.smp.specs.Reply.{reply_map, reply_packet, reply_bytes}
use Rattle.controller.specs.Doing.{act_for, response_for, response_map, asks_reset_def}
use Rattle.controller.specs.Handle.{asked, taking, act_by, bytes_by, said_by, handled}
use Rattle.uploads.specs.Upload.{later_map}
use Rattle.starred.specs.Table.{Row, planned, starred, all_right}

-- the test passes
computed : all_right starred ≡ true
unfolding all_right starred same both pick be16 of_be16 pasted shifted bits byte onward char encode frame
    frame_count_def raw_of start_of stop_of piece_of frame_of planned plan_of above plan_later_def plan_sized_def plan_length_def plan_first_def
    mis_sized_def same_tag region_ok overlapping layout_ok session_ok sized header_bytes is_request_def read_request_def
    command_of_def request_of_def mapped echo_with
    index_of first_of second_of run_in_def as_run map_from_def reply_map reply_packet reply_bytes be_bytes head_of asked taking act_by bytes_by said_by handled
    response_for response_map act_for asks_reset_def done later_map
computed = refl

-- what the test says of each row
each : (rows : List Row) → all_right rows ≡ true → (i : ℕ) → i < length rows → (none : Row) → (get_or rows i none).given ≡ (get_or rows i none).wanted
unfolding all_right
each [] e i h none = absurd (not-suc-le-zero h)
each (r ∷ rows) e zero h none = same_true r.given r.wanted (both_true (same r.given r.wanted) (all_right rows) e).0
each (r ∷ rows) e (suc i) h none = each rows (both_true (same r.given r.wanted) (all_right rows) e).1 i (le_of_suc-le-suc h) none

-- every starred case holds of the definitions
pub starred_hold : (i : ℕ) → i < length starred → (none : Row) → (get_or starred i none).given ≡ (get_or starred i none).wanted
starred_hold = each starred computed
