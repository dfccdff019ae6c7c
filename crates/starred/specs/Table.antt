-- The starred cases: each row has what the definitions give and what the paper says, as lists of numbers.
-- Assumes nothing.
use Rattle.std.specs.Prelude.{ℕ, ◌-◌, Bool, true, false, List, [], ◌∷◌, length, replicate, take, Option, Some, None, Result, Ok, Err}
use Rattle.laws.specs.Choice.{both}
use Rattle.laws.specs.Bytes.{same}
use Rattle.reason.specs.declared.Reason.{Reason}
use Rattle.reason.specs.Rc.{rc_of_def}
use Rattle.sender.specs.Sender.{frame_count_def, frame_of}
use Rattle.session.specs.declared.Slot.{Slot}
use Rattle.session.specs.declared.Layout.{Layout}
use Rattle.rules.specs.declared.Upload.{Upload}
use Rattle.rules.specs.declared.Plan.{Plan}
use Rattle.session.specs.Session.{State, state_of, no_tag, closed_in}
use Rattle.rules.specs.Plan.{plan_of}
use Rattle.smp.specs.declared.Reply.{Reply}
use Rattle.smp.specs.Reply.{reply_map}
use Rattle.controller.specs.Handle.{handle}
use Rattle.uploads.specs.Upload.{later_map}

-- one case
pub record Row : Type 0 where
  pub given : List ℕ
  pub wanted : List ℕ

-- a body of n zero bytes
abbrev pub zeros : ℕ → List ℕ
zeros n = replicate n 0

-- "Body of eight zero bytes: one line, 06 09, `AAoAAAAAAAAAAAAA`, 0A: 19 bytes."
abbrev pub eight_zeros : Row
eight_zeros =
    record {
      given = frame_of (zeros 8) 0;
      wanted = 0x06 ∷ 0x09 ∷ 65 ∷ 65 ∷ 111 ∷ 65 ∷ 65 ∷ 65 ∷ 65 ∷ 65 ∷ 65 ∷ 65 ∷ 65 ∷ 65 ∷ 65 ∷ 65 ∷ 65 ∷ 65 ∷ 0x0A ∷ [];
    }

-- how many lines a body of n zero bytes is, and the lengths of its first and its last
abbrev pub lines_of : ℕ → List ℕ
lines_of n = frame_count_def n ∷ length (frame_of (zeros n) 0) ∷ length (frame_of (zeros n) (frame_count_def n - 1)) ∷ []

-- a slot of 4,096 bytes, no session, and one that is open at 8 of 16
abbrev pub slot4096 : Slot
slot4096 = record { start = 0; size = 4096 }

abbrev pub no_session : State
no_session = closed_in []

abbrev pub open_at8 : State
open_at8 = state_of [] no_tag (record { running = true; length = 16; place = 8; tagged = false })

-- an upload request with an offset, so many data bytes and a length or none
abbrev pub uploading : ℕ → ℕ → Option ℕ → Upload
uploading off size length =
    record { off = off; «data» = record { start = 0; len = size }; length = length; image = None; sha = None; upgrade = false }

-- what an upload request comes to, as numbers: 0 and the rc, 1 and the offset that is told, 2 for data that is written, 3 and the length of
-- a session that starts
unfoldable pub planned : State → Upload → List ℕ
planned st u = numbers (plan_of slot4096 st [] u)
  where
    numbers : Result Plan Reason → List ℕ
    numbers (Err why) = 0 ∷ rc_of_def why ∷ []
    numbers (Ok (Plan.Tell n)) = 1 ∷ n ∷ []
    numbers (Ok Plan.Append) = 2 ∷ []
    numbers (Ok (Plan.Start l)) = 3 ∷ l ∷ []

-- an empty slot 0 and an upload slot of one byte
abbrev pub one_byte : Layout
one_byte = record { slot0 = record { start = 0; size = 0 }; slot1 = record { start = 0; size = 1 } }

-- "Its reply: 01 00 00 05 00 00 00 00 A1 62 72 63 03 ("d" is missing)."
abbrev pub zeros_reply : List ℕ
zeros_reply = take 13 (handle one_byte (closed_in (zeros 1)) (zeros 8) (zeros 32)).reply

-- all starred cases
unfoldable pub starred : List Row
starred =
    eight_zeros
    ∷ record { given = lines_of 8; wanted = 1 ∷ 19 ∷ 19 ∷ [] }
    ∷ record { given = lines_of 88; wanted = 1 ∷ 127 ∷ 127 ∷ [] }
    ∷ record { given = lines_of 89; wanted = 1 ∷ 127 ∷ 127 ∷ [] }
    ∷ record { given = frame_count_def 182 ∷ []; wanted = 2 ∷ [] }
    ∷ record { given = frame_count_def 183 ∷ []; wanted = 3 ∷ [] }
    ∷ record { given = frame_count_def 65533 ∷ []; wanted = 705 ∷ [] }
    ∷ record {
      given = zeros_reply;
      wanted = 0x01 ∷ 0x00 ∷ 0x00 ∷ 0x05 ∷ 0x00 ∷ 0x00 ∷ 0x00 ∷ 0x00 ∷ 0xA1 ∷ 0x62 ∷ 0x72 ∷ 0x63 ∷ 0x03 ∷ [];
    }
    ∷ record {
      given = reply_map [] (Reply.Placed 512);
      wanted = 0xA2 ∷ 0x62 ∷ 0x72 ∷ 0x63 ∷ 0x00 ∷ 0x63 ∷ 0x6F ∷ 0x66 ∷ 0x66 ∷ 0x19 ∷ 0x02 ∷ 0x00 ∷ [];
    }
    ∷ record {
      given = later_map (0x01 ∷ []) 512;
      wanted = 0xA2 ∷ 0x64 ∷ 0x64 ∷ 0x61 ∷ 0x74 ∷ 0x61 ∷ 0x41 ∷ 0x01 ∷ 0x63 ∷ 0x6F ∷ 0x66 ∷ 0x66 ∷ 0x19 ∷ 0x02 ∷ 0x00 ∷ [];
    }
    ∷ record { given = planned no_session (uploading 0 1 (Some 4096)); wanted = 3 ∷ 4096 ∷ [] }
    ∷ record { given = planned no_session (uploading 0 1 (Some 4097)); wanted = 0 ∷ 2 ∷ [] }
    ∷ record { given = planned open_at8 (uploading 8 8 None); wanted = 2 ∷ [] }
    ∷ record { given = planned open_at8 (uploading 8 9 None); wanted = 0 ∷ 3 ∷ [] }
    ∷ record { given = planned no_session (uploading 5 1 None); wanted = 1 ∷ 0 ∷ [] }
    ∷ []

-- every row gives what is wanted
unfoldable pub all_right : List Row → Bool
all_right [] = true
all_right (r ∷ rows) = both (same r.given r.wanted) (all_right rows)
