-- The upload rules: what an upload request comes to, by the checks in their order. A request's data and tag are runs of the bytes s that it
-- came in.
-- Assumes nothing.
use Rattle.std.specs.Prelude.{ℕ, ◌+◌, Bool, false, not, List, ltb, eqb, Option, Some, None, is_some, Result, Ok, Err}
use Rattle.laws.specs.declared.Run.{Run}
use Rattle.laws.specs.Choice.{pick, both}
use Rattle.laws.specs.Bytes.{same}
use Rattle.laws.specs.Parts.{bytes_in}
use Rattle.reason.specs.declared.Reason.{Reason}
use Rattle.session.specs.declared.Slot.{Slot}
use Rattle.rules.specs.declared.Upload.{Upload}
use Rattle.rules.specs.declared.Plan.{Plan}
use Rattle.rules.specs.declared.Plan.TheVariants.{Tell, Append, Start}
use Rattle.session.specs.Session.{State}

-- the largest offset and length of a request
abbrev pub largest : ℕ
largest = 4294967295

-- a number that is there is above n
unfoldable pub above : ℕ → Option ℕ → Bool
above n None = false
above n (Some v) = ltb n v

-- a tag that is there is not of 32 bytes
unfoldable pub mis_sized_def : Option Run → Bool
mis_sized_def None = false
mis_sized_def (Some r) = not (eqb r.len 32)

-- the request's tag is the open session's: "a request or session without a tag never matches"
unfoldable pub same_tag : State → List ℕ → Option Run → Bool
same_tag st s sha = both st.session.running (both st.session.tagged (both (is_some sha) (same st.tag (bytes_in s sha))))

-- "off" above 0. "No session: success, off 0. "off" unlike n: success, off n. Neither writes. "off" plus data beyond L: rc 3. Otherwise data
-- goes to slot place n"
unfoldable pub plan_later_def : State → Upload → Result Plan Reason
plan_later_def st u =
    pick (not st.session.running) (Ok (Tell 0))
    (pick (not (eqb u.off st.session.place)) (Ok (Tell st.session.place))
    (pick (ltb st.session.length (u.off + u.data.len)) (Err Reason.BeyondLength)
    (Ok Append)))

-- "off" 0 with a "len" of this number, which is 1 to S, and no "sha" of another length: "data longer than "len"", then "a matching tag with another
-- length becomes rc 6; 01's checks stay in the order listed"; "Then "upgrade" true: rc 8. Then, if the tag and length are those of the open session:
-- resume, reply n, nothing written .. Otherwise start"
unfoldable pub plan_sized_def : State → List ℕ → Upload → ℕ → Result Plan Reason
plan_sized_def st s u length =
    pick (ltb length u.data.len) (Err Reason.DataTooLong)
    (pick (both (same_tag st s u.sha) (not (eqb length st.session.length))) (Err Reason.OtherLength)
    (pick u.upgrade (Err Reason.Upgrade)
    (pick (same_tag st s u.sha) (Ok (Tell st.session.place))
    (Ok (Start length)))))

-- "off" 0, by its length: ""len" missing, 0 or above S, "sha" not of 32 bytes"; "A length above the slot becomes rc 2"
unfoldable pub plan_length_def : Slot → State → List ℕ → Upload → Option ℕ → Result Plan Reason
plan_length_def slot st s u None = Err Reason.NoLength
plan_length_def slot st s u (Some length) =
    pick (eqb length 0) (Err Reason.ZeroLength)
    (pick (ltb slot.size length) (Err Reason.AboveSlot)
    (pick (mis_sized_def u.sha) (Err Reason.TagSize)
    (plan_sized_def st s u length)))

-- "off" 0: ""image" present and not 0" first
unfoldable pub plan_first_def : Slot → State → List ℕ → Upload → Result Plan Reason
plan_first_def slot st s u = pick (above 0 u.image) (Err Reason.OtherImage) (plan_length_def slot st s u u.length)

-- the checks in order: ""off" or "len" above 4,294,967,295, data of zero bytes: rc 3", then by "off"
unfoldable pub plan_of : Slot → State → List ℕ → Upload → Result Plan Reason
plan_of slot st s u =
    pick (ltb largest u.off) (Err Reason.OffsetTooLarge)
    (pick (above largest u.length) (Err Reason.LengthTooLarge)
    (pick (eqb u.data.len 0) (Err Reason.EmptyData)
    (pick (ltb 0 u.off) (plan_later_def st u)
    (plan_first_def slot st s u))))
