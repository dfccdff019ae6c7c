-- What the upload rules come to is fit: data goes only to an open session, at its place and within its length, and a session starts only
-- with a length that the slot has.
-- Assumes nothing.
use mathlib.Core.Path.{◌≡◌}
use mathlib.Core.Bool.{true, false, not}
use mathlib.Core.List.{List}
use Prim.Native.Nat.{ℕ, ◌+◌, ◌≤◌}
use native.Mathlib.Omega.{arith}
use lib.Dec.{ltb, eqb}
use lib.ListN.{length, drop, length-drop}
use lib.Seq.{length-take-le}
use borrow.Author.Tests.{ltb-false, eqb-true, eqb-false, not-false}
use Rattle.std.specs.Prelude.{Option, Some, None, Result, Ok, Err}
use Rattle.laws.specs.Choice.{both}
use Rattle.laws.proofs.Choice.{pick_case}
use Rattle.reason.specs.declared.Reason.{Reason}
use Rattle.session.specs.declared.Slot.{Slot}
use Rattle.session.specs.declared.Session.{Session}
use Rattle.rules.specs.declared.Upload.{Upload}
use Rattle.rules.specs.declared.Plan.{Plan}
use Rattle.rules.specs.declared.Plan.TheVariants.{Tell, Append, Start}
use Rattle.session.specs.Session.{State}
use Rattle.rules.specs.Plan.{largest, above, mis_sized_def, same_tag, plan_later_def, plan_sized_def, plan_length_def, plan_first_def, plan_of}
use Rattle.slot.specs.Act.{keep, erase, end, data_in, act_of}
use Rattle.slot.specs.History.{Fit}

-- to do nothing fits always
pub keep_fit : (slot : Slot) (session : Session) → Fit slot session keep
unfolding Fit
keep_fit slot session = tt

-- so does to erase the slot
pub erase_fit : (slot : Slot) (session : Session) → Fit slot session erase
unfolding Fit
erase_fit slot session = tt

-- and to end the session
pub end_fit : (slot : Slot) (session : Session) → Fit slot session end
unfolding Fit
end_fit slot session = tt

-- the data that a request names in the bytes it came in is as long as it says
pub data_size : (s : List ℕ) (u : Upload) → u.data.start + u.data.len ≤ length s → length (data_in s u) ≡ u.data.len
data_size s u h = length-take-le u.data.len (drop u.data.start s) (simp length-drop (omega arith))

-- the act that a plan comes to is fit, and where a session starts the request's tag is of 32 bytes or left out
abbrev FitPlan : Slot → State → List ℕ → Upload → Result Plan Reason → Type 0
FitPlan slot st s u p = Fit slot st.session (act_of s u p) × ((l : ℕ) → p ≡ Ok (Start l) → mis_sized_def u.sha ≡ false)

module _ (slot : Slot) (st : State) (s : List ℕ) (u : Upload) (inside : u.data.start + u.data.len ≤ length s) where
  -- a refusal
  refuse_fit : (why : Reason) → FitPlan slot st s u (Err why)
  unfolding act_of
  refuse_fit why = (keep_fit slot st.session, λ l e. cc)

  -- an offset told
  tell_fit : (n : ℕ) → FitPlan slot st s u (Ok (Tell n))
  unfolding act_of
  tell_fit n = (keep_fit slot st.session, λ l e. cc)

  -- data added to an open session, at its place and within its length
  append_fit : st.session.running ≡ true → u.off ≡ st.session.place → 1 ≤ u.data.len → st.session.place + u.data.len ≤ st.session.length
      → FitPlan slot st s u (Ok Append)
  unfolding act_of Fit
  append_fit running at some room =
      let size : length (data_in s u) ≡ u.data.len = data_size s u inside in
      ((running, at, omega arith, omega arith), λ l e. cc)

  -- a session started, with a length that the slot has and data within it
  start_fit : (l : ℕ) → 1 ≤ u.data.len → u.data.len ≤ l → l ≤ slot.size → mis_sized_def u.sha ≡ false → FitPlan slot st s u (Ok (Start l))
  unfolding act_of Fit
  start_fit l some room within tag =
      let size : length (data_in s u) ≡ u.data.len = data_size s u inside in
      ((omega arith, omega arith, within), λ _ _. tag)

  -- a request with an offset above 0
  later_fit : 1 ≤ u.data.len → FitPlan slot st s u (plan_later_def st u)
  unfolding plan_later_def
  later_fit some =
      let e = st.session in
      let P = FitPlan slot st s u in
      pick_case P (not e.running) (Ok (Tell 0)) _ (λ _. tell_fit 0)
      (λ running. pick_case P (not (eqb u.off e.place)) (Ok (Tell e.place)) _ (λ _. tell_fit e.place)
      (λ here. pick_case P (ltb e.length (u.off + u.data.len)) (Err Reason.BeyondLength) (Ok Append) (λ _. refuse_fit Reason.BeyondLength)
      (λ within.
      let at : u.off ≡ e.place = eqb-true u.off e.place (not-false (eqb u.off e.place) here) in
      let room : u.off + u.data.len ≤ e.length = ltb-false e.length (u.off + u.data.len) within in
      append_fit (not-false e.running running) at some (omega arith))))

  -- one at offset 0, with a length that the slot has
  sized_fit : (l : ℕ) → 1 ≤ u.data.len → l ≤ slot.size → mis_sized_def u.sha ≡ false → FitPlan slot st s u (plan_sized_def st s u l)
  unfolding plan_sized_def
  sized_fit l some within tag =
      let P = FitPlan slot st s u in
      let same = same_tag st s u.sha in
      pick_case P (ltb l u.data.len) (Err Reason.DataTooLong) _ (λ _. refuse_fit Reason.DataTooLong)
      (λ room. pick_case P (both same (not (eqb l st.session.length))) (Err Reason.OtherLength) _ (λ _. refuse_fit Reason.OtherLength)
      (λ _. pick_case P u.upgrade (Err Reason.Upgrade) _ (λ _. refuse_fit Reason.Upgrade)
      (λ _. pick_case P same (Ok (Tell st.session.place)) (Ok (Start l)) (λ _. tell_fit st.session.place)
      (λ _. start_fit l some (ltb-false l u.data.len room) within tag))))

  -- one at offset 0, by its length
  length_fit : (n : Option ℕ) → 1 ≤ u.data.len → FitPlan slot st s u (plan_length_def slot st s u n)
  unfolding plan_length_def
  length_fit None some = refuse_fit Reason.NoLength
  length_fit (Some l) some =
      let P = FitPlan slot st s u in
      pick_case P (eqb l 0) (Err Reason.ZeroLength) _ (λ _. refuse_fit Reason.ZeroLength)
      (λ _. pick_case P (ltb slot.size l) (Err Reason.AboveSlot) _ (λ _. refuse_fit Reason.AboveSlot)
      (λ within. pick_case P (mis_sized_def u.sha) (Err Reason.TagSize) (plan_sized_def st s u l) (λ _. refuse_fit Reason.TagSize)
      (λ tag. sized_fit l some (ltb-false slot.size l within) tag)))

  -- one at offset 0
  first_fit : 1 ≤ u.data.len → FitPlan slot st s u (plan_first_def slot st s u)
  unfolding plan_first_def
  first_fit some =
      let P = FitPlan slot st s u in
      pick_case P (above 0 u.image) (Err Reason.OtherImage) (plan_length_def slot st s u u.length) (λ _. refuse_fit Reason.OtherImage)
      (λ _. length_fit u.length some)

  -- every request
  any_fit : FitPlan slot st s u (plan_of slot st s u)
  unfolding plan_of
  any_fit =
      let P = FitPlan slot st s u in
      pick_case P (ltb largest u.off) (Err Reason.OffsetTooLarge) _ (λ _. refuse_fit Reason.OffsetTooLarge)
      (λ _. pick_case P (above largest u.length) (Err Reason.LengthTooLarge) _ (λ _. refuse_fit Reason.LengthTooLarge)
      (λ _. pick_case P (eqb u.data.len 0) (Err Reason.EmptyData) _ (λ _. refuse_fit Reason.EmptyData)
      (λ data-there.
      let none : u.data.len ≡ 0 → ⊥ = eqb-false u.data.len 0 data-there in
      let some : 1 ≤ u.data.len = omega arith in
      pick_case P (ltb 0 u.off) (plan_later_def st u) (plan_first_def slot st s u) (λ _. later_fit some) (λ _. first_fit some))))

  -- what the upload rules come to is fit
  pub planned_fit : Fit slot st.session (act_of s u (plan_of slot st s u))
  planned_fit = any_fit.0

  -- where they start a session, the request's tag is of 32 bytes or left out
  pub started_tag : (l : ℕ) → plan_of slot st s u ≡ Ok (Start l) → mis_sized_def u.sha ≡ false
  started_tag l e = any_fit.1 l e
