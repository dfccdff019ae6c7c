-- `sender::send_frame` meets its contract: its tests are those of the definition, in the order of the refusals.
-- Assumes nothing.
use mathlib.Core.Path.{sym, ◌∙◌}
use mathlib.Core.List.{List}
use Prim.Native.Nat.{ℕ, ◌≤◌, ◌<◌}
use native.Mathlib.Omega.{arith}
use lib.ListN.{length}
use Rattle.sender.specs.Sender.{Outcome, frame_count_def, is_frame}
use Rattle.sender.proofs.Laws.{send_unsendable, sendable_small, sendable_short, sendable_long, sendable_is, send_beyond, send_frame_lem}
use Rattle.sender.proofs.send_frame.Goals as goal
use Rattle.sender.proofs.send_frame.Goals.{
  then-out-lt-LONGEST-via-then-out-lt-LONGEST,
  then-out-lt-LONGEST-via-else-out-lt-LONGEST+then-body-lt8,
  then-out-lt-LONGEST-via-else-out-lt-LONGEST+else-body-lt8+then-body-gt65533,
}

pub returns-then-out-lt-LONGEST : goal.returns-then-out-lt-LONGEST
returns-then-out-lt-LONGEST c =
    let b = length c.args.body.now in
    let room = length c.args.out.now in
    sym (send_unsendable c.args.body.now c.args.k c.args.out.now
    (elim c.then-out-lt-LONGEST.branch [
      | then-out-lt-LONGEST-via-then-out-lt-LONGEST w ↦ sendable_small b room (omega arith)
      | then-out-lt-LONGEST-via-else-out-lt-LONGEST+then-body-lt8 w ↦ sendable_short b room (omega arith)
      | then-out-lt-LONGEST-via-else-out-lt-LONGEST+else-body-lt8+then-body-gt65533 w ↦ sendable_long b room (omega arith)
    ]))

pub returns-then-count-k : goal.returns-then-count-k
returns-then-count-k c =
    let a = c.args in
    let past : frame_count_def (length a.body.now) ≤ a.k = omega arith in
    sym (send_beyond a.body.now a.k a.out.now
    (sendable_is (length a.body.now) (length a.out.now) (omega arith) (omega arith) (omega arith)) past)

pub returns : goal.returns
returns c =
    let a = c.args in
    let below : a.k < frame_count_def (length a.body.now) = omega arith in
    let sent : ℕ → ℕ → List ℕ → Outcome = λ n m l. record { says = is_frame n m; buffer = l } in
    (λ i. sent (c.write-length.ensures.0 i) (c.frame_count-count.ensures.0 i) (c.write-length.ensures.1 i))
    ∙ sym (send_frame_lem a.body.now a.k a.out.now
    (sendable_is (length a.body.now) (length a.out.now) (omega arith) (omega arith) (omega arith)) below)
