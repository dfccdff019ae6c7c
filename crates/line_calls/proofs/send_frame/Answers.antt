-- `line_calls::send_frame` meets its contract: both numbers of a frame are small.
-- Assumes nothing.
use mathlib.Core.Path.{sym, ap, ◌∙◌}
use native.Mathlib.Omega.{arith}
use Rattle.sender.specs.Sender.{Outcome, told}
use Rattle.widths.proofs.Writers.{sent_small}
use Rattle.line_calls.proofs.send_frame.Goals as goal

pub overflow_cast-sent : goal.overflow_cast-sent
overflow_cast-sent c =
    let a = c.args in
    omega (arith, (sent_small a.body.now a.k a.out.now _ _ (ap (λ (o : Outcome). o.says) (sym c.send_frame.ensures) ∙ ap told c.in-Ok.is)).0)

pub overflow_cast-sent-in-Ok : goal.overflow_cast-sent-in-Ok
overflow_cast-sent-in-Ok c =
    let a = c.args in
    omega (arith, (sent_small a.body.now a.k a.out.now _ _ (ap (λ (o : Outcome). o.says) (sym c.send_frame.ensures) ∙ ap told c.in-Ok.is)).1)
