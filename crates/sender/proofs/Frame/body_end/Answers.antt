-- `sender::Frame::body_end` meets its contract: the last frame carries the rest of the body, and another ends where the next begins.
-- Assumes nothing.
use mathlib.Core.Path.{sym, ◌∙◌}
use Prim.Native.Nat.{◌+◌}
use lib.ListN.{length}
use native.Mathlib.Omega.{arith}
use Rattle.sender.proofs.Count.{start_is}
use Rattle.sender.proofs.Laws.{to_last, to_next}
use Rattle.sender.proofs.Frame.body_end.Goals as goal

pub returns-then-self : goal.returns-then-self
returns-then-self c =
    let a = c.args.self in
    let b = length a.body.now in
    omega (arith, to_last b a.k (c.if-self.true ∙ a.counted), start_is b a.k)

pub overflow_sub-result : goal.overflow_sub-result
overflow_sub-result c = let a = c.args.self in omega (arith, start_is (length a.body.now) (a.k + 1))

pub returns : goal.returns
returns c =
    let a = c.args.self in
    let b = length a.body.now in
    let e = to_next b a.k (λ q. c.if-self.false (q ∙ sym a.counted)) in
    omega (arith, e, start_is b a.k, start_is b (a.k + 1))
