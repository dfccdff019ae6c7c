-- `pages::follow`: the entries below the lower place and from the higher place on are the same for both.
-- Assumes nothing.
use native.Mathlib.Omega.{arith}
use Rattle.pages.proofs.Laws.{followed_all}
use Rattle.pages.proofs.follow.Goals as goal

pub returns : goal.returns
returns c =
    let a = c.args in
    let l = c.loop-k in
    followed_all a.counts.now a.before a.after l.k l.counts l.invariant (omega arith)
