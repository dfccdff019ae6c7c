-- `pages::follow`: the entries below the lower place and from the higher place on are the same for both.
-- Assumes nothing.
use Prim.Native.Nat.{min, max}
use Rattle.pages.proofs.Laws.{Followed}
use Rattle.pages.proofs.follow.Given as goal

abbrev pub invariant-loop-k : goal.invariant-loop-k
invariant-loop-k l = Followed l.initial.counts l.after (min l.before l.after) (max l.before l.after) l.k l.counts
