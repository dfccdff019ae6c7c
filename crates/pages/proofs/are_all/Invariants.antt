-- `pages::are_all`: what was found so far.
-- Assumes nothing.
use Rattle.pages.proofs.Laws.{Found}
use Rattle.pages.proofs.are_all.Given as goal

abbrev pub invariant-loop-c : goal.invariant-loop-c
invariant-loop-c l = Found l.counts 0 l.c-index l.v l.all
