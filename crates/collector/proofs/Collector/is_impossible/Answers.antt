-- `collector::Collector::is_impossible` meets its contract: the count is looked at, then the held bytes.
-- Assumes nothing.
use mathlib.Core.Path.{◌∙◌}
use borrow.Author.Tests.{lt-ltb}
use Rattle.collector.specs.Collector.{most, held_of}
use Rattle.collector.proofs.Laws.{impossible_held, impossible_over}
use Rattle.collector.proofs.Search.{newline_there}
use Rattle.collector.proofs.Collector.is_impossible.Goals as goal

pub returns-then-self-gt-MOST : goal.returns-then-self-gt-MOST
returns-then-self-gt-MOST c =
    let a = c.args.self in lt-ltb most a.count c.if-self-gt-MOST.true ∙ impossible_over a c.if-self-gt-MOST.true

pub returns-else-self-gt-MOST : goal.returns-else-self-gt-MOST
returns-else-self-gt-MOST c =
    let a = c.args.self in c.contains.ensures.value ∙ newline_there (held_of a) ∙ impossible_held a c.if-self-gt-MOST.false
