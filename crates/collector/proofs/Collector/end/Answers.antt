-- `collector::Collector::end` meets its contract: held bytes, new bytes and 0A one after the other are the line.
-- Assumes nothing.
use native.Mathlib.Omega.{arith}
use borrow.Author.Rules.{rules}
use Rattle.std.proofs.Common.{◌≡◌, length}
use Rattle.frame.specs.Line.{longest}
use Rattle.collector.specs.Collector.{most}
use Rattle.collector.proofs.Laws.{saying_skipping, saying_over, saying_line, line_begun}
use Rattle.collector.proofs.Collector.end.Goals as goal

pub returns-then-self : goal.returns-then-self
returns-then-self c = saying_skipping _ _ _ c.if-self.true

pub returns-then-last-gt-MOST : goal.returns-then-last-gt-MOST
returns-then-last-gt-MOST c = saying_over _ _ _ c.if-self.false c.if-last-gt-MOST.true

pub returns : goal.returns
returns c =
    let a = c.args in
    let held : length a.self.held ≡ most = search rules in
    let room : length a.line.now ≡ longest = search rules in
    let begun =
    line_begun a.self a.x.now a.line.now c.put.new.buf
    c.put-2.new.buf held room
    (omega (arith, c.if-last-gt-MOST.false))
    c.put.ensures c.put-2.ensures
    in
    saying_line a.self a.x.now a.line.now c.put-2.new.buf held room
    (omega (arith, c.if-last-gt-MOST.false))
    c.if-self.false begun
