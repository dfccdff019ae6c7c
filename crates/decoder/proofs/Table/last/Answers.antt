-- `decoder::Table::last`: the filling characters say which of the three kinds of last group it is.
-- Assumes nothing.
use Rattle.decoder.proofs.Steps.{all_good, all_bad}
use Rattle.decoder.proofs.Table.last.Goals as goal

pub returns-in_err-group : goal.returns-in_err-group
returns-in_err-group c =
    let a = c.args in
    rw c.from_residual.ensures (all_bad a.text.now a.out.now c.group.new.out c.if-text-eq61.false c.in_err-group.ensures)

pub returns : goal.returns
returns c =
    let a = c.args in
    all_good a.text.now a.out.now c.group.new.out c.if-text-eq61.false c.in_ok-group.ensures
