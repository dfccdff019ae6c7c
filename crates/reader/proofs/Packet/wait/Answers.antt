-- `reader::Packet::wait` meets its contract: the first CRC byte is kept where only the last is missing.
-- Assumes nothing.
use borrow.Author.Tests.{eq-eqb, ne_eqb}
use Rattle.laws.proofs.Choice.{pick_yes, pick_no}
use Rattle.reader.specs.Reader.{waiting}
use Rattle.reader.proofs.Packet.wait.Goals as goal

pub returns-then-come-self : goal.returns-then-come-self
unfolding waiting
returns-then-come-self c = simp (eq-eqb _ _ c.if-come-self.true, pick_yes, ← c.crc_first-first.ensures)

pub returns-else-come-self : goal.returns-else-come-self
unfolding waiting
returns-else-come-self c = simp (ne_eqb _ _ c.if-come-self.false, pick_no)
