-- `reader::Packet::resume` meets its contract: the record is taken on where it is open and within its bounds.
-- Assumes nothing.
use native.Mathlib.Omega.{arith}
use Rattle.reader.proofs.Laws.{possible_small, possible_large, possible_past, possible_is, resume_idle, resume_impossible, resume_possible}
use Rattle.reader.proofs.Packet.resume.Goals as goal
use Rattle.reader.proofs.Packet.resume.Goals.{
  then-total-lt10-via-then-total-lt10,
  then-total-lt10-via-else-total-lt10+then-total-gt65535,
  then-total-lt10-via-else-total-lt10+else-total-gt65535+then-total-come,
}

pub returns-in_default : goal.returns-in_default
returns-in_default c = resume_idle c.args.reader c.in_default.is

pub returns-then-total-lt10 : goal.returns-then-total-lt10
returns-then-total-lt10 c =
    let o = c.in-Open in
    resume_impossible c.args.reader o.total o.come o.first o.is
    (elim c.then-total-lt10.branch [
      | then-total-lt10-via-then-total-lt10 w ↦ possible_small o.total o.come (omega arith)
      | then-total-lt10-via-else-total-lt10+then-total-gt65535 w ↦ possible_large o.total o.come (omega arith)
      | then-total-lt10-via-else-total-lt10+else-total-gt65535+then-total-come w ↦ possible_past o.total o.come (omega arith)
    ])

pub returns : goal.returns
returns c =
    let o = c.in-Open in
    resume_possible c.args.reader o.total o.come o.first o.is (possible_is o.total o.come (omega arith) (omega arith) (omega arith))
