-- `transcript::put_all` meets its contract: what is left has room behind the lines that are written, and whoever writes it has written the whole text.
-- Assumes nothing.
use Rattle.writer.specs.declared.Writer.{Writer}
use Rattle.writer.specs.Writer.{HasRoom, Wrote}
use Rattle.transcript.specs.Transcript.{transcript}
use Rattle.transcript.proofs.Laws.{rest_from}
use Rattle.transcript.proofs.put_all.Given as goal

abbrev pub invariant-loop-k : goal.invariant-loop-k
invariant-loop-k l = record {
  room : HasRoom l.out (rest_from l.answers l.count l.session l.k);
  leads : (w : Writer) → Wrote l.out w (rest_from l.answers l.count l.session l.k) → Wrote l.initial.out w (transcript l.answers l.count l.session);
}
