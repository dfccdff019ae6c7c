-- `transcript::write_transcript` meets its contract: its tests are those of the definition, and the text is written where it fits.
-- Assumes nothing.
use mathlib.Core.Path.{refl, sym, ◌∙◌}
use native.Mathlib.Omega.{arith}
use lib.ListN.{length}
use borrow.Author.Tests.{leb-true, leb-false}
use Rattle.transcript.specs.Transcript.{transcript}
use Rattle.transcript.proofs.Laws.{written_few, written_long, written_whole}
use Rattle.transcript.proofs.write_transcript.Goals as goal
use Rattle.transcript.proofs.write_transcript.Goals.{then-answers-count-via-then-answers-count, then-answers-count-via-else-answers-count+then-not-fits}

pub returns-then-answers-count : goal.returns-then-answers-count
returns-then-answers-count c =
    let a = c.args in
    elim c.then-answers-count.branch [
      | then-answers-count-via-then-answers-count w ↦ written_few a.answers.now a.count a.session a.out.now w.if-answers-count.true
      | then-answers-count-via-else-answers-count+then-not-fits w ↦
          written_long a.answers.now a.count a.session a.out.now w.if-answers-count.false (leb-false _ _ (sym w.fits.ensures ∙ w.if-not-fits.true))
    ]

pub put_all-requires-clause-has_room : goal.put_all-requires-clause-has_room
put_all-requires-clause-has_room c =
    let a = c.args in
    omega (arith, leb-true (length (transcript a.answers.now a.count a.session)) (length a.out.now) (sym c.fits.ensures ∙ c.if-not-fits.false))

pub returns : goal.returns
returns c =
    let a = c.args in
    let w = c.put_all.ensures in
    written_whole a.answers.now a.count a.session c.if-answers-count.false
    (leb-true (length (transcript a.answers.now a.count a.session)) (length a.out.now) (sym c.fits.ensures ∙ c.if-not-fits.false)) refl w
    (grind (arith, sym w.same_buffer))
