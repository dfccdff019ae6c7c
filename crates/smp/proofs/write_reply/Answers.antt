-- `smp::write_reply` meets its contract: what is too long for the buffer is rc 7, which fits.
-- Assumes nothing.
use mathlib.Core.Path.{sym, ◌∙◌}
use borrow.Author.Tests.{not-true, not-false}
use Rattle.smp.specs.Reply.{reply_map}
use Rattle.smp.proofs.Writing.{written_whole, written_seven}
use Rattle.smp.proofs.write_reply.Goals as goal

pub returns-then-not-fits_in : goal.returns-then-not-fits_in
returns-then-not-fits_in c =
    let a = c.args in
    written_seven a.h (reply_map a.s.now a.reply) a.buf.now _ _ (not-false _ (sym c.fits_in.ensures ∙ c.if-not-fits_in.true)) c.put_too_long.ensures

pub returns : goal.returns
returns c =
    let a = c.args in
    written_whole a.h (reply_map a.s.now a.reply) a.buf.now _ _ (not-true _ (sym c.fits_in.ensures ∙ c.if-not-fits_in.false)) c.put_reply.ensures
