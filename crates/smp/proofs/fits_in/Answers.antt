-- `smp::fits_in` meets its contract: a return code and a place fit 32 bytes, and a text goes by its length.
-- Assumes nothing.
use mathlib.Core.Path.{sym, ap, ◌∙◌}
use mathlib.Core.Bool.{not}
use Prim.Native.Nat.{◌+◌}
use native.Mathlib.Omega.{arith}
use lib.Dec.{ltb}
use lib.ListN.{length}
use Rattle.smp.specs.declared.Reply.{Reply}
use Rattle.smp.specs.Reply.{reply_map}
use Rattle.smp.proofs.Writing.{head_word, text_fits, others_fit}
use Rattle.smp.proofs.fits_in.Goals as goal

pub overflow_add-result : goal.overflow_add-result
overflow_add-result c =
    let inside = rw c.in-Text.is at c.requires.sayable in
    omega (arith, inside, c.head_len.ensures, head_word 0 c.in-Text.text.len (omega (arith, inside)))

pub overflow_add-result-in-Text : goal.overflow_add-result-in-Text
overflow_add-result-in-Text c =
    let inside = rw c.in-Text.is at c.requires.sayable in
    omega (arith, inside, c.head_len.ensures, head_word 0 c.in-Text.text.len (omega (arith, inside)))

pub returns-in-Text : goal.returns-in-Text
returns-in-Text c =
    let a = c.args in
    let inside = rw c.in-Text.is at c.requires.sayable in
    text_fits a.s.now c.in-Text.text c.head_len.result a.room inside.0 c.head_len.ensures
    ∙ ap (λ (r : Reply). not (ltb a.room (8 + length (reply_map a.s.now r)))) (sym c.in-Text.is)

pub returns-in_default : goal.returns-in_default
returns-in_default c = sym (ap not (others_fit c.args.s.now c.args.reply c.args.room c.requires.le_room c.requires.sayable c.in_default.not-Text))
