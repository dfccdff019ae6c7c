-- `sizes::most_data` meets its contract: an offset that can't be sent carries nothing, and the other answers are those at and past offset 0.
-- Assumes nothing.
use mathlib.Core.Path.{◌≡◌, ap, ◌∙◌}
use Prim.Native.Nat.{ℕ, ◌+◌}
use native.Mathlib.Omega.{arith}
use borrow.Author.Tests.{eq-eqb, ne_eqb, lt-ltb, le-ltb}
use Rattle.laws.proofs.Choice.{pick_yes, pick_no}
use Rattle.cbor.proofs.Laws.{head_long}
use Rattle.sizes.specs.Size.{later_over, most_past_def, most_data_def}
use Rattle.host.proofs.Writing.{head_most}
use Rattle.sizes.proofs.most_data.Goals as goal

pub returns-then-off-gt4294967295 : goal.returns-then-off-gt4294967295
unfolding most_data_def
returns-then-off-gt4294967295 c = simp (lt-ltb _ _ c.if-off-gt4294967295.true, pick_yes)

pub overflow_add-head_len : goal.overflow_add-head_len
overflow_add-head_len c = omega (arith, c.head_len.ensures, head_most 0 c.args.off)

pub returns-then-off-gt0 : goal.returns-then-off-gt0
unfolding most_data_def later_over
returns-then-off-gt0 c =
    let a = c.args in
    let past : a.off ≡ 0 → ⊥ = λ e. omega arith in
    simp (le-ltb _ _ c.if-off-gt4294967295.false, ne_eqb a.off 0 past, pick_no)
    (c.most_past.ensures ∙ ap (λ (n : ℕ). most_past_def a.room (18 + n)) (c.head_len.ensures ∙ head_long 0 a.off))

pub returns : goal.returns
unfolding most_data_def
returns c =
    let a = c.args in
    let start : a.off ≡ 0 = omega arith in
    simp (le-ltb _ _ c.if-off-gt4294967295.false, eq-eqb a.off 0 start, pick_yes, pick_no) c.most_first.ensures
