-- `fault::standing`: each return by the tests on its way.
-- Assumes nothing.
use borrow.Author.Tests.{eq-eqb, ne_eqb, lt-ltb, le-ltb}
use Rattle.laws.proofs.Choice.{pick_yes, pick_no}
use Rattle.fault.specs.Fault.{third_stands, fourth_stands, standing}
use Rattle.fault.proofs.standing.Goals as goal

pub returns-in_default : goal.returns-in_default
unfolding standing third_stands fourth_stands
returns-in_default c = simp (le-ltb _ _ c.in_default.ensures, pick_yes, pick_no)

pub returns-in_default-number : goal.returns-in_default-number
unfolding standing third_stands fourth_stands
returns-in_default-number c =
    simp (
      ← c.in-Some.ensures.0,
      lt-ltb _ _ c.in-Some.ensures.1,
      le-ltb _ _ c.in_default-number.ensures,
      pick_yes,
      pick_no,
    )

pub returns-then-q-ne0 : goal.returns-then-q-ne0
unfolding standing third_stands fourth_stands
returns-then-q-ne0 c =
    simp (
      ← c.in-Some.ensures.0,
      lt-ltb _ _ c.in-Some.ensures.1,
      ← c.in-Some-number.ensures.0,
      lt-ltb _ _ c.in-Some-number.ensures.1,
      eq-eqb _ _ c.if-c-eq61.true,
      ne_eqb _ _ c.if-q-ne0.true,
      pick_yes,
      pick_no,
    )

pub returns-then-d-ne61 : goal.returns-then-d-ne61
unfolding standing third_stands fourth_stands
returns-then-d-ne61 c =
    simp (
      ← c.in-Some.ensures.0,
      lt-ltb _ _ c.in-Some.ensures.1,
      ← c.in-Some-number.ensures.0,
      lt-ltb _ _ c.in-Some-number.ensures.1,
      eq-eqb _ _ c.if-c-eq61.true,
      eq-eqb _ _ c.if-q-ne0.false,
      ne_eqb _ _ c.if-d-ne61.true,
      pick_yes,
      pick_no,
    )

pub returns-then-c-eq61 : goal.returns-then-c-eq61
unfolding standing third_stands fourth_stands
returns-then-c-eq61 c =
    simp (
      ← c.in-Some.ensures.0,
      lt-ltb _ _ c.in-Some.ensures.1,
      ← c.in-Some-number.ensures.0,
      lt-ltb _ _ c.in-Some-number.ensures.1,
      eq-eqb _ _ c.if-c-eq61.true,
      eq-eqb _ _ c.if-q-ne0.false,
      eq-eqb _ _ c.if-d-ne61.false,
      pick_yes,
      pick_no,
    )

pub returns-in_default-number-2 : goal.returns-in_default-number-2
unfolding standing third_stands fourth_stands
returns-in_default-number-2 c =
    simp (
      ← c.in-Some.ensures.0,
      lt-ltb _ _ c.in-Some.ensures.1,
      ← c.in-Some-number.ensures.0,
      lt-ltb _ _ c.in-Some-number.ensures.1,
      ne_eqb _ _ c.if-c-eq61.false,
      le-ltb _ _ c.in_default-number-2.ensures,
      pick_yes,
      pick_no,
    )

pub returns-then-r-ne0 : goal.returns-then-r-ne0
unfolding standing third_stands fourth_stands
returns-then-r-ne0 c =
    simp (
      ← c.in-Some.ensures.0,
      lt-ltb _ _ c.in-Some.ensures.1,
      ← c.in-Some-number.ensures.0,
      lt-ltb _ _ c.in-Some-number.ensures.1,
      ne_eqb _ _ c.if-c-eq61.false,
      ← c.in-Some-number-2.ensures.0,
      lt-ltb _ _ c.in-Some-number-2.ensures.1,
      eq-eqb _ _ c.if-d-eq61.true,
      ne_eqb _ _ c.if-r-ne0.true,
      pick_yes,
      pick_no,
    )

pub returns-then-d-eq61 : goal.returns-then-d-eq61
unfolding standing third_stands fourth_stands
returns-then-d-eq61 c =
    simp (
      ← c.in-Some.ensures.0,
      lt-ltb _ _ c.in-Some.ensures.1,
      ← c.in-Some-number.ensures.0,
      lt-ltb _ _ c.in-Some-number.ensures.1,
      ne_eqb _ _ c.if-c-eq61.false,
      ← c.in-Some-number-2.ensures.0,
      lt-ltb _ _ c.in-Some-number-2.ensures.1,
      eq-eqb _ _ c.if-d-eq61.true,
      eq-eqb _ _ c.if-r-ne0.false,
      pick_yes,
      pick_no,
    )

pub returns-in_default-number-3 : goal.returns-in_default-number-3
unfolding standing third_stands fourth_stands
returns-in_default-number-3 c =
    simp (
      ← c.in-Some.ensures.0,
      lt-ltb _ _ c.in-Some.ensures.1,
      ← c.in-Some-number.ensures.0,
      lt-ltb _ _ c.in-Some-number.ensures.1,
      ne_eqb _ _ c.if-c-eq61.false,
      ← c.in-Some-number-2.ensures.0,
      lt-ltb _ _ c.in-Some-number-2.ensures.1,
      ne_eqb _ _ c.if-d-eq61.false,
      le-ltb _ _ c.in_default-number-3.ensures,
      pick_yes,
      pick_no,
    )

pub returns : goal.returns
unfolding standing third_stands fourth_stands
returns c =
    simp (
      ← c.in-Some.ensures.0,
      lt-ltb _ _ c.in-Some.ensures.1,
      ← c.in-Some-number.ensures.0,
      lt-ltb _ _ c.in-Some-number.ensures.1,
      ne_eqb _ _ c.if-c-eq61.false,
      ← c.in-Some-number-2.ensures.0,
      lt-ltb _ _ c.in-Some-number-2.ensures.1,
      ne_eqb _ _ c.if-d-eq61.false,
      ← c.in-Some-number-3.ensures.0,
      lt-ltb _ _ c.in-Some-number-3.ensures.1,
      pick_yes,
      pick_no,
    )
