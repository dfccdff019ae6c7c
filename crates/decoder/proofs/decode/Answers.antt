-- `decoder::decode`: a text in groups of four is a run of full groups, then one at fault or the last one.
-- Assumes nothing.
use mathlib.Core.Path.{◌≡◌, sym}
use mathlib.Core.List.{[]}
use Prim.Native.Nat.{◌/◌, ◌-◌}
use native.Mathlib.Omega.{arith}
use lib.ListN.{length}
use Rattle.laws.proofs.Lists.{pasted_none}
use Rattle.decoder.proofs.Runs.{decodes_uneven, decodes_empty, passed_none, groups_next, groups_stop, decodes_bad, decodes_good, last_most}
use Rattle.decoder.proofs.decode.Goals as goal
use Rattle.decoder.proofs.decode.Goals.{then-n-eq0-via-then-n-eq0, then-n-eq0-via-else-n-eq0+then-n-ne0}

pub returns-then-n-eq0 : goal.returns-then-n-eq0
returns-then-n-eq0 c =
    let a = c.args in
    elim c.then-n-eq0.branch [
      | then-n-eq0-via-then-n-eq0 w ↦ decodes_empty a.text.now a.out.now w.if-n-eq0.true
      | then-n-eq0-via-else-n-eq0+then-n-ne0 w ↦ decodes_uneven a.text.now a.out.now w.if-n-ne0.true
    ]

pub loop-g-init : goal.loop-g-init
loop-g-init c = ([], passed_none _, sym (pasted_none _ 0))

pub returns-in_err-group : goal.returns-in_err-group
returns-in_err-group c =
    let a = c.args in
    let at = c.loop-g in
    let x = at.invariant in
    rw c.from_residual.ensures
    (groups_stop a.text.now x.0 at.g a.out.now at.out c.group.new.out (omega arith) (omega arith) x.1 x.2 c.in_err-group.ensures c.if-n-ne0.false)

pub loop-g-preserved : goal.loop-g-preserved
loop-g-preserved c =
    let a = c.args in
    let at = c.loop-g in
    let x = at.invariant in
    groups_next a.text.now x.0 at.g a.out.now at.out c.group.new.out (omega arith) (omega arith) x.1 x.2 c.in_ok-group.ensures

pub returns-in_err-k : goal.returns-in_err-k
returns-in_err-k c =
    let a = c.args in
    let at = c.loop-g in
    let x = at.invariant in
    let n : at.g ≡ length a.text.now / 4 - 1 = omega arith in
    rw c.from_residual-in_err-k.ensures
    (decodes_bad a.text.now a.out.now at.out c.last.new.out x.0 (length a.text.now / 4 - 1) c.last.result (omega arith) (omega arith)
    (rw n at x.1) x.2 c.last.ensures c.in_err-k.was)

pub overflow_add-result : goal.overflow_add-result
overflow_add-result c =
    omega (arith, last_most _ _ _ _ _ c.in_ok-k.k _ (rw c.in_ok-k.was at c.last.ensures))

pub returns : goal.returns
returns c =
    let a = c.args in
    let at = c.loop-g in
    let x = at.invariant in
    let n : at.g ≡ length a.text.now / 4 - 1 = omega arith in
    decodes_good a.text.now a.out.now at.out c.last.new.out x.0 (length a.text.now / 4 - 1) c.last.result (omega arith) (omega arith)
    (rw n at x.1) x.2 c.last.ensures c.in_ok-k.k c.in_ok-k.was
