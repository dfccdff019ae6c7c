-- `sizes::first_over` meets its contract: a head has at most nine bytes, so no sum wraps.
-- Assumes nothing.
use native.Mathlib.Omega.{arith}
use Rattle.cbor.proofs.Laws.{head_long}
use Rattle.host.proofs.Writing.{head_most}
use Rattle.sizes.proofs.Size.{over_untagged, over_tagged}
use Rattle.sizes.proofs.first_over.Goals as goal

pub overflow_add-over : goal.overflow_add-over
overflow_add-over c = omega (arith, c.head_len-over.ensures, head_most 0 c.args.size)

pub returns-then-tag_len-eq0 : goal.returns-then-tag_len-eq0
returns-then-tag_len-eq0 c =
    let a = c.args in
    omega (arith, c.head_len-over.ensures, head_long 0 a.size, over_untagged a.size a.tag_len c.if-tag_len-eq0.true)

pub overflow_add-result : goal.overflow_add-result
overflow_add-result c = omega (arith, c.head_len-over.ensures, head_most 0 c.args.size)

pub returns-else-tag_len-eq0 : goal.returns-else-tag_len-eq0
returns-else-tag_len-eq0 c =
    let a = c.args in
    omega (arith, c.head_len-over.ensures, head_long 0 a.size, over_tagged a.size a.tag_len c.if-tag_len-eq0.false)
