-- `uploads::first_len` meets its contract: the parts of the map, whose key names and heads have known lengths; no sum wraps, as the data is below 2^32 bytes.
-- Assumes nothing.
use native.Mathlib.Omega.{arith}
use mathlib.Core.Path.{sym, ◌∙◌}
use lib.ListN.{length}
use borrow.Author.Tests.{eqb-true}
use Rattle.host.proofs.Writing.{head_most}
use Rattle.uploads.proofs.Maps.{first_length_untagged, first_length_tagged, tag_size, tag_there}
use Rattle.uploads.proofs.first_len.Goals as goal

pub overflow_add-total : goal.overflow_add-total
overflow_add-total c = omega (arith, c.head_len.ensures, head_most 0 (length c.args.«data».now))

pub overflow_add-total-2 : goal.overflow_add-total-2
overflow_add-total-2 c = omega (arith, c.head_len.ensures, head_most 0 (length c.args.«data».now), c.requires.data_len_bound)

pub overflow_add-total-3 : goal.overflow_add-total-3
overflow_add-total-3 c =
    omega (
      arith,
      c.head_len.ensures,
      c.head_len-2.ensures,
      head_most 0 (length c.args.«data».now),
      head_most 0 c.args.size,
      c.requires.data_len_bound,
    )

pub returns-then-is_empty : goal.returns-then-is_empty
returns-then-is_empty c =
    let a = c.args in
    omega (
      arith,
      c.head_len.ensures,
      c.head_len-2.ensures,
      first_length_untagged a.«data».now a.size a.tag.now (eqb-true (length a.tag.now) 0 (sym c.is_empty.ensures ∙ c.if-is_empty.true)),
    )

pub overflow_add-result : goal.overflow_add-result
overflow_add-result c =
    omega (
      arith,
      c.head_len.ensures,
      c.head_len-2.ensures,
      head_most 0
          (length c.args.«data».now),
      head_most 0 c.args.size,
      c.requires.data_len_bound,
    )

pub returns-else-is_empty : goal.returns-else-is_empty
returns-else-is_empty c =
    let a = c.args in
    omega (
      arith,
      c.head_len.ensures,
      c.head_len-2.ensures,
      first_length_tagged a.«data».now a.size a.tag.now
          (tag_size a.tag.now c.requires.tag_value (tag_there a.tag.now (sym c.is_empty.ensures ∙ c.if-is_empty.false))),
    )
