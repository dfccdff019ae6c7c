-- `listing::write_list` meets its contract: a list that is longer than the buffer is rc 7, which fits.
-- Assumes nothing.
use mathlib.Core.Path.{sym, ap, ◌∙◌}
use mathlib.Core.List.{List}
use Prim.Native.Nat.{ℕ, ◌+◌, ◌≤◌}
use native.Mathlib.Omega.{arith}
use lib.ListN.{length}
use borrow.Author.Tests.{le-ltb, lt-ltb}
use Rattle.session.proofs.Laws.{layout_bounds, region_bounds}
use Rattle.writer.proofs.Steps.{wrote_length}
use Rattle.smp.proofs.Writing.{written_whole, written_seven, packet_put, starts_back}
use Rattle.listing.specs.Listing.{list_map}
use Rattle.listing.specs.Inner.{image_length}
use Rattle.listing.proofs.Laws.{list_long}
use Rattle.listing.proofs.write_list.Goals as goal

pub new-first-requires : goal.new-first-requires
new-first-requires c = (layout_bounds c.args.layout _ c.requires.memory_value).inside

pub new-second-requires : goal.new-second-requires
new-second-requires c = (region_bounds c.args.layout.slot1 _ (layout_bounds c.args.layout _ c.requires.memory_value).upload).inside

pub returns-then-buf-size : goal.returns-then-buf-size
returns-then-buf-size c =
    let a = c.args in
    let m : List ℕ = list_map a.memory.now a.layout in
    let first = c.map_len.ensures.0 ∙ ap image_length c.new-first.ensures.1 in
    let second = c.map_len-2.ensures.0 ∙ ap image_length c.new-second.ensures.1 in
    let test = lt-ltb (length a.buf.now) (8 + length m) (omega (arith, first, second, list_long a.memory.now a.layout, c.if-buf-size.true)) in
    written_seven a.h m a.buf.now _ _ test c.put_too_long.ensures

pub put_list-requires : goal.put_list-requires
unfolding list_map
put_list-requires c =
    let a = c.args in
    let first = c.map_len.ensures.0 ∙ ap image_length c.new-first.ensures.1 in
    let second = c.map_len-2.ensures.0 ∙ ap image_length c.new-second.ensures.1 in
    rw (c.new-first.ensures.0, c.new-first.ensures.1, c.new-second.ensures.0, c.new-second.ensures.1)
    (omega (arith, first, second, list_long a.memory.now a.layout, c.if-buf-size.false))

pub put_reply_header-requires-clause-le_end : goal.put_reply_header-requires-clause-le_end
unfolding list_map
put_reply_header-requires-clause-le_end c =
    let a = c.args in
    let m : List ℕ = list_map a.memory.now a.layout in
    let first = c.map_len.ensures.0 ∙ ap image_length c.new-first.ensures.1 in
    let second = c.map_len-2.ensures.0 ∙ ap image_length c.new-second.ensures.1 in
    let room : 8 + length m ≤ length a.buf.now = omega (arith, first, second, list_long a.memory.now a.layout, c.if-buf-size.false) in
    let w = rw (c.new-first.ensures.0, c.new-first.ensures.1, c.new-second.ensures.0, c.new-second.ensures.1) at c.put_list.ensures in
    (omega (arith, w.place), omega (arith, wrote_length _ _ m room w, room))

pub returns : goal.returns
unfolding list_map
returns c =
    let a = c.args in
    let m : List ℕ = list_map a.memory.now a.layout in
    let first = c.map_len.ensures.0 ∙ ap image_length c.new-first.ensures.1 in
    let second = c.map_len-2.ensures.0 ∙ ap image_length c.new-second.ensures.1 in
    let room : 8 + length m ≤ length a.buf.now = omega (arith, first, second, list_long a.memory.now a.layout, c.if-buf-size.false) in
    let w = rw (c.new-first.ensures.0, c.new-first.ensures.1, c.new-second.ensures.0, c.new-second.ensures.1) at c.put_list.ensures in
    let whole = starts_back (packet_put a.h m _ room w.place w.written c.put_reply_header.ensures) (grind (arith, sym w.same_buffer)) in
    written_whole a.h m a.buf.now _ _ (le-ltb (length a.buf.now) (8 + length m) room) whole
