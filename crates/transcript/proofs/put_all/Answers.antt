-- `transcript::put_all` meets its contract: what is left has room behind the lines that are written, and whoever writes it has written the whole text.
-- Assumes nothing.
use Prim.Native.Nat.{◌+◌}
use Rattle.writer.proofs.Steps.{room_first, room_second, wrote_twice}
use Rattle.transcript.specs.Transcript.{line_of}
use Rattle.transcript.proofs.Laws.{rest_from, rest_all, rest_none, rest_turn}
use Rattle.transcript.proofs.put_all.Goals as goal

pub loop-k-init : goal.loop-k-init
loop-k-init c =
    let all = rest_all c.args.answers.now c.args.count c.args.session in
    record { room = rw all c.requires.has_room; leads = λ w wrote. rw all at wrote }

pub put_line-requires : goal.put_line-requires
put_line-requires c =
    let a = c.args in
    let l = c.loop-k in
    rw c.at.ensures
    (room_first l.out (line_of a.answers.now l.k) (rest_from a.answers.now a.count a.session (l.k + 1))
    (rw (rest_turn a.answers.now a.count a.session l.k c.loop-k-test.true) at l.invariant.room))

pub loop-k-preserved : goal.loop-k-preserved
loop-k-preserved c =
    let a = c.args in
    let l = c.loop-k in
    let x = line_of a.answers.now l.k in
    let y = rest_from a.answers.now a.count a.session (l.k + 1) in
    let turn = rest_turn a.answers.now a.count a.session l.k c.loop-k-test.true in
    let room = rw turn at l.invariant.room in
    let wrote = rw c.at.ensures at c.put_line.ensures in
    record {
      room = room_second l.out c.put_line.new.out x y room wrote;
      leads = λ w after. l.invariant.leads w (rw turn (wrote_twice l.out c.put_line.new.out w x y room wrote after));
    }

pub put_end-requires : goal.put_end-requires
put_end-requires c =
    rw (rest_none c.args.answers.now c.args.count c.args.session c.loop-k.k c.loop-k-test.false) at c.loop-k.invariant.room

pub returns : goal.returns
returns c =
    c.loop-k.invariant.leads _ (rw (rest_none c.args.answers.now c.args.count c.args.session c.loop-k.k c.loop-k-test.false) c.put_end.ensures)
