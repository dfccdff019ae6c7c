-- `transcript::put_end` meets its contract: the word and a blank and then the session's place and 0A.
-- Assumes nothing.
use mathlib.Core.List.{[], ◌∷◌, ◌++◌}
use Rattle.writer.proofs.Steps.{room_second, wrote_twice}
use Rattle.transcript.specs.Transcript.{wide, end_at}
use Rattle.transcript.proofs.Laws.{end_at_lem}
use Rattle.transcript.proofs.put_end.Goals as goal

pub put_ended-requires : goal.put_ended-requires
put_ended-requires c =
    let s = c.args.session in
    room_second _ _ end_at (wide s.place ++ (0x0A ∷ [])) (rw (end_at_lem s c.if-session.true) at c.requires) c.bytes.ensures

pub returns-then-session : goal.returns-then-session
returns-then-session c =
    let s = c.args.session in
    let is = end_at_lem s c.if-session.true in
    rw is (wrote_twice _ _ _ end_at (wide s.place ++ (0x0A ∷ [])) (rw is at c.requires) c.bytes.ensures c.put_ended.ensures)
