-- `transcript::Printed::put_line` meets its contract: two numbers with a blank after each, and the line's end.
-- Assumes nothing.
use mathlib.Core.List.{[], ◌∷◌, ◌++◌}
use Rattle.smp.proofs.Writing.{wrote_three}
use Rattle.transcript.specs.Transcript.{wide, rc_text}
use Rattle.transcript.proofs.Printed.put_line.Goals as goal

pub returns : goal.returns
returns c =
    let s = c.args.self in
    wrote_three _ _ (wide c.args.k ++ (0x20 ∷ [])) (wide s.refusal ++ (0x20 ∷ [])) (rc_text s.replied s.rc) c.requires c.put_ended.ensures _ _
    c.put_ended-2.ensures c.put_rc.ensures
