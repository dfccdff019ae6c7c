-- `host_calls::write_upload` meets its contract: what the writer said is told, and a packet is small enough for it.
-- Assumes nothing.
use mathlib.Core.Path.{sym, ap, ◌∙◌}
use Rattle.host.specs.Write.{Outcome}
use Rattle.host_calls.specs.Calls.{wrote_c}
use Rattle.widths.proofs.Writers.{upload_small}
use Rattle.host_calls.proofs.write_upload.Goals as goal

pub told_c-requires : goal.told_c-requires
told_c-requires c = λ n e.
    let a = c.args in
    upload_small a.sequence a.«data».now a.off a.length a.tag.now a.out.now n
    (ap (λ (o : Outcome). o.says) (sym c.write_upload.ensures) ∙ e)

pub returns : goal.returns
unfolding wrote_c
returns c =
    let a = c.args in
    c.told_c.ensures c.write_upload.new.out ∙ ap (λ (o : Outcome). wrote_c a.size.now o) c.write_upload.ensures
