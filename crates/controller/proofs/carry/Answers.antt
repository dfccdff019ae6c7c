-- `controller::carry` meets its contract: an upload's data and tag lie in the packet that it was read from.
-- Assumes nothing.
use mathlib.Core.Path.{ap, ◌∙◌}
use Rattle.std.specs.Prelude.{Some, Ok}
use Rattle.requests.proofs.Sound.{upload_inside}
use Rattle.controller.proofs.carry.Goals as goal

pub do_upload-requires-clause-size_in_bounds : goal.do_upload-requires-clause-size_in_bounds
do_upload-requires-clause-size_in_bounds c =
    upload_inside c.args.packet.now c.in-Upload.upload (c.requires.packet_value ∙ ap Some (c.in-Ok.is ∙ ap Ok c.in-Upload.is))
