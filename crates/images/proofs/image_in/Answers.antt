-- `images::image_in` meets its contract: an area's entries stand in order within the region.
-- Assumes nothing.
use mathlib.Core.Path.{sym, subst, ◌∙◌}
use Rattle.images.proofs.Laws.{AreaWithin, area_within}
use Rattle.images.proofs.image_in.Goals as goal

pub find_hash-requires : goal.find_hash-requires
find_hash-requires c = subst (AreaWithin c.args.region.now) (sym c.area_in.ensures ∙ c.in_ok-area.was) (area_within c.args.region.now)
