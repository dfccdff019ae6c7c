-- `listing::Listed::new` meets its contract: every image's hash lies within its region.
-- Assumes nothing.
use mathlib.Core.Path.{sym, subst, ◌∙◌}
use Rattle.images.specs.Inner.{ImageWithin}
use Rattle.images.proofs.Laws.{image_within_lem}
use Rattle.listing.proofs.Listed.new.Goals as goal

pub invariant_of-result : goal.invariant_of-result
invariant_of-result c =
    record { within = λ x e. subst (ImageWithin c.of-bytes.result.now) (sym c.image_in.ensures ∙ e) (image_within_lem c.of-bytes.result.now) }
