use Rattle.cl_region.specs.Places.{move_rect}
use Rattle.cl_updating.proofs.OpeningLemmas.{range_test}
use Rattle.cl_updating.proofs.openings.stays_in_range.Goals as goal

pub returns : goal.returns
returns c = range_test (move_rect c.args.by c.args.rect.now) c.fits.result c.fits.ensures
