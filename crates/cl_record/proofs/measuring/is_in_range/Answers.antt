use Rattle.std.proofs.Common.{sym, subst}
use Rattle.cl_region.specs.Places.{IsInRange}
use Rattle.cl_record.proofs.Moves.{moved-still}
use Rattle.cl_record.proofs.measuring.is_in_range.Goals as goal

pub returns : goal.returns
returns c = (
  (λ t. subst IsInRange (moved-still c.args.rect.now) (c.fits.ensures.0 t)),
  (λ h. c.fits.ensures.1 (subst IsInRange (sym (moved-still c.args.rect.now)) h)),
)
