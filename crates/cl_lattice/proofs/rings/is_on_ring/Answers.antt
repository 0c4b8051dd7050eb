use Rattle.std.proofs.Common.{sym, ◌∙◌}
use Rattle.cl_lattice.proofs.RingParts.{fits_no_ring}
use Rattle.cl_lattice.proofs.rings.is_on_ring.Goals as goal

pub returns-then-fits : goal.returns-then-fits
returns-then-fits c = (λ no. cc, λ ring. absurd (fits_no_ring c.args.known.now c.args.name.now c.in-Some.spec.now (sym c.in-Some.ensures) (sym c.fits.ensures ∙ c.if-fits.true) ring))
