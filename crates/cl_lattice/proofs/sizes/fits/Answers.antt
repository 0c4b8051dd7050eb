use Rattle.cl_lattice.proofs.SizeLemmas.{fits_left}
use Rattle.cl_lattice.proofs.sizes.fits.Goals as goal

pub returns : goal.returns
returns c =
    let e = fits_left c.args.known.now c.args.spec.now in
    cc
