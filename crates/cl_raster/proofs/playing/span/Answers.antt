use Rattle.cl_raster.proofs.Replays.{acts_before}
use Rattle.cl_raster.proofs.playing.span.Goals as goal

pub returns-in_err-raster : goal.returns-in_err-raster
returns-in_err-raster c = rw (c.from_residual.ensures, c.in_err-raster.was) (acts_before c.args.text.now)
