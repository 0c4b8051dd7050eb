use Rattle.std.proofs.Common.{true}
use Rattle.cl_raster.proofs.WireSteps.{played-mended}
use Rattle.cl_raster.proofs.laws.a_clear_mends_what_broke_off.Goals as goal

pub returns : goal.returns
returns c = λ s width height size. played-mended s true width height (λ e. cc) size
