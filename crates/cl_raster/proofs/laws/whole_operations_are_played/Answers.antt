use Rattle.cl_raster.proofs.Spelling.{played-append}
use Rattle.cl_raster.proofs.WireSteps.{played-clear, played-span}
use Rattle.cl_raster.proofs.laws.whole_operations_are_played.Goals as goal

pub returns : goal.returns
returns c = record { clears_blank = played-clear; spans_paint = played-span; in_order = played-append }
