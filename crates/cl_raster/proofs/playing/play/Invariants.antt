use Rattle.std.proofs.Common.{length}
use Rattle.cl_raster.proofs.Progress.{IsPlayed}
use Rattle.cl_raster.proofs.playing.play.Given as goal

abbrev pub invariant-loop-line : goal.invariant-loop-line
invariant-loop-line l = IsPlayed l.shown l.fn.bytes l.rest

abbrev pub decreases-loop-line : goal.decreases-loop-line
decreases-loop-line l = length l.rest
