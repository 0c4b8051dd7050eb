use Rattle.std.proofs.Common.{drop}
use Rattle.cl_redisplay.specs.Patches.{blank_everywhere}
use Rattle.cl_redisplay.proofs.PatchLemmas.{GoesAlong}
use Rattle.cl_redisplay.proofs.patches.blank_row.Given as goal

abbrev pub invariant-loop-span : goal.invariant-loop-span
invariant-loop-span l = GoesAlong blank_everywhere l.initial.raster l.raster l.area tt l.row l.spans (drop l.span-index l.spans)
