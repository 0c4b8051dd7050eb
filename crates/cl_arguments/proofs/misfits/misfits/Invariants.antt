use Rattle.std.proofs.Common.{◌-◌, ◌^◌}
use Rattle.cl_arguments.proofs.SearchLemmas.{Search}
use Rattle.cl_arguments.proofs.misfits.misfits.Given as goal

abbrev pub invariant-loop-place : goal.invariant-loop-place
invariant-loop-place l = Search l.types l.spec l.fn.found l.found l.place

abbrev pub decreases-loop-place : goal.decreases-loop-place
decreases-loop-place l = 2 ^ 63 - l.place
