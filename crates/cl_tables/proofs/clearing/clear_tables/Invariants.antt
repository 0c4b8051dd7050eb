use Rattle.std.proofs.Common.{◌+◌, length}
use Rattle.cl_tables.specs.Clearing.{AreClear, pending}
use Rattle.cl_tables.proofs.clearing.clear_tables.Given as goal

abbrev pub invariant-loop-step : goal.invariant-loop-step
invariant-loop-step l = AreClear l.tables l.clear

abbrev pub decreases-loop-step : goal.decreases-loop-step
decreases-loop-step l = pending l.tables l.entered + length l.steps.items
