use Rattle.std.proofs.Common.{◌≡◌, [], drop, map}
use Rattle.cl_session.specs.Runs.{bound}
use Rattle.cl_value.specs.Value.{data_of}
use Rattle.cl_session.proofs.running.bound.Given as goal

abbrev pub invariant-loop-place : goal.invariant-loop-place
invariant-loop-place l =
    bound (drop l.place l.arguments) (map data_of (drop l.place l.values)) l.env ≡ bound l.arguments (map data_of l.values) []
