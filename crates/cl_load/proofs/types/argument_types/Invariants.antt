use Rattle.std.proofs.Common.{◌≡◌, take}
use Rattle.cl_load.specs.Types.{argument_types}
use Rattle.cl_load.proofs.types.argument_types.Given as goal

abbrev pub invariant-loop-place : goal.invariant-loop-place
invariant-loop-place l = l.specs.items ≡ argument_types (take l.place l.arguments)
