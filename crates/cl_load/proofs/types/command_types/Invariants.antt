use Rattle.std.proofs.Common.{◌≡◌, take}
use Rattle.cl_load.specs.Types.{command_types}
use Rattle.cl_load.proofs.types.command_types.Given as goal

abbrev pub invariant-loop-place : goal.invariant-loop-place
invariant-loop-place l = l.types ≡ command_types (take l.place l.commands)
