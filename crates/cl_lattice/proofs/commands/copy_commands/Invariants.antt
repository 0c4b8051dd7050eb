use Rattle.std.proofs.Common.{◌≡◌, take}
use Rattle.cl_lattice.proofs.commands.copy_commands.Given as goal

abbrev pub invariant-loop-place : goal.invariant-loop-place
invariant-loop-place l = l.copied ≡ take l.place l.commands
