use Rattle.std.proofs.Common.{take}
use Rattle.cl_tables.specs.Accessible.{AreShort}
use Rattle.cl_tables.proofs.declarations.names_are_short.Given as goal

abbrev pub invariant-loop-place : goal.invariant-loop-place
invariant-loop-place l = AreShort (take l.place l.places)
