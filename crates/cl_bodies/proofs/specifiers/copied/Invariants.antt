use Rattle.std.proofs.Common.{◌≡◌, ◌++◌, drop}
use Rattle.cl_bodies.proofs.specifiers.copied.Given as goal

abbrev pub invariant-loop-name : goal.invariant-loop-name
invariant-loop-name l = l.copied ++ drop l.name-index l.name-items ≡ l.names
