use Rattle.std.proofs.Common.{◌≡◌, drop}
use Rattle.cl_syntax.specs.Paths.{begins}
use Rattle.cl_syntax.proofs.paths.begins.Given as goal

abbrev pub invariant-loop-place : goal.invariant-loop-place
invariant-loop-place l = begins (drop l.place l.fields) (drop l.place l.others) ≡ begins l.fields l.others
