use Rattle.std.proofs.Common.{◌≡◌, drop}
use Rattle.cl_load.specs.Types.{first_missing}
use Rattle.cl_load.proofs.types.first_missing.Given as goal

abbrev pub invariant-loop-place : goal.invariant-loop-place
invariant-loop-place g l = first_missing (g.H.Hosts.bounds l.hosts) (drop l.place l.decls) ≡ first_missing (g.H.Hosts.bounds l.hosts) l.decls
