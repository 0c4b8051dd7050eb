use Rattle.std.proofs.Common.{◌≡◌, take}
use Rattle.cl_load.specs.Types.{host_bounds}
use Rattle.cl_load.proofs.types.host_bounds.Given as goal

abbrev pub invariant-loop-place : goal.invariant-loop-place
invariant-loop-place g l = l.bounds ≡ host_bounds (g.H.Hosts.bounds l.hosts) (take l.place l.decls)
