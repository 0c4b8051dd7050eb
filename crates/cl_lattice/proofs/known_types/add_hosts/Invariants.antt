use Rattle.std.proofs.Common.{◌≡◌, drop, map}
use Rattle.cl_lattice.specs.World.{host_entry, with_all}
use Rattle.cl_lattice.proofs.known_types.add_hosts.Given as goal

abbrev pub invariant-loop-place : goal.invariant-loop-place
invariant-loop-place l = with_all (map host_entry (drop l.place l.hosts)) l.types ≡ with_all (map host_entry l.hosts) l.initial.types
