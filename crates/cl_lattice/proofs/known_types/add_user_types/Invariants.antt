use Rattle.std.proofs.Common.{◌≡◌, drop, map}
use Rattle.cl_lattice.specs.World.{user_entry, with_all}
use Rattle.cl_lattice.proofs.known_types.add_user_types.Given as goal

abbrev pub invariant-loop-place : goal.invariant-loop-place
invariant-loop-place l = with_all (map user_entry (drop l.place l.decls)) l.types ≡ with_all (map user_entry l.decls) l.initial.types
