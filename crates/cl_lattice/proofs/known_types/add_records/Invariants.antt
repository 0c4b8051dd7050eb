use Rattle.std.proofs.Common.{◌≡◌, drop, map}
use Rattle.cl_lattice.specs.World.{record_entry, with_all}
use Rattle.cl_lattice.proofs.known_types.add_records.Given as goal

abbrev pub invariant-loop-place : goal.invariant-loop-place
invariant-loop-place l = with_all (map record_entry (drop l.place l.records)) l.types ≡ with_all (map record_entry l.records) l.initial.types
