use Rattle.std.proofs.Common.{◌≡◌, drop, map}
use Rattle.cl_lattice.specs.Listing.{declared_name, with_lists}
use Rattle.cl_lattice.proofs.precedences.add_declared.Given as goal

abbrev pub invariant-loop-place : goal.invariant-loop-place
invariant-loop-place l = with_lists l.known (map declared_name (drop l.place l.types)) l.table ≡ with_lists l.known (map declared_name l.types) l.initial.table
