use Rattle.cl_lattice.specs.Firsts.{InheritsTooMuch, offset_of}
use Rattle.cl_lattice.proofs.BuildingFirsts.{GoesOn}
use Rattle.cl_lattice.proofs.sizes.first_large_type.Given as goal

abbrev pub invariant-loop-place : goal.invariant-loop-place
invariant-loop-place l = GoesOn (InheritsTooMuch l.known) offset_of l.types l.place
