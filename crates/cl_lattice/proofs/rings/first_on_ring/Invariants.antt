use Rattle.cl_lattice.specs.Firsts.{StandsOnRing, offset_of}
use Rattle.cl_lattice.proofs.BuildingFirsts.{GoesOn}
use Rattle.cl_lattice.proofs.rings.first_on_ring.Given as goal

abbrev pub invariant-loop-place : goal.invariant-loop-place
invariant-loop-place l = GoesOn (StandsOnRing l.known) offset_of l.types l.place
