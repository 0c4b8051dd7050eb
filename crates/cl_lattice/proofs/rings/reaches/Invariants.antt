use Rattle.std.proofs.Common.{◌+◌, ◌-◌, length}
use Rattle.cl_lattice.proofs.RingEntries.{missing}
use Rattle.cl_lattice.proofs.RingLemmas.{Search}
use Rattle.cl_lattice.proofs.rings.reaches.Given as goal

abbrev pub invariant-loop-place : goal.invariant-loop-place
invariant-loop-place l = Search l.known l.name l.spec l.found l.place

abbrev pub decreases-loop-place : goal.decreases-loop-place
decreases-loop-place l = missing l.known.types l.found + length l.found - l.place
