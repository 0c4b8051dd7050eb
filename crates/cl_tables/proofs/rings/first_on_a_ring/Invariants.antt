use Rattle.cl_tables.proofs.SearchLemmas.{GoesOn}
use Rattle.cl_tables.proofs.rings.first_on_a_ring.Given as goal

abbrev pub invariant-loop-place : goal.invariant-loop-place
invariant-loop-place l = GoesOn l.tables l.place
