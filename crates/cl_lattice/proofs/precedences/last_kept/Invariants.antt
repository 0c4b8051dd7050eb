use Rattle.std.proofs.Common.{◌≡◌, ◌++◌, length}
use Rattle.cl_lattice.specs.Precedence.{last_kept}
use Rattle.cl_lattice.proofs.precedences.last_kept.Given as goal

abbrev pub invariant-loop-first : goal.invariant-loop-first
invariant-loop-first l = l.kept ++ last_kept l.rest ≡ last_kept l.names

abbrev pub decreases-loop-first : goal.decreases-loop-first
decreases-loop-first l = length l.rest
