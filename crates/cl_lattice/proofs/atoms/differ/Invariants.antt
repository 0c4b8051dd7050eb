use Rattle.std.proofs.Common.{◌≡◌, length}
use Rattle.cl_value.specs.Value.{parts_of}
use Rattle.cl_lattice.specs.Members.{differ}
use Rattle.cl_lattice.proofs.atoms.differ.Given as goal

abbrev pub invariant-loop-first : goal.invariant-loop-first
invariant-loop-first l = differ (parts_of l.left) ≡ differ (parts_of l.parts)

abbrev pub decreases-loop-first : goal.decreases-loop-first
decreases-loop-first l = length l.left
