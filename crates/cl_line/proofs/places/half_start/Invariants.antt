use Rattle.std.proofs.Common.{◌≡◌, ◌-◌, length}
use Rattle.cl_line.specs.Places.{half_start}
use Rattle.cl_line.specs.Tokens.{tokens_behind}
use Rattle.cl_line.proofs.places.half_start.Given as goal

abbrev pub invariant-loop-token : goal.invariant-loop-token
invariant-loop-token l = half_start (length l.elements) (tokens_behind l.at l.elements) ≡ half_start (length l.elements) (tokens_behind l.from l.elements)

abbrev pub decreases-loop-token : goal.decreases-loop-token
decreases-loop-token l = length l.elements - l.at
