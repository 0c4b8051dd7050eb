use Rattle.std.proofs.Common.{◌≡◌, ◌≤◌, ◌+◌, ◌-◌, length}
use Rattle.cl_line.specs.Places.{number_typed}
use Rattle.cl_line.specs.Tokens.{tokens_behind}
use Rattle.cl_line.proofs.places.number_typed.Given as goal

abbrev pub invariant-loop-token : goal.invariant-loop-token
invariant-loop-token l = record {
  whole : l.number + number_typed (length l.elements) (tokens_behind l.at l.elements) ≡ 1 + number_typed (length l.elements) (tokens_behind l.from l.elements);
  few : l.number ≤ l.at + 1;
}

abbrev pub decreases-loop-token : goal.decreases-loop-token
decreases-loop-token l = length l.elements - l.at
