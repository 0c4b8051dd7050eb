use Rattle.std.proofs.Common.{◌≡◌, ◌≤◌, ◌-◌, length}
use Rattle.cl_line.specs.Tokens.{tokens_behind}
use Rattle.cl_line.proofs.tokens.next_token.Given as goal

abbrev pub invariant-loop-first : goal.invariant-loop-first
invariant-loop-first l = record {
  whole : tokens_behind l.at l.elements ≡ tokens_behind l.from l.elements;
  later : l.from ≤ l.at;
}

abbrev pub decreases-loop-first : goal.decreases-loop-first
decreases-loop-first l = length l.elements - l.at
