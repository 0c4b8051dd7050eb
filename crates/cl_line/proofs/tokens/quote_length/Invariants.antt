use Rattle.std.proofs.Common.{◌≡◌, ◌+◌, drop}
use Rattle.std.specs.Prelude.{false, option_map}
use Rattle.cl_line.specs.Tokens.{quote_length}
use Rattle.cl_line.proofs.tokens.quote_length.Given as goal

abbrev pub invariant-loop-element : goal.invariant-loop-element
invariant-loop-element l = record {
  whole : option_map (λ n. l.count + n) (quote_length l.escaped (drop l.element-index l.elements)) ≡ quote_length false l.elements;
  counted : l.count ≡ l.element-index;
}
