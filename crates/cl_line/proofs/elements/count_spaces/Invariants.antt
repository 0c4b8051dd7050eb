use Rattle.std.proofs.Common.{◌≡◌, ◌+◌, drop}
use Rattle.std.specs.List.{prefix_len}
use Rattle.cl_line.specs.Elements.{is_space}
use Rattle.cl_line.proofs.elements.count_spaces.Given as goal

abbrev pub invariant-loop-element : goal.invariant-loop-element
invariant-loop-element l = record {
  whole : l.count + prefix_len is_space (drop l.element-index l.elements) ≡ prefix_len is_space l.elements;
  counted : l.count ≡ l.element-index;
}
