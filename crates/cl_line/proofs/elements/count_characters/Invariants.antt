use Rattle.std.proofs.Common.{◌≡◌, ◌+◌, drop}
use Rattle.std.specs.List.{prefix_len}
use Rattle.cl_line.specs.Elements.{is_character}
use Rattle.cl_line.proofs.elements.count_characters.Given as goal

abbrev pub invariant-loop-element : goal.invariant-loop-element
invariant-loop-element l = record {
  whole : l.count + prefix_len is_character (drop l.element-index l.elements) ≡ prefix_len is_character l.elements;
  counted : l.count ≡ l.element-index;
}
