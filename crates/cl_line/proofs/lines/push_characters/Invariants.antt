use Rattle.std.proofs.Common.{◌≡◌, ◌+◌, ◌++◌, drop}
use Rattle.std.specs.Prelude.{vec_capacity, vec_len}
use Rattle.cl_line.specs.Elements.{typed}
use Rattle.cl_line.proofs.lines.push_characters.Given as goal

abbrev pub invariant-loop-byte : goal.invariant-loop-byte
invariant-loop-byte l = record {
  whole : l.elements.items ++ typed (drop l.byte-index l.text) ≡ l.initial.elements.items ++ typed l.text;
  counted : vec_len l.elements ≡ vec_len l.initial.elements + l.byte-index;
  room : vec_capacity l.elements ≡ vec_capacity l.initial.elements;
}
