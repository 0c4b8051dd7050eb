use Rattle.std.proofs.Common.{◌≡◌, ◌++◌, drop}
use Rattle.arrayvec.specs.ArrayVec.{array_vec_len}
use Rattle.cl_line.specs.Elements.{characters}
use Rattle.cl_line.proofs.texts.characters.Given as goal

abbrev pub invariant-loop-element : goal.invariant-loop-element
invariant-loop-element l = record {
  whole : l.bytes.items ++ characters (drop l.element-index l.elements) ≡ characters l.elements;
  counted : array_vec_len l.bytes ≡ l.element-index;
}
