use Rattle.std.proofs.Common.{◌≡◌, ◌≤◌, ◌++◌, drop}
use Rattle.std.specs.Prelude.{false}
use Rattle.arrayvec.specs.ArrayVec.{array_vec_len}
use Rattle.cl_line.specs.Texts.{unquoted}
use Rattle.cl_line.proofs.texts.unquoted.Given as goal

abbrev pub invariant-loop-byte : goal.invariant-loop-byte
invariant-loop-byte l = record {
  whole : l.inside.items ++ unquoted l.escaped (drop l.byte-index l.bytes) ≡ unquoted false l.bytes;
  room : array_vec_len l.inside ≤ l.byte-index;
}
