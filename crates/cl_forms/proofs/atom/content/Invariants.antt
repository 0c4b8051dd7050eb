use Rattle.std.proofs.Common.{◌≡◌, ◌++◌, drop, false}
use Rattle.cl_forms.specs.Spelled.{unescaped}
use Rattle.cl_forms.proofs.atom.content.Given as goal

abbrev pub invariant-loop-byte : goal.invariant-loop-byte
invariant-loop-byte l = l.content.items ++ unescaped l.escaped (drop l.byte-index l.bytes) ≡ unescaped false l.bytes
