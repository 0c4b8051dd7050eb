use Rattle.std.proofs.Common.{◌≡◌, ◌++◌, drop}
use Rattle.cl_print.specs.Printed.{escape}
use Rattle.cl_print.proofs.printing.put_quoted.Given as goal

abbrev pub invariant-loop-byte : goal.invariant-loop-byte
invariant-loop-byte l = l.line.items ++ escape (drop l.byte-index l.bytes) ≡ l.initial.line.items ++ escape l.bytes
