use Rattle.std.proofs.Common.{◌≡◌, ◌+◌, drop, false}
use Rattle.cl_sexp.specs.Tokens.{text_begins}
use Rattle.cl_sexp.proofs.quoted.text_begins.Given as goal

abbrev pub invariant-loop-i : goal.invariant-loop-i
invariant-loop-i l = text_begins l.escaped (l.i + 1) (drop l.i l.bytes) ≡ text_begins false 1 l.bytes
