use Rattle.std.proofs.Common.{◌≡◌, ◌++◌, drop, true}
use Rattle.cl_forms.specs.LineNames.{words_of}
use Rattle.cl_forms.proofs.line_names.words_of.Given as goal

abbrev pub invariant-loop-byte : goal.invariant-loop-byte
invariant-loop-byte l = l.line.items ++ words_of l.first (drop l.byte-index l.symbol) ≡ words_of true l.symbol
