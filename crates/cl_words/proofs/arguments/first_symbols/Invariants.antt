use Rattle.std.proofs.Common.{◌≡◌, ◌++◌, drop, map}
use Rattle.cl_forms.specs.DatumView.{datum_of}
use Rattle.cl_words.specs.Arguments.{first_symbols}
use Rattle.cl_words.proofs.arguments.first_symbols.Given as goal

abbrev pub invariant-loop-list : goal.invariant-loop-list
invariant-loop-list l = l.names ++ first_symbols (map datum_of (drop l.list-index l.lists)) ≡ first_symbols (map datum_of l.lists)
