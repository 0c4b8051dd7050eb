use Rattle.std.proofs.Common.{◌≡◌, drop, map}
use Rattle.cl_forms.specs.DatumView.{datum_of}
use Rattle.cl_words.specs.Arguments.{are_named}
use Rattle.cl_words.proofs.arguments.are_named.Given as goal

abbrev pub invariant-loop-list : goal.invariant-loop-list
invariant-loop-list l = are_named (map datum_of (drop l.list-index l.lists)) ≡ are_named (map datum_of l.lists)
