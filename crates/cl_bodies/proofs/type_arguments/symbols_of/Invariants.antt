use Rattle.std.proofs.Common.{◌≡◌, ◌++◌, drop, map}
use Rattle.cl_forms.specs.DatumView.{datum_of}
use Rattle.cl_forms.specs.Naming.{symbol_of}
use Rattle.cl_bodies.proofs.type_arguments.symbols_of.Given as goal

abbrev pub invariant-loop-part : goal.invariant-loop-part
invariant-loop-part l = l.names ++ map symbol_of (map datum_of (drop l.part-index l.parts)) ≡ map symbol_of (map datum_of l.parts)
