use Rattle.std.proofs.Common.{◌≡◌, ◌++◌, drop, map}
use Rattle.cl_forms.specs.DatumView.{datum_of}
use Rattle.cl_declare.specs.Names.{names_of}
use Rattle.cl_declare.proofs.names.names_in.Given as goal

abbrev pub invariant-loop-part : goal.invariant-loop-part
invariant-loop-part l = l.names ++ names_of (map datum_of (drop l.part-index l.parts)) ≡ names_of (map datum_of l.parts)
