use Rattle.std.proofs.Common.{◌≡◌, ◌++◌, drop, map}
use Rattle.cl_forms.specs.DatumView.{datum_of}
use Rattle.cl_phases.specs.DeclaredNames.{names_at}
use Rattle.cl_phases.proofs.declared_names.names_at.Given as goal

abbrev pub invariant-loop-part : goal.invariant-loop-part
invariant-loop-part l = l.names.items ++ names_at (map datum_of (drop l.part-index l.parts)) ≡ names_at (map datum_of l.parts)
