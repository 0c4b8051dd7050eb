use Rattle.std.proofs.Common.{◌≡◌, drop, map}
use Rattle.cl_forms.specs.DatumView.{datum_of}
use Rattle.cl_forms.specs.Naming.{are_names}
use Rattle.cl_forms.proofs.naming.are_names.Given as goal

abbrev pub invariant-loop-part : goal.invariant-loop-part
invariant-loop-part l = are_names (map datum_of (drop l.part-index l.parts)) ≡ are_names (map datum_of l.parts)
