use Rattle.std.proofs.Common.{◌≡◌, drop, map}
use Rattle.cl_forms.specs.DatumView.{datum_of}
use Rattle.cl_bodies.specs.TypeArguments.{first_stray}
use Rattle.cl_bodies.proofs.type_arguments.first_stray.Given as goal

abbrev pub invariant-loop-part : goal.invariant-loop-part
invariant-loop-part l = first_stray (map datum_of (drop l.part-index l.parts)) ≡ first_stray (map datum_of l.parts)
