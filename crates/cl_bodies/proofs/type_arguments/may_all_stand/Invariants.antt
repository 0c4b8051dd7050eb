use Rattle.std.proofs.Common.{◌≡◌, drop, map}
use Rattle.cl_forms.specs.DatumView.{datum_of}
use Rattle.cl_bodies.specs.TypeArguments.{may_all_stand}
use Rattle.cl_bodies.proofs.type_arguments.may_all_stand.Given as goal

abbrev pub invariant-loop-part : goal.invariant-loop-part
invariant-loop-part l =
    may_all_stand l.parameters l.wanted (map datum_of (drop l.part-index l.parts)) ≡ may_all_stand l.parameters l.wanted (map datum_of l.parts)
