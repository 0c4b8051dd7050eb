use Rattle.std.proofs.Common.{◌≡◌, ◌++◌, drop, map}
use Rattle.cl_forms.specs.DatumView.{datum_of}
use Rattle.cl_forms.specs.OuterView.{outer_of}
use Rattle.cl_forms.specs.Outer.{outers_of}
use Rattle.cl_forms.proofs.outer.outers_of.Given as goal

abbrev pub invariant-loop-form : goal.invariant-loop-form
invariant-loop-form l = map outer_of l.outers.items ++ outers_of (map datum_of (drop l.form-index l.forms)) ≡ outers_of (map datum_of l.forms)
