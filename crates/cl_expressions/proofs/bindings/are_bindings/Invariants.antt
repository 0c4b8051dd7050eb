use Rattle.std.proofs.Common.{◌≡◌, drop, map}
use Rattle.cl_forms.specs.DatumView.{datum_of}
use Rattle.cl_expressions.specs.Expressions.{are_bindings}
use Rattle.cl_expressions.proofs.bindings.are_bindings.Given as goal

abbrev pub invariant-loop-part : goal.invariant-loop-part
invariant-loop-part l = are_bindings (map datum_of (drop l.part-index l.parts)) ≡ are_bindings (map datum_of l.parts)
