use Rattle.std.proofs.Common.{◌≡◌, drop, map}
use Rattle.cl_forms.specs.DatumView.{datum_of}
use Rattle.cl_expressions.specs.Scopes.{variables_of}
use Rattle.cl_expressions.proofs.Onto.{onto}
use Rattle.cl_bodies.specs.Paths.{parse_each_path}
use Rattle.cl_bodies.proofs.paths.parse_each_path.Given as goal

abbrev pub invariant-loop-part : goal.invariant-loop-part
invariant-loop-part l =
    onto l.paths.items (parse_each_path l.reader.signatures.now (map datum_of (drop l.part-index l.parts)) (variables_of l.reader.scope.now) l.notes)
    ≡ parse_each_path l.reader.signatures.now (map datum_of l.parts) (variables_of l.reader.scope.now) l.initial.notes
