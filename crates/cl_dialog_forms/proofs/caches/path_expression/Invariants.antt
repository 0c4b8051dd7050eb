use Rattle.std.proofs.Common.{◌≡◌, drop}
use Rattle.cl_dialog_forms.specs.Caches.{fields_taken, path_expression}
use Rattle.cl_dialog_forms.proofs.caches.path_expression.Given as goal

abbrev pub invariant-loop-field : goal.invariant-loop-field
invariant-loop-field l = fields_taken l.expression (drop l.field-index l.field-items) ≡ path_expression l.path
