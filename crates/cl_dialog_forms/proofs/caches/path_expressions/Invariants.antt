use Rattle.std.proofs.Common.{◌≡◌, map, take}
use Rattle.cl_dialog_forms.specs.Caches.{path_expression}
use Rattle.cl_dialog_forms.proofs.caches.path_expressions.Given as goal

abbrev pub invariant-loop-path : goal.invariant-loop-path
invariant-loop-path l = l.expressions.items ≡ map path_expression (take l.path-index l.paths)
