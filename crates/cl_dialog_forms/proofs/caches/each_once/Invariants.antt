use Rattle.std.proofs.Common.{◌≡◌, [], drop}
use Rattle.cl_dialog_forms.specs.Caches.{once_behind}
use Rattle.cl_dialog_forms.proofs.caches.each_once.Given as goal

abbrev pub invariant-loop-path : goal.invariant-loop-path
invariant-loop-path l = once_behind l.once.items (drop l.path-index l.paths) ≡ once_behind [] l.paths
