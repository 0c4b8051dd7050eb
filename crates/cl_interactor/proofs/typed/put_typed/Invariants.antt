use Rattle.std.proofs.Common.{◌≡◌, ◌++◌, drop}
use Rattle.cl_interactor.specs.Typed.{typed_so_far}
use Rattle.cl_interactor.proofs.typed.put_typed.Given as goal

abbrev pub invariant-loop-element : goal.invariant-loop-element
invariant-loop-element l = l.bytes.items ++ typed_so_far (drop l.element-index l.element-items) ≡ l.initial.bytes.items ++ typed_so_far l.line
