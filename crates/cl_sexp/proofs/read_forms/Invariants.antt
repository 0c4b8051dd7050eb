use Rattle.std.proofs.Common.{◌-◌, length}
use Rattle.cl_sexp.proofs.Forward.{Forward}
use Rattle.cl_sexp.proofs.read_forms.Given as goal

abbrev pub invariant-loop-at : goal.invariant-loop-at
invariant-loop-at l = Forward l.text l.tokens.items l.depth l.at

abbrev pub decreases-loop-at : goal.decreases-loop-at
decreases-loop-at l = length l.text - l.at
