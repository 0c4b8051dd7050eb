use Rattle.cl_syntax.specs.declared.type_decls.PlacedSpec.{PlacedSpec}
use Rattle.cl_lattice.specs.Firsts.{IsTooLarge}
use Rattle.cl_lattice.proofs.BuildingFirsts.{GoesOn}
use Rattle.cl_lattice.proofs.sizes.first_large.Given as goal

abbrev pub invariant-loop-placed : goal.invariant-loop-placed
invariant-loop-placed l = GoesOn (IsTooLarge l.known) (λ (p : PlacedSpec). p.at) l.specs l.placed-index
