use Rattle.cl_syntax.specs.declared.type_decls.PlacedSpec.{PlacedSpec}
use Rattle.cl_lattice.proofs.BuildingFirsts.{GoesOn}
use Rattle.cl_arguments.specs.Misfits.{IsMisfit}
use Rattle.cl_arguments.specs.ProbeSearch.{AreClear}
use Rattle.cl_arguments.proofs.misfits.first_misfit.Given as goal

abbrev pub invariant-loop-placed : goal.invariant-loop-placed
invariant-loop-placed l = record { clear : AreClear l.types l.found; on : GoesOn (IsMisfit l.types) (λ (p : PlacedSpec). p.at) l.specs l.placed-index }
