-- What was read so far, in front of what is read of the rest.
use Rattle.std.proofs.Common.{List, ◌++◌}
use Rattle.std.specs.Prelude.{Result, Ok, Err}
use Rattle.cl_syntax.specs.declared.expressions.Binding.{Binding}
use Rattle.cl_expressions.specs.Load.{Notes, Fault}
use Rattle.cl_expressions.specs.Expressions.{Bound}

abbrev pub onto : {A : Type 0} → List A → Result (List A × Notes) Fault → Result (List A × Notes) Fault
onto xs (Ok r) = Ok (xs ++ r.0, r.1)
onto xs (Err fault) = Err fault

abbrev pub onto_bound : List Binding → Result (Bound × Notes) Fault → Result (Bound × Notes) Fault
onto_bound bs (Ok r) = Ok ((bs ++ r.0.0, r.0.1), r.1)
onto_bound bs (Err fault) = Err fault
