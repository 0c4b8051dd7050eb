-- What the exit from a dialog comes to.
use Rattle.std.specs.Prelude.{ℕ, Bool, true, false, List, [], ◌∷◌, ◌++◌, Option, Some, None}
use Rattle.cl_application.specs.declared.applications.App.{App}
use Rattle.cl_application.specs.declared.declarations.ConditionDecl.{ConditionDecl}
use Rattle.cl_application.specs.declared.declarations.DialogDecl.{DialogDecl}
use Rattle.cl_application.specs.declared.declarations.QueryDecl.{QueryDecl}
use Rattle.cl_dialog.specs.OpenDialog.{OpenDialog, Queries}
use Rattle.cl_dialog.specs.Variables.{values_env}
use Rattle.cl_dialog_forms.specs.Forms.{queries_of}
use Rattle.cl_eval.specs.Evaluated.{outcome_of_eval, own_limits, value_in}
use Rattle.cl_eval.specs.Slots.{Slots}
use Rattle.cl_parser.specs.Defaults.{closed_value}
use Rattle.cl_table.specs.Names.{named}
use Rattle.cl_value.specs.Data.{Data, bool}

-- ---- which queries are shown

-- whether a value is there and is true
abbrev pub is_true : Option Data → Bool
is_true (Some (bool b)) = b
is_true o = false

-- a condition ends with true; one that is not there does
abbrev pub holds : App → Slots → Queries → Option ConditionDecl → Bool
holds app slots queries None = true
holds app slots queries (Some c) = is_true (value_in (outcome_of_eval own_limits app slots (values_env queries) c.when))

-- whether a query is shown on these slots and beside queries with these values
abbrev pub shown : App → Slots → Queries → QueryDecl → Bool
shown app slots queries query = holds app slots queries query.condition

-- ---- the values at an exit

-- the value of a query that is there, if it is set
abbrev pub value_held : Option (Option Data) → Option Data
value_held None = None
value_held (Some o) = o

-- the value of the query of that name, if it is set
abbrev pub value_of : List ℕ → Queries → Option Data
value_of x queries = value_held (named x queries)

-- the value that stands for a query that is not shown
abbrev pub else_value : App → Option ConditionDecl → Option Data
else_value app None = None
else_value app (Some c) = closed_value app c.otherwise

-- the value that is held, where the query is shown, and else what stands for it
abbrev pub value_by : Bool → (held otherwise : Option Data) → Option Data
value_by true held otherwise = held
value_by false held otherwise = otherwise

-- what a query gives: its value, or what stands for it where it is not shown
abbrev pub given : App → Slots → Queries → QueryDecl → Option Data
given app slots queries q = value_by (shown app slots queries q) (value_of q.name queries) (else_value app q.condition)

-- ---- the exit

-- the command runs with these arguments, or this query is unset
pub data ExitAt : Type 0 where
  Runs : List Data → ExitAt
  Unset : List ℕ → ExitAt

-- what follows a value, or else this query is unset
abbrev pub behind : List ℕ → Option Data → (Data → ExitAt) → ExitAt
behind x None next = Unset x
behind x (Some d) next = next d

-- the values of queries in turn, behind those that are there; the first that gives none is unset
abbrev pub exit_behind : App → Slots → Queries → List Data → List QueryDecl → ExitAt
exit_behind app slots queries ds [] = Runs ds
exit_behind app slots queries ds (q ∷ qs) = behind q.name (given app slots queries q) (λ d. exit_behind app slots queries (ds ++ d ∷ []) qs)

-- the exit from a dialog that was declared so
abbrev pub exit_of : App → DialogDecl → Slots → OpenDialog → ExitAt
exit_of app d slots dialog = exit_behind app slots dialog.queries [] (queries_of d)
