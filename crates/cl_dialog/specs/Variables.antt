-- The variables that stand for the queries of a dialog.
use Rattle.std.specs.Prelude.{[], ◌∷◌, Option, Some, None, is_some}
use Rattle.cl_dialog.specs.OpenDialog.{OpenDialog, Queries}
use Rattle.cl_dialog_forms.specs.Names.{set_name}
use Rattle.cl_eval.specs.Slots.{Env}
use Rattle.cl_value.specs.Data.{Data, bool, null}

-- a value, or null where there is none
abbrev pub or_null : Option Data → Data
or_null None = null
or_null (Some d) = d

-- each query's name with its value, null where it is unset
abbrev pub values_env : Queries → Env
values_env [] = []
values_env (q ∷ qs) = (q.0, or_null q.1) ∷ values_env qs

-- the same, each before the variable that tells whether it is set
abbrev pub form_env : Queries → Env
form_env [] = []
form_env (q ∷ qs) = (q.0, or_null q.1) ∷ (set_name q.0, bool (is_some q.1)) ∷ form_env qs

-- the variables of the form of a dialog
abbrev pub env_of : OpenDialog → Env
env_of dialog = form_env dialog.queries
