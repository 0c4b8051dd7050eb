-- What evaluating an expression answers, against what the definition says.
use Rattle.std.specs.Prelude.{◌≡◌, Bool, true, false, Option, Some, None}
use Rattle.cl_value.specs.Data.{Data}
use Rattle.cl_value.specs.Value.{data_of}
use Rattle.cl_syntax.specs.ExprTree.{ExprTree}
use Rattle.cl_application.specs.declared.applications.App.{App}
use Rattle.cl_eval.specs.declared.metering.Limits.{Limits}
use Rattle.cl_eval.specs.declared.metering.TheConstants.{MAX_DEPTH, OWN_BUDGET}
use Rattle.cl_eval.specs.declared.evaluating.Evaluated.{Evaluated}
use Rattle.cl_eval.specs.declared.evaluating.Evaluated.TheVariants as evaluated
use Rattle.cl_eval.specs.Slots.{Slots, Env}
use Rattle.cl_eval.specs.Outcome.{Outcome, Gives, Traps}
use Rattle.cl_eval.specs.Meaning.{means}

-- the limits of what is worked out on a counter of its own
abbrev pub own_limits : Limits
own_limits = record { budget = OWN_BUDGET; depth = MAX_DEPTH }

-- an expression by itself, from no cost
unfoldable pub outcome_of_eval : Limits → App → Slots → Env → ExprTree → Outcome Data
outcome_of_eval limits app slots env t = means limits.depth limits.budget app slots 0 env t 0 0

-- the value with its cost and its reach, or the trap's kind with the cost up to it
abbrev pub Evaluates : Evaluated → Outcome Data → Type 0
Evaluates (evaluated.Value v cost reach) (Gives d c l) = (data_of v ≡ d) × (cost ≡ c) × (reach ≡ l)
Evaluates (evaluated.Value v cost reach) (Traps kind c l) = ⊥
Evaluates (evaluated.Trap k cost) (Gives d c l) = ⊥
Evaluates (evaluated.Trap k cost) (Traps kind c l) = (k ≡ kind) × (cost ≡ c)
Evaluates evaluated.Memory o = Unit {0}

-- the value of an expression that does not trap
abbrev pub value_in : Outcome Data → Option Data
value_in (Gives d cost deepest) = Some d
value_in (Traps kind cost deepest) = None

-- whether an answer is out of memory
abbrev pub met_memory : Evaluated → Bool
met_memory (evaluated.Value v cost reach) = false
met_memory (evaluated.Trap k cost) = false
met_memory evaluated.Memory = true
