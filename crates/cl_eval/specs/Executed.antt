-- What running statements answers, against what the definition says.
use Rattle.std.specs.Prelude.{◌≡◌, List, [], Bool, true, false, None}
use Rattle.cl_value.specs.declared.Held.{Held}
use Rattle.cl_value.specs.declared.Held.TheVariants as held
use Rattle.cl_syntax.specs.ActTree.{ActTree, act_trees_of}
use Rattle.cl_application.specs.declared.applications.App.{App}
use Rattle.cl_eval.specs.declared.effects.Effects.{Effects}
use Rattle.cl_eval.specs.declared.execution.Executed.{Executed}
use Rattle.cl_eval.specs.declared.execution.Executed.TheVariants as executed
use Rattle.cl_eval.specs.declared.metering.Limits.{Limits}
use Rattle.cl_eval.specs.Slots.{Slots, Env}
use Rattle.cl_eval.specs.Outcome.{Outcome, Gives, Traps}
use Rattle.cl_eval.specs.Statements.{Member, does, in_turn}

-- whether that could be found
abbrev pub Decides : Held → Bool → Type 0
Decides held.Yes b = b ≡ true
Decides held.No b = b ≡ false
Decides held.Memory b = Unit {0}

-- no statement was run yet
abbrev pub no_effects : Slots → Effects
no_effects slots = record { slots = slots; replies = []; reply_bytes = 0; switches = []; dialog = None }

-- a body of statements, from no cost
unfoldable pub outcome_of_exec : Limits → App → Member → List ActTree → Env → Slots → Outcome Effects
outcome_of_exec limits app member body env slots =
    in_turn (does limits.depth limits.budget app member) 0 env (act_trees_of body) (no_effects slots) 0 0

-- the effects of an end without a trap, or the trap's kind; each with the cost
abbrev pub Executes : Executed → Outcome Effects → Type 0
Executes (executed.Done s cost) (Gives e c deepest) = (s ≡ e) × (cost ≡ c)
Executes (executed.Done s cost) (Traps kind c deepest) = ⊥
Executes (executed.Trap k cost) (Gives e c deepest) = ⊥
Executes (executed.Trap k cost) (Traps kind c deepest) = (k ≡ kind) × (cost ≡ c)
Executes executed.Memory o = Unit {0}

-- whether an answer is out of memory
abbrev pub met_memory : Executed → Bool
met_memory (executed.Done s cost) = false
met_memory (executed.Trap k cost) = false
met_memory executed.Memory = true
