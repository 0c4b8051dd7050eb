-- The meaning of expressions at a standpoint.
use Rattle.std.specs.Prelude.{ℕ, ◌+◌, ◌-◌}
use Rattle.cl_eval.specs.declared.evaluation.Standpoint.{Standpoint}
use Rattle.cl_eval.specs.Scope.{variables_of}
use Rattle.cl_eval.specs.Slots.{Env}
use Rattle.cl_eval.specs.Meaning.{Go, means}

-- by its context, where as many levels are left as there
abbrev pub meaning_at : Standpoint → Go
meaning_at here = means here.left here.context.now.budget here.context.now.app.now here.context.now.slots.now

-- what stands for the meaning of parts, a level and variables, by those of a standpoint
abbrev pub seen_from : {A : Type 0} → Standpoint → (Go → ℕ → Env → A) → A
seen_from here f = f (meaning_at here) here.level (variables_of here.scope.now)

-- a standpoint one level further down
abbrev pub lower : Standpoint → Standpoint
lower here = record { context = here.context; scope = here.scope; left = here.left - 1; level = here.level + 1 }
