-- What expressions mean and statements do on a stage. The types of a program say what their members are.
use Rattle.std.specs.Prelude.{ℕ}
use Rattle.cl_eval.specs.declared.programs.Stage.{Stage}
use Rattle.cl_eval.specs.Scope.{variables_of}
use Rattle.cl_eval.specs.Slots.{Slots, Env}
use Rattle.cl_eval.specs.Meaning.{Go, means}
use Rattle.cl_eval.specs.Statements.{Member, Does, does}

-- the meaning of expressions on slots, where as many levels are left as there
abbrev pub meaning_on : {T : Type 0} → Stage T → Slots → Go
meaning_on here = means here.left here.program.now.limits.budget here.program.now.app.now

-- the meaning of statements, where as many levels are left as there
abbrev pub doing_on : {T : Type 0} → (T → Member) → Stage T → Does
doing_on holds here = does here.left here.program.now.limits.budget here.program.now.app.now (holds here.program.now.types.now)

-- what stands for the meaning of expressions, a level and variables, by those of a stage
abbrev pub seen_on : {T A : Type 0} → Stage T → Slots → (Go → ℕ → Env → A) → A
seen_on here slots f = f (meaning_on here slots) here.level (variables_of here.scope.now)

-- what stands for the meaning of statements, a level and variables, by those of a stage
abbrev pub played_on : {T A : Type 0} → (T → Member) → Stage T → (Does → ℕ → Env → A) → A
played_on holds here f = f (doing_on holds here) here.level (variables_of here.scope.now)
