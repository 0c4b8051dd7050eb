-- The paths of a list of steps: where something is called for the first time, its own steps stand before the rest.
use Rattle.std.specs.Prelude.{ℕ, zero, suc, ◌+◌, Bool, true, false, List, [], ◌∷◌, ◌++◌, length, Option, Some, None}
use Rattle.std.specs.List.{list_any}
use Rattle.cl_syntax.specs.ExprTree.{ExprTree}
use Rattle.cl_syntax.specs.ShapeTree.{ShapeTrees}
use Rattle.cl_application.specs.declared.applications.App.{App}
use Rattle.cl_cover.specs.Sights.{everything}
use Rattle.cl_cover.specs.Steps.{body_steps, steps, steps_forms}
use Rattle.cl_syntax.specs.contracts.callees.CalleePartialEq.TheImpl as callee_eq
use Rattle.cl_syntax.specs.declared.callees.Callee.{Callee}
use Rattle.cl_syntax.specs.declared.paths.Path.{Path}
use Rattle.cl_cover.specs.declared.steps.Step.{Step}
use Rattle.cl_cover.specs.declared.steps.Step.TheVariants as step

-- one of the callees is this one
abbrev pub is_among : Callee → List Callee → Bool
is_among c cs = list_any ((callee_eq.ghosts).eq c) cs

-- the paths so far, and the callees that were entered
pub record Walked : Type 0 where
  pub paths : List Path
  pub entered : List Callee

-- no path, and no callee
abbrev pub nothing : Walked
nothing = record { paths = []; entered = [] }

-- one path more
abbrev pub with_path : Path → Walked → Walked
with_path p w = record { paths = w.paths ++ p ∷ []; entered = w.entered }

-- one callee more
abbrev pub with_callee : Callee → Walked → Walked
with_callee c w = record { paths = w.paths; entered = w.entered ++ c ∷ [] }

-- the steps of what is called
abbrev pub Body : Type 0
Body = Callee → Option (List Step)

-- what was entered, or is not declared, is passed over
abbrev pub unless_entered : {A : Type 0} → Bool → Option (List Step) → (List Step → A) → A → A
unless_entered true body enters passes = passes
unless_entered false None enters passes = passes
unless_entered false (Some ss) enters passes = enters ss

-- steps up to the first callee that is entered, by what is done then with the steps that are left
abbrev pub through : Body → (Callee → List Step → Walked → Walked) → List Step → Walked → Walked
through body enter [] w = w
through body enter (step.Reads p ∷ more) w = through body enter more (with_path p w)
through body enter (step.Calls c ∷ more) w =
    unless_entered (is_among c w.entered) (body c) (λ ss. enter c (ss ++ more) w) (through body enter more w)

-- all steps, where so many callees may still be entered
abbrev pub walk : Body → ℕ → List Step → Walked → Walked
walk body zero ss w = through body (λ c more v. v) ss w
walk body (suc n) ss w = through body (λ c more v. walk body n more (with_callee c v)) ss w

-- how many callees an application has, at most
abbrev pub callees : App → ℕ
callees app = (length app.functions + length app.displays) + (length app.present_methods + length app.types)

-- the paths of steps, through all that they call
abbrev pub paths_along : App → List Step → List Path
paths_along app ss = (walk (body_steps app) (callees app) ss nothing).paths

-- the paths that an expression reads, in the order of the text
abbrev pub expression_reads : App → ExprTree → List Path
expression_reads app t = paths_along app (steps everything [] t)

-- the paths that display forms read, in the order of the text
abbrev pub reads_of : App → ShapeTrees → List Path
reads_of app fs = paths_along app (steps_forms everything fs)
