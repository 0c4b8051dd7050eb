-- The meaning of expressions. Each form that is entered costs 1, and its parts cost in turn, from left to right. Reach is the
-- deepest level that is entered. Traps on entering a form: 5 the budget, then 6 the depth. A form's own traps come when all its
-- parts have ended, but for the checks that stand between them here.
use Rattle.std.specs.Prelude.{ℕ, zero, suc, ◌+◌, Bool, true, false, nat_le, if◌then◌else◌, ◌==◌, max, List, [], ◌∷◌, ◌++◌, length, Option, Some, None}
use Rattle.cl_value.specs.Data.{Data, bool, list, items_of}
use Rattle.cl_syntax.specs.ExprTree as expr
use Rattle.cl_syntax.specs.ExprTree.{ExprTree, ExprTrees, Bindings, none, part, unbound, binding}
use Rattle.cl_application.specs.App.{function_named}
use Rattle.cl_application.specs.declared.applications.App.{App}
use Rattle.cl_application.specs.declared.declarations.FunctionDecl.{FunctionDecl}
use Rattle.cl_syntax.specs.declared.operators.Operator.{Operator}
use Rattle.cl_eval.specs.Outcome.{Gives, Traps, Run, give, trap, lift, ◌>>=◌}
use Rattle.cl_eval.specs.Slots.{Slots, Env, value_named, bind_parameters}
use Rattle.cl_eval.specs.Operators.{within_limits, or_trap, truth, elements, operate}

-- on entering a form: first the budget, then the depth
abbrev pub entering : ℕ → ℕ → ℕ → Run (Unit {0})
entering left budget level cost deepest =
    if nat_le budget cost then Traps 5 cost deepest
    else (if left == 0 then Traps 6 cost deepest else Gives tt (cost + 1) (max deepest (level + 1)))

-- the meaning of the parts: an expression at a level, with the variables there
abbrev pub Go : Type 0
Go = ℕ → Env → ExprTree → Run Data

-- whether an expression is true, where a Bool is asked for
abbrev pub truth_of : Go → ℕ → Env → ExprTree → Run Bool
truth_of go level env t = go level env t >>= λ d. lift (truth d)

-- the parts of a list, where one is asked for
abbrev pub parts_of_list : Go → ℕ → Env → ExprTree → Run (List Data)
parts_of_list go level env t = go level env t >>= λ d. lift (elements d)

-- the values of parts in order, behind those that are there
abbrev pub each : Go → ℕ → Env → ExprTrees → List Data → Run (List Data)
each go level env none ds = give ds
each go level env (part t ts) ds = go level env t >>= λ d. each go level env ts (ds ++ d ∷ [])

-- true where each part is, up to the first that is not
abbrev pub every : Go → ℕ → Env → ExprTrees → Run Data
every go level env none = give (bool true)
every go level env (part t ts) = truth_of go level env t >>= λ b. if b then every go level env ts else give (bool false)

-- false where each part is, up to the first that is not
abbrev pub some : Go → ℕ → Env → ExprTrees → Run Data
some go level env none = give (bool false)
some go level env (part t ts) = truth_of go level env t >>= λ b. if b then give (bool true) else some go level env ts

-- the variables behind bindings, each of which sees the ones before it
abbrev pub bind_each : Go → ℕ → Bindings → Env → Run Env
bind_each go level unbound env = give env
bind_each go level (binding x t bs) env = go level env t >>= λ d. bind_each go level bs ((x, d) ∷ env)

-- the body behind bindings
abbrev pub let_in : Go → ℕ → Bindings → ExprTree → Env → Run Data
let_in go level bs t env = bind_each go level bs env >>= λ inner. go level inner t

-- an operator over the values of its parts
abbrev pub operation_on : App → Go → ℕ → Env → Operator → ExprTrees → Run Data
operation_on app go level env o ts = each go level env ts [] >>= λ ds. lift (operate app o ds)

-- the values of a body for each of these, behind those that are there
abbrev pub map_each : Go → ℕ → Env → List ℕ → ExprTree → List Data → List Data → Run (List Data)
map_each go level env x body [] es = give es
map_each go level env x body (d ∷ ds) es = go level ((x, d) ∷ env) body >>= λ e. map_each go level env x body ds (es ++ e ∷ [])

-- those of these for which a body is true, behind those that are there
abbrev pub filter_each : Go → ℕ → Env → List ℕ → ExprTree → List Data → List Data → Run (List Data)
filter_each go level env x body [] es = give es
filter_each go level env x body (d ∷ ds) es =
    truth_of go level ((x, d) ∷ env) body >>= λ b. filter_each go level env x body ds (if b then es ++ d ∷ [] else es)

-- the last value of a body that is given each of these with the value before; the accumulator hides the element
abbrev pub fold_each : Go → ℕ → Env → List ℕ → List ℕ → ExprTree → List Data → Data → Run Data
fold_each go level env x accumulator body [] a = give a
fold_each go level env x accumulator body (d ∷ ds) a =
    go level ((accumulator, a) ∷ (x, d) ∷ env) body >>= λ b. fold_each go level env x accumulator body ds b

-- a function's body, where its parameters are all that it sees
abbrev pub call_function : Go → ℕ → Option FunctionDecl → List Data → Run Data
call_function go level None ds = trap 1
call_function go level (Some f) ds = if length ds == length f.parameters then go level (bind_parameters f.parameters ds) f.body else trap 1

-- a form that was entered, by the meaning of its parts at this level
abbrev pub parts : App → Slots → Go → ℕ → Env → ExprTree → Run Data
parts app slots go level env (expr.Constant d) = give d
parts app slots go level env (expr.Variable x) = lift (or_trap 1 (value_named x env))
parts app slots go level env (expr.Slot x) = lift (or_trap 1 (value_named x slots))
parts app slots go level env (expr.If t u v) = truth_of go level env t >>= λ b. if b then go level env u else go level env v
parts app slots go level env (expr.Let bs t) = let_in go level bs t env
parts app slots go level env (expr.And ts) = every go level env ts
parts app slots go level env (expr.Or ts) = some go level env ts
parts app slots go level env (expr.Map x t body) =
    parts_of_list go level env t >>= λ ds. map_each go level env x body ds [] >>= λ es. lift (within_limits (list (items_of es)))
parts app slots go level env (expr.Filter x t body) =
    parts_of_list go level env t >>= λ ds. filter_each go level env x body ds [] >>= λ es. lift (within_limits (list (items_of es)))
parts app slots go level env (expr.Fold x t accumulator opening body) =
    go level env t >>= λ d. go level env opening >>= λ a. lift (elements d) >>= λ ds. fold_each go level env x accumulator body ds a
parts app slots go level env (expr.Operation o ts) = operation_on app go level env o ts
parts app slots go level env (expr.Call f ts) = each go level env ts [] >>= λ ds. call_function go level (function_named f app) ds

-- an expression, where so many levels are left, below this level
abbrev pub means : ℕ → ℕ → App → Slots → Go
means zero budget app slots level env t = entering 0 budget level >>= λ _. trap 6
means (suc left) budget app slots level env t =
    entering (suc left) budget level >>= λ _. parts app slots (means left budget app slots) (level + 1) env t
