-- The cost so far never falls: what a run comes to costs at least what it began with.
use Rattle.std.proofs.Common.{ℕ, zero, suc, ◌+◌, ◌≤◌, ◌==◌, Bool, true, false, if◌then◌else◌, nat_le, List, [], ◌∷◌, ◌++◌, length, Option, Some, None}
use Rattle.std.proofs.Common.{Result, Ok, Err, arith, refl}
use Rattle.std.specs.Prelude.{max}
use Rattle.cl_value.specs.Data.{Data, bool, list, items_of}
use Rattle.cl_syntax.specs.ExprTree as expr
use Rattle.cl_syntax.specs.ExprTree.{ExprTree, ExprTrees, Bindings, none, part, unbound, binding}
use Rattle.cl_application.specs.App.{function_named}
use Rattle.cl_application.specs.declared.applications.App.{App}
use Rattle.cl_application.specs.declared.declarations.FunctionDecl.{FunctionDecl}
use Rattle.cl_eval.specs.declared.metering.Meter.{Meter}
use Rattle.cl_eval.specs.declared.metering.Stop.{Stop}
use Rattle.cl_eval.specs.declared.metering.Stop.TheVariants.{Trap, Memory}
use Rattle.cl_eval.specs.Outcome.{Outcome, Gives, Traps, Run, give, trap, lift, after, ◌>>=◌, cost_of}
use Rattle.cl_eval.specs.Slots.{Slots, Env, value_named, bind_parameters}
use Rattle.cl_eval.specs.Operators.{within_limits, or_trap, truth, elements, operate}
use Rattle.cl_eval.specs.Meaning.{Go, entering, truth_of, parts_of_list, each, every, some, bind_each, let_in, map_each, filter_each, fold_each, call_function, parts, means}
use Rattle.cl_eval.specs.declared.evaluation.Standpoint.{Standpoint}
use Rattle.cl_eval.specs.Standpoint.{meaning_at}
use Rattle.cl_eval.specs.Agrees.{Agrees, Comes, Entered}

abbrev pub Grows : {A : Type 0} → Run A → Type 0
Grows r = (c d : ℕ) → c ≤ cost_of (r c d)

pub cost-after : {A B : Type 0} (o : Outcome A) (f : A → Run B) → ((x : A) → Grows (f x)) → cost_of o ≤ cost_of (after o f)
cost-after (Gives x c d) f g = g x c d
cost-after (Traps k c d) f g = omega arith

pub grows-then : {A B : Type 0} (m : Run A) (f : A → Run B) → Grows m → ((x : A) → Grows (f x)) → Grows (m >>= f)
grows-then m f g h c d = omega (arith, g c d, cost-after (m c d) f h)

pub grows-give : {A : Type 0} (x : A) → Grows (give x)
grows-give x c d = omega arith

pub grows-lift : {A : Type 0} (r : Result A ℕ) → Grows (lift r)
grows-lift (Ok x) c d = omega arith
grows-lift (Err k) c d = omega arith

by_test : {A : Type 0} (b : Bool) (o p : Outcome A) (c : ℕ) → c ≤ cost_of o → c ≤ cost_of p → c ≤ cost_of (if b then o else p)
by_test true o p c h g = h
by_test false o p c h g = g

pub grows-entering : (left budget level : ℕ) → Grows (entering left budget level)
grows-entering left budget level c d =
    by_test (nat_le budget c) (Traps 5 c d) (if left == 0 then Traps 6 c d else Gives tt (c + 1) (max d (level + 1))) c (omega arith)
    (by_test (left == 0) (Traps 6 c d) (Gives tt (c + 1) (max d (level + 1))) c (omega arith) (omega arith))

pub grows-choice : {A : Type 0} (b : Bool) (r s : Run A) → Grows r → Grows s → Grows (if b then r else s)
grows-choice true r s g h = g
grows-choice false r s g h = h

-- ---- by the meaning of the parts

abbrev pub GoGrows : Go → Type 0
GoGrows go = (level : ℕ) (env : Env) (t : ExprTree) → Grows (go level env t)

pub grows-tested : (go : Go) → GoGrows go → (level : ℕ) (env : Env) (t : ExprTree) → Grows (truth_of go level env t)
grows-tested go g level env t = grows-then (go level env t) (λ d. lift (truth d)) (g level env t) (λ d. grows-lift (truth d))

pub grows-listed : (go : Go) → GoGrows go → (level : ℕ) (env : Env) (t : ExprTree) → Grows (parts_of_list go level env t)
grows-listed go g level env t = grows-then (go level env t) (λ d. lift (elements d)) (g level env t) (λ d. grows-lift (elements d))

pub grows-each : (go : Go) → GoGrows go → (level : ℕ) (env : Env) (ts : ExprTrees) (ds : List Data) → Grows (each go level env ts ds)
grows-each go g level env none ds = grows-give ds
grows-each go g level env (part t ts) ds =
    grows-then (go level env t) (λ d. each go level env ts (ds ++ d ∷ [])) (g level env t) (λ d. grows-each go g level env ts (ds ++ d ∷ []))

pub grows-every : (go : Go) → GoGrows go → (level : ℕ) (env : Env) (ts : ExprTrees) → Grows (every go level env ts)
grows-every go g level env none = grows-give (bool true)
grows-every go g level env (part t ts) =
    grows-then (truth_of go level env t) (λ b. if b then every go level env ts else give (bool false)) (grows-tested go g level env t)
    (λ b. grows-choice b (every go level env ts) (give (bool false)) (grows-every go g level env ts) (grows-give (bool false)))

pub grows-some : (go : Go) → GoGrows go → (level : ℕ) (env : Env) (ts : ExprTrees) → Grows (some go level env ts)
grows-some go g level env none = grows-give (bool false)
grows-some go g level env (part t ts) =
    grows-then (truth_of go level env t) (λ b. if b then give (bool true) else some go level env ts) (grows-tested go g level env t)
    (λ b. grows-choice b (give (bool true)) (some go level env ts) (grows-give (bool true)) (grows-some go g level env ts))

pub grows-bound : (go : Go) → GoGrows go → (level : ℕ) (bs : Bindings) (env : Env) → Grows (bind_each go level bs env)
grows-bound go g level unbound env = grows-give env
grows-bound go g level (binding x t bs) env =
    grows-then (go level env t) (λ d. bind_each go level bs ((x, d) ∷ env)) (g level env t) (λ d. grows-bound go g level bs ((x, d) ∷ env))

pub grows-let_in : (go : Go) → GoGrows go → (level : ℕ) (bs : Bindings) (t : ExprTree) (env : Env) → Grows (let_in go level bs t env)
grows-let_in go g level bs t env = grows-then (bind_each go level bs env) (λ inner. go level inner t) (grows-bound go g level bs env) (λ inner. g level inner t)

pub grows-mapped : (go : Go) → GoGrows go → (level : ℕ) (env : Env) (x : List ℕ) (t : ExprTree) (ds es : List Data) → Grows (map_each go level env x t ds es)
grows-mapped go g level env x t [] es = grows-give es
grows-mapped go g level env x t (a ∷ ds) es =
    grows-then (go level ((x, a) ∷ env) t) (λ e. map_each go level env x t ds (es ++ e ∷ [])) (g level ((x, a) ∷ env) t)
    (λ e. grows-mapped go g level env x t ds (es ++ e ∷ []))

pub grows-filtered : (go : Go) → GoGrows go → (level : ℕ) (env : Env) (x : List ℕ) (t : ExprTree) (ds es : List Data) → Grows (filter_each go level env x t ds es)
grows-filtered go g level env x t [] es = grows-give es
grows-filtered go g level env x t (a ∷ ds) es =
    grows-then (truth_of go level ((x, a) ∷ env) t) (λ b. filter_each go level env x t ds (if b then es ++ a ∷ [] else es)) (grows-tested go g level ((x, a) ∷ env) t)
    (λ b. grows-filtered go g level env x t ds (if b then es ++ a ∷ [] else es))

pub grows-folded : (go : Go) → GoGrows go → (level : ℕ) (env : Env) (x y : List ℕ) (t : ExprTree) (ds : List Data) (a : Data) → Grows (fold_each go level env x y t ds a)
grows-folded go g level env x y t [] a = grows-give a
grows-folded go g level env x y t (e ∷ ds) a =
    grows-then (go level ((y, a) ∷ (x, e) ∷ env) t) (λ b. fold_each go level env x y t ds b) (g level ((y, a) ∷ (x, e) ∷ env) t)
    (λ b. grows-folded go g level env x y t ds b)

pub grows-called : (go : Go) → GoGrows go → (level : ℕ) (f : Option FunctionDecl) (ds : List Data) → Grows (call_function go level f ds)
grows-called go g level None ds = λ c d. omega arith
grows-called go g level (Some f) ds =
    grows-choice (length ds == length f.parameters) (go level (bind_parameters f.parameters ds) f.body) (trap 1) (g level (bind_parameters f.parameters ds) f.body) (λ c d. omega arith)

-- what follows in each row
pub grows-then_choice : (go : Go) → GoGrows go → (level : ℕ) (env : Env) (u v : ExprTree) (b : Bool) → Grows (if b then go level env u else go level env v)
grows-then_choice go g level env u v b = grows-choice b (go level env u) (go level env v) (g level env u) (g level env v)

pub grows-limited : (es : List Data) → Grows (lift (within_limits (list (items_of es))))
grows-limited es = grows-lift (within_limits (list (items_of es)))

pub grows-then_map : (go : Go) → GoGrows go → (level : ℕ) (env : Env) (x : List ℕ) (t : ExprTree) (ds : List Data)
    → Grows (map_each go level env x t ds [] >>= λ es. lift (within_limits (list (items_of es))))
grows-then_map go g level env x t ds =
    grows-then (map_each go level env x t ds []) (λ es. lift (within_limits (list (items_of es)))) (grows-mapped go g level env x t ds []) grows-limited

pub grows-then_filter : (go : Go) → GoGrows go → (level : ℕ) (env : Env) (x : List ℕ) (t : ExprTree) (ds : List Data)
    → Grows (filter_each go level env x t ds [] >>= λ es. lift (within_limits (list (items_of es))))
grows-then_filter go g level env x t ds =
    grows-then (filter_each go level env x t ds []) (λ es. lift (within_limits (list (items_of es)))) (grows-filtered go g level env x t ds []) grows-limited

pub grows-then_fold : (go : Go) → GoGrows go → (level : ℕ) (env : Env) (x y : List ℕ) (t : ExprTree) (d a : Data)
    → Grows (lift (elements d) >>= λ ds. fold_each go level env x y t ds a)
grows-then_fold go g level env x y t d a =
    grows-then (lift (elements d)) (λ ds. fold_each go level env x y t ds a) (grows-lift (elements d)) (λ ds. grows-folded go g level env x y t ds a)

pub grows-then_opening : (go : Go) → GoGrows go → (level : ℕ) (env : Env) (x y : List ℕ) (opening t : ExprTree) (d : Data)
    → Grows (go level env opening >>= λ a. lift (elements d) >>= λ ds. fold_each go level env x y t ds a)
grows-then_opening go g level env x y opening t d =
    grows-then (go level env opening) (λ a. lift (elements d) >>= λ ds. fold_each go level env x y t ds a) (g level env opening)
    (λ a. grows-then_fold go g level env x y t d a)

grows-parts : (app : App) (slots : Slots) (go : Go) → GoGrows go → (level : ℕ) (env : Env) (t : ExprTree) → Grows (parts app slots go level env t)
grows-parts app slots go g level env (expr.Constant x) = grows-give x
grows-parts app slots go g level env (expr.Variable x) = grows-lift (or_trap 1 (value_named x env))
grows-parts app slots go g level env (expr.Slot x) = grows-lift (or_trap 1 (value_named x slots))
grows-parts app slots go g level env (expr.If t u v) =
    grows-then (truth_of go level env t) (λ b. if b then go level env u else go level env v) (grows-tested go g level env t) (grows-then_choice go g level env u v)
grows-parts app slots go g level env (expr.Let bs t) = grows-let_in go g level bs t env
grows-parts app slots go g level env (expr.And ts) = grows-every go g level env ts
grows-parts app slots go g level env (expr.Or ts) = grows-some go g level env ts
grows-parts app slots go g level env (expr.Map x t body) =
    grows-then (parts_of_list go level env t) (λ ds. map_each go level env x body ds [] >>= λ es. lift (within_limits (list (items_of es)))) (grows-listed go g level env t)
    (grows-then_map go g level env x body)
grows-parts app slots go g level env (expr.Filter x t body) =
    grows-then (parts_of_list go level env t) (λ ds. filter_each go level env x body ds [] >>= λ es. lift (within_limits (list (items_of es)))) (grows-listed go g level env t)
    (grows-then_filter go g level env x body)
grows-parts app slots go g level env (expr.Fold x t y opening body) =
    grows-then (go level env t) (λ d. go level env opening >>= λ a. lift (elements d) >>= λ ds. fold_each go level env x y body ds a) (g level env t)
    (grows-then_opening go g level env x y opening body)
grows-parts app slots go g level env (expr.Operation o ts) =
    grows-then (each go level env ts []) (λ ds. lift (operate app o ds)) (grows-each go g level env ts []) (λ ds. grows-lift (operate app o ds))
grows-parts app slots go g level env (expr.Call f ts) =
    grows-then (each go level env ts []) (λ ds. call_function go level (function_named f app) ds) (grows-each go g level env ts []) (grows-called go g level (function_named f app))

pub grows-means : (left budget : ℕ) (app : App) (slots : Slots) → GoGrows (means left budget app slots)
grows-means zero budget app slots level env t =
    grows-then (entering 0 budget level) (λ _. λ c d. Traps 6 c d) (grows-entering 0 budget level) (λ _ c d. omega arith)
grows-means (suc left) budget app slots level env t =
    grows-then (entering (suc left) budget level) (λ _. parts app slots (means left budget app slots) (level + 1) env t) (grows-entering (suc left) budget level)
    (λ _. grows-parts app slots (means left budget app slots) (grows-means left budget app slots) (level + 1) env t)

pub grows-at : (here : Standpoint) → GoGrows (meaning_at here)
grows-at here = grows-means here.left here.context.now.budget here.context.now.app.now here.context.now.slots.now

-- ---- a stop before the rest of a run

pub Agrees-stop : {A B C D : Type 0} (f : A → B) (h : C → D) (e : Stop) (m : Meter) (o : Outcome B) (k : B → Run D) → ((x : B) → Grows (k x))
    → Agrees f (Err e) m o → Agrees h (Err e) m (after o k)
Agrees-stop f h (Trap kind) m o k g p = rw p refl
Agrees-stop f h Memory m o k g p = omega (arith, p, cost-after o k g)

pub Entered-stop : {C D : Type 0} (h : C → D) (e : Stop) (m : Meter) (o : Outcome (Unit {0})) (k : Unit {0} → Run D)
    → Entered (Err e) m o → Agrees h (Err e) m (after o k)
Entered-stop h (Trap kind) m o k p = rw p refl
Entered-stop h Memory m o k p = absurd p

-- what enters no form agrees with its run
pub Agrees-lift : {A B : Type 0} (f : A → B) (result : Result A Stop) (m : Meter) (r : Result B ℕ) → Comes f result r → Agrees f result m (lift r m.cost m.deepest)
Agrees-lift f (Ok x) m r p = rw p refl
Agrees-lift f (Err (Trap k)) m r p = rw p refl
Agrees-lift f (Err Memory) m (Ok y) p = omega arith
Agrees-lift f (Err Memory) m (Err k) p = omega arith
