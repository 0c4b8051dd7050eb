-- What an expression comes to keeps to its limits, up to a trap too: neither its cost nor its reach passes them.
use Rattle.std.proofs.Common.{◌≡◌, ap, ℕ, zero, suc, ◌+◌, ◌≤◌, ◌==◌, Bool, true, false, if◌then◌else◌, nat_le, List, [], ◌∷◌, ◌++◌, length, Option, Some, None, Result, Ok, Err, arith, refl}
use Rattle.std.specs.Prelude.{max}
use Rattle.std.proofs.lemmas.Bool.Decides.{nat_tests}
use Rattle.cl_value.specs.Data.{Data, bool, list, items_of}
use Rattle.cl_syntax.specs.ExprTree as expr
use Rattle.cl_syntax.specs.ExprTree.{ExprTree, ExprTrees, Bindings, none, part, unbound, binding}
use Rattle.cl_application.specs.App.{function_named}
use Rattle.cl_application.specs.declared.applications.App.{App}
use Rattle.cl_application.specs.declared.declarations.FunctionDecl.{FunctionDecl}
use Rattle.cl_eval.specs.Outcome.{Outcome, Gives, Traps, Run, give, trap, lift, after, ◌>>=◌, cost_of}
use Rattle.cl_eval.specs.Slots.{Slots, Env, value_named, bind_parameters}
use Rattle.cl_eval.specs.Operators.{within_limits, or_trap, truth, elements, operate}
use Rattle.cl_eval.specs.Meaning.{Go, entering, truth_of, parts_of_list, each, every, some, bind_each, let_in, map_each, filter_each, fold_each, call_function, parts, means}

-- the cost and the deepest level at the end or at the trap are within the limits
abbrev pub Kept : {A : Type 0} → ℕ → ℕ → Outcome A → Type 0
Kept budget depth (Gives x cost reach) = (cost ≤ budget) × (reach ≤ depth)
Kept budget depth (Traps kind cost reach) = (cost ≤ budget) × (reach ≤ depth)

-- a run that begins within the limits ends within them
abbrev pub Keeps : {A : Type 0} → ℕ → ℕ → Run A → Type 0
Keeps budget depth r = (c d : ℕ) → c ≤ budget → d ≤ depth → Kept budget depth (r c d)

pub keeps-give : {A : Type 0} (budget depth : ℕ) (x : A) → Keeps budget depth (give x)
keeps-give budget depth x c d h k = (h, k)

pub keeps-trap : (A : Type 0) (budget depth kind : ℕ) → Keeps {A = A} budget depth (trap kind)
keeps-trap A budget depth kind c d h k = (h, k)

pub keeps-lift : {A : Type 0} (budget depth : ℕ) (r : Result A ℕ) → Keeps budget depth (lift r)
keeps-lift budget depth (Ok x) = keeps-give budget depth x
keeps-lift budget depth (Err kind) = λ c d h k. (h, k)

after-keeps : {A B : Type 0} (budget depth : ℕ) (f : A → Run B) → ((x : A) → Keeps budget depth (f x)) → (o : Outcome A) → Kept budget depth o
    → Kept budget depth (after o f)
after-keeps budget depth f h (Gives x c d) k = h x c d k.0 k.1
after-keeps budget depth f h (Traps kind c d) k = k

pub keeps-then : {A B : Type 0} (budget depth : ℕ) (m : Run A) (f : A → Run B) → Keeps budget depth m → ((x : A) → Keeps budget depth (f x)) → Keeps budget depth (m >>= f)
keeps-then budget depth m f g h c d a b = after-keeps budget depth f h (m c d) (g c d a b)

pub keeps-choice : {A : Type 0} (budget depth : ℕ) (b : Bool) (r s : Run A) → Keeps budget depth r → Keeps budget depth s → Keeps budget depth (if b then r else s)
keeps-choice budget depth true r s g h = g
keeps-choice budget depth false r s g h = h

-- ---- by the meaning of the parts at a level

abbrev pub GoKeeps : ℕ → ℕ → ℕ → Go → Type 0
GoKeeps budget depth level go = (env : Env) (t : ExprTree) → Keeps budget depth (go level env t)

pub keeps-tested : (budget depth : ℕ) (go : Go) → (level : ℕ) → GoKeeps budget depth level go → (env : Env) (t : ExprTree) → Keeps budget depth (truth_of go level env t)
keeps-tested budget depth go level g env t =
    keeps-then budget depth (go level env t) (λ d. lift (truth d)) (g env t) (λ d. keeps-lift budget depth (truth d))

pub keeps-listed : (budget depth : ℕ) (go : Go) → (level : ℕ) → GoKeeps budget depth level go → (env : Env) (t : ExprTree) → Keeps budget depth (parts_of_list go level env t)
keeps-listed budget depth go level g env t =
    keeps-then budget depth (go level env t) (λ d. lift (elements d)) (g env t) (λ d. keeps-lift budget depth (elements d))

pub keeps-each : (budget depth : ℕ) (go : Go) → (level : ℕ) → GoKeeps budget depth level go → (env : Env) (ts : ExprTrees) (ds : List Data) → Keeps budget depth
    (each go level env ts ds)
keeps-each budget depth go level g env none ds =
    keeps-give budget depth ds
keeps-each budget depth go level g env (part t ts) ds =
    keeps-then budget depth (go level env t) (λ d. each go level env ts (ds ++ d ∷ [])) (g env t) (λ d. keeps-each budget depth go level g env ts (ds ++ d ∷ []))

keeps-every : (budget depth : ℕ) (go : Go) → (level : ℕ) → GoKeeps budget depth level go → (env : Env) (ts : ExprTrees) → Keeps budget depth (every go level env ts)
keeps-every budget depth go level g env none =
    keeps-give budget depth (bool true)
keeps-every budget depth go level g env (part t ts) =
    keeps-then budget depth (truth_of go level env t) (λ b. if b then every go level env ts else give (bool false)) (keeps-tested budget depth go level g env t)
    (λ b. keeps-choice budget depth b (every go level env ts) (give (bool false)) (keeps-every budget depth go level g env ts) (keeps-give budget depth (bool false)))

keeps-some : (budget depth : ℕ) (go : Go) → (level : ℕ) → GoKeeps budget depth level go → (env : Env) (ts : ExprTrees) → Keeps budget depth (some go level env ts)
keeps-some budget depth go level g env none =
    keeps-give budget depth (bool false)
keeps-some budget depth go level g env (part t ts) =
    keeps-then budget depth (truth_of go level env t) (λ b. if b then give (bool true) else some go level env ts) (keeps-tested budget depth go level g env t)
    (λ b. keeps-choice budget depth b (give (bool true)) (some go level env ts) (keeps-give budget depth (bool true)) (keeps-some budget depth go level g env ts))

pub keeps-bound : (budget depth : ℕ) (go : Go) → (level : ℕ) → GoKeeps budget depth level go → (bs : Bindings) (env : Env) → Keeps budget depth (bind_each go level bs env)
keeps-bound budget depth go level g unbound env =
    keeps-give budget depth env
keeps-bound budget depth go level g (binding x t bs) env =
    keeps-then budget depth (go level env t) (λ d. bind_each go level bs ((x, d) ∷ env)) (g env t) (λ d. keeps-bound budget depth go level g bs ((x, d) ∷ env))

keeps-let_in : (budget depth : ℕ) (go : Go) → (level : ℕ) → GoKeeps budget depth level go → (bs : Bindings) (t : ExprTree) (env : Env) → Keeps budget depth
    (let_in go level bs t env)
keeps-let_in budget depth go level g bs t env =
    keeps-then budget depth (bind_each go level bs env) (λ inner. go level inner t) (keeps-bound budget depth go level g bs env) (λ inner. g inner t)

keeps-mapped : (budget depth : ℕ) (go : Go) → (level : ℕ) → GoKeeps budget depth level go → (env : Env) (x : List ℕ) (t : ExprTree) (ds es : List Data)
    → Keeps budget depth (map_each go level env x t ds es)
keeps-mapped budget depth go level g env x t [] es =
    keeps-give budget depth es
keeps-mapped budget depth go level g env x t (a ∷ ds) es =
    keeps-then budget depth (go level ((x, a) ∷ env) t) (λ e. map_each go level env x t ds (es ++ e ∷ [])) (g ((x, a) ∷ env) t)
    (λ e. keeps-mapped budget depth go level g env x t ds (es ++ e ∷ []))

keeps-filtered : (budget depth : ℕ) (go : Go) → (level : ℕ) → GoKeeps budget depth level go → (env : Env) (x : List ℕ) (t : ExprTree) (ds es : List Data)
    → Keeps budget depth (filter_each go level env x t ds es)
keeps-filtered budget depth go level g env x t [] es =
    keeps-give budget depth es
keeps-filtered budget depth go level g env x t (a ∷ ds) es =
    keeps-then budget depth (truth_of go level ((x, a) ∷ env) t) (λ b. filter_each go level env x t ds (if b then es ++ a ∷ [] else es))
    (keeps-tested budget depth go level g ((x, a) ∷ env) t) (λ b. keeps-filtered budget depth go level g env x t ds (if b then es ++ a ∷ [] else es))

keeps-folded : (budget depth : ℕ) (go : Go) → (level : ℕ) → GoKeeps budget depth level go → (env : Env) (x y : List ℕ) (t : ExprTree) (ds : List Data) (a : Data)
    → Keeps budget depth (fold_each go level env x y t ds a)
keeps-folded budget depth go level g env x y t [] a =
    keeps-give budget depth a
keeps-folded budget depth go level g env x y t (e ∷ ds) a =
    keeps-then budget depth (go level ((y, a) ∷ (x, e) ∷ env) t) (λ b. fold_each go level env x y t ds b) (g ((y, a) ∷ (x, e) ∷ env) t)
    (λ b. keeps-folded budget depth go level g env x y t ds b)

keeps-called : (budget depth : ℕ) (go : Go) → (level : ℕ) → GoKeeps budget depth level go → (f : Option FunctionDecl) (ds : List Data) → Keeps budget depth
    (call_function go level f ds)
keeps-called budget depth go level g None ds =
    keeps-trap Data budget depth 1
keeps-called budget depth go level g (Some f) ds =
    keeps-choice budget depth (length ds == length f.parameters) (go level (bind_parameters f.parameters ds) f.body) (trap 1) (g (bind_parameters f.parameters ds) f.body)
    (keeps-trap Data budget depth 1)

-- what follows in each row

keeps-then_choice : (budget depth : ℕ) (go : Go) → (level : ℕ) → GoKeeps budget depth level go → (env : Env) (u v : ExprTree) (b : Bool) → Keeps budget depth
    (if b then go level env u else go level env v)
keeps-then_choice budget depth go level g env u v b =
    keeps-choice budget depth b (go level env u) (go level env v) (g env u) (g env v)

keeps-limited : (budget depth : ℕ) (es : List Data) → Keeps budget depth (lift (within_limits (list (items_of es))))
keeps-limited budget depth es =
    keeps-lift budget depth (within_limits (list (items_of es)))

keeps-then_map : (budget depth : ℕ) (go : Go) → (level : ℕ) → GoKeeps budget depth level go → (env : Env) (x : List ℕ) (t : ExprTree) (ds : List Data)
    → Keeps budget depth (map_each go level env x t ds [] >>= λ es. lift (within_limits (list (items_of es))))
keeps-then_map budget depth go level g env x t ds =
    keeps-then budget depth (map_each go level env x t ds []) (λ es. lift (within_limits (list (items_of es)))) (keeps-mapped budget depth go level g env x t ds [])
    (keeps-limited budget depth)

keeps-then_filter : (budget depth : ℕ) (go : Go) → (level : ℕ) → GoKeeps budget depth level go → (env : Env) (x : List ℕ) (t : ExprTree) (ds : List Data)
    → Keeps budget depth (filter_each go level env x t ds [] >>= λ es. lift (within_limits (list (items_of es))))
keeps-then_filter budget depth go level g env x t ds =
    keeps-then budget depth (filter_each go level env x t ds []) (λ es. lift (within_limits (list (items_of es)))) (keeps-filtered budget depth go level g env x t ds [])
    (keeps-limited budget depth)

keeps-then_fold : (budget depth : ℕ) (go : Go) → (level : ℕ) → GoKeeps budget depth level go → (env : Env) (x y : List ℕ) (t : ExprTree) (d a : Data) → Keeps budget depth
    (lift (elements d) >>= λ ds. fold_each go level env x y t ds a)
keeps-then_fold budget depth go level g env x y t d a =
    keeps-then budget depth (lift (elements d)) (λ ds. fold_each go level env x y t ds a) (keeps-lift budget depth (elements d))
    (λ ds. keeps-folded budget depth go level g env x y t ds a)

keeps-then_opening : (budget depth : ℕ) (go : Go) → (level : ℕ) → GoKeeps budget depth level go → (env : Env) (x y : List ℕ) (opening t : ExprTree) (d : Data)
    → Keeps budget depth (go level env opening >>= λ a. lift (elements d) >>= λ ds. fold_each go level env x y t ds a)
keeps-then_opening budget depth go level g env x y opening t d =
    keeps-then budget depth (go level env opening) (λ a. lift (elements d) >>= λ ds. fold_each go level env x y t ds a) (g env opening)
    (λ a. keeps-then_fold budget depth go level g env x y t d a)

keeps-parts : (budget depth : ℕ) (app : App) (slots : Slots) (go : Go) → (level : ℕ) → GoKeeps budget depth level go → (env : Env) (t : ExprTree) → Keeps budget depth
    (parts app slots go level env t)
keeps-parts budget depth app slots go level g env (expr.Constant x) =
    keeps-give budget depth x
keeps-parts budget depth app slots go level g env (expr.Variable x) =
    keeps-lift budget depth (or_trap 1 (value_named x env))
keeps-parts budget depth app slots go level g env (expr.Slot x) =
    keeps-lift budget depth (or_trap 1 (value_named x slots))
keeps-parts budget depth app slots go level g env (expr.If t u v) =
    keeps-then budget depth (truth_of go level env t) (λ b. if b then go level env u else go level env v) (keeps-tested budget depth go level g env t)
    (keeps-then_choice budget depth go level g env u v)
keeps-parts budget depth app slots go level g env (expr.Let bs t) =
    keeps-let_in budget depth go level g bs t env
keeps-parts budget depth app slots go level g env (expr.And ts) =
    keeps-every budget depth go level g env ts
keeps-parts budget depth app slots go level g env (expr.Or ts) =
    keeps-some budget depth go level g env ts
keeps-parts budget depth app slots go level g env (expr.Map x t body) =
    keeps-then budget depth (parts_of_list go level env t) (λ ds. map_each go level env x body ds [] >>= λ es. lift (within_limits (list (items_of es))))
    (keeps-listed budget depth go level g env t) (keeps-then_map budget depth go level g env x body)
keeps-parts budget depth app slots go level g env (expr.Filter x t body) =
    keeps-then budget depth (parts_of_list go level env t) (λ ds. filter_each go level env x body ds [] >>= λ es. lift (within_limits (list (items_of es))))
    (keeps-listed budget depth go level g env t) (keeps-then_filter budget depth go level g env x body)
keeps-parts budget depth app slots go level g env (expr.Fold x t y opening body) =
    keeps-then budget depth (go level env t) (λ d. go level env opening >>= λ a. lift (elements d) >>= λ ds. fold_each go level env x y body ds a) (g env t)
    (keeps-then_opening budget depth go level g env x y opening body)
keeps-parts budget depth app slots go level g env (expr.Operation o ts) =
    keeps-then budget depth (each go level env ts []) (λ ds. lift (operate app o ds)) (keeps-each budget depth go level g env ts [])
    (λ ds. keeps-lift budget depth (operate app o ds))
keeps-parts budget depth app slots go level g env (expr.Call f ts) =
    keeps-then budget depth (each go level env ts []) (λ ds. call_function go level (function_named f app) ds) (keeps-each budget depth go level g env ts [])
    (keeps-called budget depth go level g (function_named f app))

-- ---- expressions

entered-by : (b e : Bool) (budget depth level c d : ℕ) → c ≤ budget → (b ≡ false → c + 1 ≤ budget) → level + 1 ≤ depth → d ≤ depth
    → Kept {A = Unit {0}} budget depth (if b then Traps 5 c d else (if e then Traps 6 c d else Gives tt (c + 1) (max d (level + 1))))
entered-by true e budget depth level c d h paid room k = (h, k)
entered-by false true budget depth level c d h paid room k = (h, k)
entered-by false false budget depth level c d h paid room k = (paid refl, omega (arith, room, k))

pub keeps-entering : (left budget depth level : ℕ) → level + 1 ≤ depth → Keeps budget depth (entering left budget level)
keeps-entering left budget depth level room c d h k =
    entered-by (nat_le budget c) (left == 0) budget depth level c d h (λ e. grind (arith, nat_tests, e)) room k

-- the trap on entering a form where no level is left
abbrev blocked : Bool → ℕ → ℕ → Outcome (Unit {0})
blocked b c d = if b then Traps 5 c d else Traps 6 c d

never-entered : (A : Type 0) (b : Bool) (budget depth c d : ℕ) → c ≤ budget → d ≤ depth → Kept {A = A} budget depth (after (blocked b c d) (λ _. trap 6))
never-entered A true budget depth c d h k = (h, k)
never-entered A false budget depth c d h k = (h, k)

pub keeps-means : (left budget : ℕ) (app : App) (slots : Slots) (level : ℕ) (env : Env) (t : ExprTree) → Keeps budget (level + left) (means left budget app slots level env t)
keeps-means zero budget app slots level env t c d h k = never-entered Data (nat_le budget c) budget (level + 0) c d h k
keeps-means (suc left) budget app slots level env t c d h k =
    let deeper : level + 1 + left ≡ level + suc left = omega arith in
    keeps-then budget (level + suc left) (entering (suc left) budget level) (λ _. parts app slots (means left budget app slots) (level + 1) env t)
    (keeps-entering (suc left) budget (level + suc left) level (omega arith))
    (λ _. rw (← deeper) (keeps-parts budget (level + 1 + left) app slots (means left budget app slots) (level + 1) (keeps-means left budget app slots (level + 1)) env t))
    c d h k
