-- A part that stops, stops the whole: what each row and each turn of a loop comes to then.
use Rattle.std.proofs.Common.{◌≡◌, ℕ, ◌≤◌, ◌<◌, Bool, true, false, if◌then◌else◌, List, [], ◌∷◌, ◌++◌, length, get_or, Result, Ok, Err, refl, sym, arith}
use Rattle.cl_value.specs.Data.{Data, bool, list, items_of}
use Rattle.cl_value.specs.Value.{data_of}
use Rattle.cl_value.specs.declared.Value.{Value}
use Rattle.cl_syntax.specs.ExprTree as expr
use Rattle.cl_syntax.specs.ExprTree.{ExprTree, ExprTrees, Bindings, none, part, expr_trees_of, binding}
use Rattle.cl_application.specs.App.{function_named}
use Rattle.cl_application.specs.declared.applications.App.{App}
use Rattle.cl_syntax.specs.declared.operators.Operator.{Operator}
use Rattle.cl_eval.specs.declared.metering.Meter.{Meter}
use Rattle.cl_eval.specs.declared.metering.Stop.{Stop}
use Rattle.cl_eval.specs.declared.metering.Stop.TheVariants.{Trap, Memory}
use Rattle.cl_eval.specs.Outcome.{Gives, give, lift, ◌>>=◌, cost_of}
use Rattle.cl_eval.specs.Slots.{Slots, Env}
use Rattle.cl_eval.specs.Operators.{within_limits, elements, operate}
use Rattle.cl_eval.specs.Meaning.{Go, truth_of, parts_of_list, each, every, some, bind_each, let_in, operation_on, map_each, filter_each, fold_each, call_function, parts}
use Rattle.cl_eval.specs.Agrees.{Agrees, Comes, itself, items_are}
use Rattle.cl_eval.proofs.CostLemmas.{GoGrows, Agrees-stop, Agrees-lift, grows-choice, grows-give, grows-each, grows-every, grows-some, grows-bound, grows-lift, grows-mapped, grows-filtered, grows-folded, grows-called, grows-then_choice, grows-then_map, grows-then_filter, grows-then_fold, grows-then_opening}

-- ---- loops: the turn stops, or memory is wanting behind it

pub stop-each : (go : Go) → GoGrows go → (level : ℕ) (env : Env) (t : ExprTree) (ts : ExprTrees) (ds : List Data) (e : Stop) (m : Meter) (c d : ℕ)
    → Agrees data_of (Err e) m (go level env t c d) → Agrees items_are (Err e) m (each go level env (part t ts) ds c d)
stop-each go g level env t ts ds e m c d =
    Agrees-stop data_of items_are e m (go level env t c d) (λ x. each go level env ts (ds ++ x ∷ [])) (λ x. grows-each go g level env ts (ds ++ x ∷ []))

pub full-each : (go : Go) → GoGrows go → (level : ℕ) (env : Env) (t : ExprTree) (ts : ExprTrees) (ds : List Data) (x : Data) (c d n l : ℕ)
    → go level env t c d ≡ Gives x n l → n ≤ cost_of (each go level env (part t ts) ds c d)
full-each go g level env t ts ds x c d n l p = rw p (grows-each go g level env ts (ds ++ x ∷ []) n l)

pub stop-every : (go : Go) → GoGrows go → (level : ℕ) (env : Env) (t : ExprTree) (ts : ExprTrees) (e : Stop) (m : Meter) (c d : ℕ)
    → Agrees itself (Err e) m (truth_of go level env t c d) → Agrees data_of (Err e) m (every go level env (part t ts) c d)
stop-every go g level env t ts e m c d =
    Agrees-stop itself data_of e m (truth_of go level env t c d) (λ b. if b then every go level env ts else give (bool false))
    (λ b. grows-choice b (every go level env ts) (give (bool false)) (grows-every go g level env ts) (grows-give (bool false)))

pub stop-some : (go : Go) → GoGrows go → (level : ℕ) (env : Env) (t : ExprTree) (ts : ExprTrees) (e : Stop) (m : Meter) (c d : ℕ)
    → Agrees itself (Err e) m (truth_of go level env t c d) → Agrees data_of (Err e) m (some go level env (part t ts) c d)
stop-some go g level env t ts e m c d =
    Agrees-stop itself data_of e m (truth_of go level env t c d) (λ b. if b then give (bool true) else some go level env ts)
    (λ b. grows-choice b (give (bool true)) (some go level env ts) (grows-give (bool true)) (grows-some go g level env ts))

pub stop-bound : (go : Go) → GoGrows go → (level : ℕ) (x : List ℕ) (t : ExprTree) (bs : Bindings) (env around : Env) (e : Stop) (m : Meter) (c d : ℕ)
    → Agrees data_of (Err e) m (go level env t c d) → Agrees (λ frame. frame ++ around) (Err e) m (bind_each go level (binding x t bs) env c d)
stop-bound go g level x t bs env around e m c d =
    Agrees-stop data_of (λ frame. frame ++ around) e m (go level env t c d) (λ v. bind_each go level bs ((x, v) ∷ env)) (λ v. grows-bound go g level bs ((x, v) ∷ env))

pub full-bound : (go : Go) → GoGrows go → (level : ℕ) (x : List ℕ) (t : ExprTree) (bs : Bindings) (env : Env) (v : Data) (c d n l : ℕ)
    → go level env t c d ≡ Gives v n l → n ≤ cost_of (bind_each go level (binding x t bs) env c d)
full-bound go g level x t bs env v c d n l p = rw p (grows-bound go g level bs ((x, v) ∷ env) n l)

pub stop-let_in : (go : Go) → GoGrows go → (level : ℕ) (bs : Bindings) (t : ExprTree) (env around : Env) (e : Stop) (m : Meter) (c d : ℕ)
    → Agrees (λ frame. frame ++ around) (Err e) m (bind_each go level bs env c d) → Agrees data_of (Err e) m (let_in go level bs t env c d)
stop-let_in go g level bs t env around e m c d =
    Agrees-stop (λ frame. frame ++ around) data_of e m (bind_each go level bs env c d) (λ inner. go level inner t) (λ inner. g level inner t)

-- the first part of an operation, the second, and any
pub stop-operation : (app : App) (go : Go) (level : ℕ) (env : Env) (o : Operator) (ts : ExprTrees) (e : Stop) (m : Meter) (c d : ℕ)
    → Agrees items_are (Err e) m (each go level env ts [] c d) → Agrees data_of (Err e) m (operation_on app go level env o ts c d)
stop-operation app go level env o ts e m c d =
    Agrees-stop items_are data_of e m (each go level env ts [] c d) (λ ds. lift (operate app o ds)) (λ ds. grows-lift (operate app o ds))

pub stop-first : (app : App) (go : Go) → GoGrows go → (level : ℕ) (env : Env) (o : Operator) (t : ExprTree) (ts : ExprTrees) (e : Stop) (m : Meter) (c d : ℕ)
    → Agrees data_of (Err e) m (go level env t c d) → Agrees data_of (Err e) m (operation_on app go level env o (part t ts) c d)
stop-first app go g level env o t ts e m c d p = stop-operation app go level env o (part t ts) e m c d (stop-each go g level env t ts [] e m c d p)

pub stop-second : (app : App) (go : Go) → GoGrows go → (level : ℕ) (env : Env) (o : Operator) (t u : ExprTree) (ts : ExprTrees) (x : Data) (e : Stop) (m : Meter) (c d n l : ℕ)
    → go level env t c d ≡ Gives x n l → Agrees data_of (Err e) m (go level env u n l) → Agrees data_of (Err e) m (operation_on app go level env o (part t (part u ts)) c d)
stop-second app go g level env o t u ts x e m c d n l p q =
    let stop : Agrees items_are (Err e) m (each go level env (part t (part u ts)) [] c d) = rw p (stop-each go g level env u ts (x ∷ []) e m n l q) in
    stop-operation app go level env o (part t (part u ts)) e m c d stop

-- an operator over the values of two parts
pub done-second : (app : App) (go : Go) (level : ℕ) (env : Env) (o : Operator) (t u : ExprTree) (x y : Data) (r : Result Value Stop) (m : Meter) (c d n l : ℕ)
    → go level env t c d ≡ Gives x n l → go level env u n l ≡ Gives y m.cost m.deepest → Comes data_of r (operate app o (x ∷ y ∷ []))
    → Agrees data_of r m (operation_on app go level env o (part t (part u none)) c d)
done-second app go level env o t u x y r m c d n l p q h = rw (p, q) (Agrees-lift data_of r m (operate app o (x ∷ y ∷ [])) h)

pub pair : (ts : List ExprTree) (t u : ExprTree) → 1 < length ts → length ts < 3 → t ≡ get_or ts 0 t → u ≡ get_or ts 1 u → expr_trees_of ts ≡ part t (part u none)
pair [] t u h k p q = absurd (omega (arith, h))
pair (x ∷ []) t u h k p q = absurd (omega (arith, h))
pair (x ∷ y ∷ []) t u h k p q = λ i. part (sym p i) (part (sym q i) none)
pair (x ∷ y ∷ z ∷ ts) t u h k p q = absurd (omega (arith, k))

pub stop-mapped : (go : Go) → GoGrows go → (level : ℕ) (env : Env) (x : List ℕ) (t : ExprTree) (a : Data) (ds es : List Data) (e : Stop) (m : Meter) (c d : ℕ)
    → Agrees data_of (Err e) m (go level ((x, a) ∷ env) t c d) → Agrees itself (Err e) m (map_each go level env x t (a ∷ ds) es c d)
stop-mapped go g level env x t a ds es e m c d =
    Agrees-stop data_of itself e m (go level ((x, a) ∷ env) t c d) (λ v. map_each go level env x t ds (es ++ v ∷ [])) (λ v. grows-mapped go g level env x t ds (es ++ v ∷ []))

pub full-mapped : (go : Go) → GoGrows go → (level : ℕ) (env : Env) (x : List ℕ) (t : ExprTree) (a : Data) (ds es : List Data) (v : Data) (c d n l : ℕ)
    → go level ((x, a) ∷ env) t c d ≡ Gives v n l → n ≤ cost_of (map_each go level env x t (a ∷ ds) es c d)
full-mapped go g level env x t a ds es v c d n l p = rw p (grows-mapped go g level env x t ds (es ++ v ∷ []) n l)

pub stop-filtered : (go : Go) → GoGrows go → (level : ℕ) (env : Env) (x : List ℕ) (t : ExprTree) (a : Data) (ds es : List Data) (e : Stop) (m : Meter) (c d : ℕ)
    → Agrees itself (Err e) m (truth_of go level ((x, a) ∷ env) t c d) → Agrees itself (Err e) m (filter_each go level env x t (a ∷ ds) es c d)
stop-filtered go g level env x t a ds es e m c d =
    Agrees-stop itself itself e m (truth_of go level ((x, a) ∷ env) t c d) (λ b. filter_each go level env x t ds (if b then es ++ a ∷ [] else es))
    (λ b. grows-filtered go g level env x t ds (if b then es ++ a ∷ [] else es))

pub full-filtered : (go : Go) → GoGrows go → (level : ℕ) (env : Env) (x : List ℕ) (t : ExprTree) (a : Data) (ds es : List Data) (b : Bool) (c d n l : ℕ)
    → truth_of go level ((x, a) ∷ env) t c d ≡ Gives b n l → n ≤ cost_of (filter_each go level env x t (a ∷ ds) es c d)
full-filtered go g level env x t a ds es b c d n l p = rw p (grows-filtered go g level env x t ds (if b then es ++ a ∷ [] else es) n l)

pub stop-folded : (go : Go) → GoGrows go → (level : ℕ) (env : Env) (x y : List ℕ) (t : ExprTree) (v : Data) (ds : List Data) (a : Data) (e : Stop) (m : Meter) (c d : ℕ)
    → Agrees data_of (Err e) m (go level ((y, a) ∷ (x, v) ∷ env) t c d) → Agrees data_of (Err e) m (fold_each go level env x y t (v ∷ ds) a c d)
stop-folded go g level env x y t v ds a e m c d =
    Agrees-stop data_of data_of e m (go level ((y, a) ∷ (x, v) ∷ env) t c d) (λ b. fold_each go level env x y t ds b) (λ b. grows-folded go g level env x y t ds b)

-- ---- rows

pub stop-choice : (app : App) (slots : Slots) (go : Go) → GoGrows go → (level : ℕ) (env : Env) (t u v : ExprTree) (e : Stop) (m : Meter) (c d : ℕ)
    → Agrees itself (Err e) m (truth_of go level env t c d) → Agrees data_of (Err e) m (parts app slots go level env (expr.If t u v) c d)
stop-choice app slots go g level env t u v e m c d =
    Agrees-stop itself data_of e m (truth_of go level env t c d) (λ b. if b then go level env u else go level env v) (grows-then_choice go g level env u v)

pub stop-map : (app : App) (slots : Slots) (go : Go) → GoGrows go → (level : ℕ) (env : Env) (x : List ℕ) (t u : ExprTree) (e : Stop) (m : Meter) (c d : ℕ)
    → Agrees itself (Err e) m (parts_of_list go level env t c d) → Agrees data_of (Err e) m (parts app slots go level env (expr.Map x t u) c d)
stop-map app slots go g level env x t u e m c d =
    Agrees-stop itself data_of e m (parts_of_list go level env t c d) (λ ds. map_each go level env x u ds [] >>= λ es. lift (within_limits (list (items_of es)))) (grows-then_map go g level env x u)

pub stop-filter : (app : App) (slots : Slots) (go : Go) → GoGrows go → (level : ℕ) (env : Env) (x : List ℕ) (t u : ExprTree) (e : Stop) (m : Meter) (c d : ℕ)
    → Agrees itself (Err e) m (parts_of_list go level env t c d) → Agrees data_of (Err e) m (parts app slots go level env (expr.Filter x t u) c d)
stop-filter app slots go g level env x t u e m c d =
    Agrees-stop itself data_of e m (parts_of_list go level env t c d) (λ ds. filter_each go level env x u ds [] >>= λ es. lift (within_limits (list (items_of es)))) (grows-then_filter go g level env x u)

pub stop-fold : (app : App) (slots : Slots) (go : Go) → GoGrows go → (level : ℕ) (env : Env) (x y : List ℕ) (t opening u : ExprTree) (e : Stop) (m : Meter) (c d : ℕ)
    → Agrees data_of (Err e) m (go level env t c d) → Agrees data_of (Err e) m (parts app slots go level env (expr.Fold x t y opening u) c d)
stop-fold app slots go g level env x y t opening u e m c d =
    Agrees-stop data_of data_of e m (go level env t c d) (λ v. go level env opening >>= λ a. lift (elements v) >>= λ ds. fold_each go level env x y u ds a)
    (grows-then_opening go g level env x y opening u)

pub stop-opening : (app : App) (slots : Slots) (go : Go) → GoGrows go → (level : ℕ) (env : Env) (x y : List ℕ) (t opening u : ExprTree) (e : Stop) (m : Meter) (v : Data) (c d n l : ℕ)
    → go level env t c d ≡ Gives v n l → Agrees data_of (Err e) m (go level env opening n l)
    → Agrees data_of (Err e) m (parts app slots go level env (expr.Fold x t y opening u) c d)
stop-opening app slots go g level env x y t opening u e m v c d n l p q =
    rw p (Agrees-stop data_of data_of e m (go level env opening n l) (λ a. lift (elements v) >>= λ ds. fold_each go level env x y u ds a) (grows-then_fold go g level env x y u v) q)

pub stop-elements : (app : App) (slots : Slots) (go : Go) → GoGrows go → (level : ℕ) (env : Env) (x y : List ℕ) (t opening u : ExprTree) (e : Stop) (m : Meter) (v a : Data) (c d n l : ℕ)
    → go level env t c d ≡ Gives v n l → go level env opening n l ≡ Gives a m.cost m.deepest → Comes itself (Err e) (elements v)
    → Agrees data_of (Err e) m (parts app slots go level env (expr.Fold x t y opening u) c d)
stop-elements app slots go g level env x y t opening u e m v a c d n l p q r =
    rw (p, q) (Agrees-stop itself data_of e m (lift (elements v) m.cost m.deepest) (λ ds. fold_each go level env x y u ds a) (λ ds. grows-folded go g level env x y u ds a)
    (Agrees-lift itself (Err e) m (elements v) r))

pub stop-call : (app : App) (slots : Slots) (go : Go) → GoGrows go → (level : ℕ) (env : Env) (f : List ℕ) (ts : ExprTrees) (e : Stop) (m : Meter) (c d : ℕ)
    → Agrees items_are (Err e) m (each go level env ts [] c d) → Agrees data_of (Err e) m (parts app slots go level env (expr.Call f ts) c d)
stop-call app slots go g level env f ts e m c d =
    Agrees-stop items_are data_of e m (each go level env ts [] c d) (λ ds. call_function go level (function_named f app) ds) (grows-called go g level (function_named f app))

-- an error of what takes memory alone
pub is_memory : {A B : Type 0} (f : A → B) (e : Stop) (y : B) → Comes f (Err e) (Ok y) → e ≡ Memory
is_memory f (Trap k) y p = cc
is_memory f Memory y p = refl
