-- Updates: the cost never falls, and a part that stops, stops the whole.
use Rattle.std.proofs.Common.{◌≡◌, ℕ, ◌+◌, pos, List, [], Option, Some, None, Result, Ok, Err, arith, refl, ap}
use Rattle.std.specs.Prelude.{max}
use Rattle.cl_value.specs.Data.{Data, int}
use Rattle.cl_value.specs.Value.{data_of}
use Rattle.cl_syntax.specs.ExprTree.{ExprTree, ExprTrees}
use Rattle.cl_syntax.specs.ShapeTree.{ShapeTrees}
use Rattle.cl_syntax.specs.UpdateTree.{UpdateTree}
use Rattle.cl_syntax.specs.declared.sites.Site.{Site}
use Rattle.cl_eval.specs.Agrees.{Agrees, Comes, always}
use Rattle.cl_eval.specs.Meaning.{Go, each}
use Rattle.cl_eval.specs.Outcome.{Gives, Outcome, Traps, give, lift}
use Rattle.cl_eval.specs.Slots.{Env}
use Rattle.cl_eval.specs.declared.metering.Meter.{Meter}
use Rattle.cl_eval.specs.declared.metering.Stop.{Stop}
use Rattle.cl_eval.specs.declared.metering.Stop.TheVariants.{Trap, Memory}
use Rattle.cl_eval.proofs.CostLemmas.{Agrees-stop, GoGrows, Grows, grows-each, grows-give, grows-lift, grows-then}
use Rattle.cl_display.specs.Drawings.{DrawingAt}
use Rattle.cl_display.specs.Fresh.{Allowance, Bodies, draws_body, draws_cached, draws_keyed, draws_update, left_over}
use Rattle.cl_display.specs.Outcomes.{run_of}
use Rattle.cl_display.specs.Siblings.{Siblings, count_at}
use Rattle.cl_display.specs.Updates.{KeyAt, cache_of, end_update, enter_body, enter_update, head_at, id_of, key_at, leave_update}

grows-id : (value : Go) → GoGrows value → (level : ℕ) (env : Env) (siblings : Siblings) (site : Site) (t : Option ExprTree)
    → Grows (id_of value level env siblings site t)
grows-id value v level env siblings site None = grows-give (int (pos (count_at site siblings)))
grows-id value v level env siblings site (Some t) = v level env t

grows-cache : (value : Go) → GoGrows value → (level : ℕ) (env : Env) (ts : Option ExprTrees) → Grows (cache_of value level env ts)
grows-cache value v level env None = grows-give {A = Option (List Data)} None
grows-cache value v level env (Some ts) =
    grows-then (each value level env ts []) (λ ds. give (Some ds)) (grows-each value v level env ts []) (λ ds. grows-give (Some ds))

grows-ended : (key : KeyAt) (level : ℕ) (s : DrawingAt) (o : Outcome DrawingAt) → Grows (end_update key level s o)
grows-ended key level s (Gives t n l) c d = omega arith
grows-ended key level s (Traps kind n l) c d = omega arith

grows-draws_body : (allowed : Allowance) (bodies : Bodies) (level : ℕ) (env : Env) (body : ShapeTrees) (key : KeyAt) (s : DrawingAt)
    → Grows (run_of (draws_body allowed bodies level env body key s))
grows-draws_body allowed bodies level env body key s c d =
    grows-ended key level s (bodies.draw (left_over allowed c s.weight) env body (enter_body s)).outcome c d

pub grows-draws_keyed : (allowed : Allowance) (bodies : Bodies) (level : ℕ) (env : Env) (body : ShapeTrees) (s : DrawingAt) (key : KeyAt)
    → Grows (run_of (draws_keyed allowed bodies level env body s key))
grows-draws_keyed allowed bodies level env body s key =
    grows-then (lift (enter_update allowed.weight key s)) (λ t. run_of (draws_body allowed bodies level env body key t))
    (grows-lift (enter_update allowed.weight key s)) (grows-draws_body allowed bodies level env body key)

-- behind the id
grows-behind_id : (allowed : Allowance) (value : Go) → GoGrows value → (bodies : Bodies) (level : ℕ) (env : Env) (u : UpdateTree) (body : ShapeTrees) (s : DrawingAt)
    (id : Data)
    → Grows (run_of (draws_cached allowed value bodies level env u body s id))
grows-behind_id allowed value v bodies level env u body s id =
    grows-then (cache_of value level env u.cache) (λ cache. run_of (draws_keyed allowed bodies level env body s (key_at u id cache)))
    (grows-cache value v level env u.cache) (λ cache. grows-draws_keyed allowed bodies level env body s (key_at u id cache))

pub grows-draws_update : (allowed : Allowance) (value : Go) → GoGrows value → (bodies : Bodies) (level : ℕ) (env : Env) (u : UpdateTree) (body : ShapeTrees) (s : DrawingAt)
    → Grows (run_of (draws_update allowed value bodies level env u body s))
grows-draws_update allowed value v bodies level env u body s =
    grows-then (id_of value level env s.siblings u.site u.id) (λ id. run_of (draws_cached allowed value bodies level env u body s id)) (grows-id value v level env s.siblings u.site u.id) (grows-behind_id allowed value v bodies level env u body s)

-- ---- what stops

-- the id stops the form
pub stop-id : (allowed : Allowance) (value : Go) → GoGrows value → (bodies : Bodies) (level : ℕ) (env : Env) (u : UpdateTree) (body : ShapeTrees) (s s' : DrawingAt)
    (e : Stop) (m : Meter) (c d : ℕ)
    → Agrees data_of (Err e) m (id_of value level env s.siblings u.site u.id c d)
    → Agrees {A = Unit {0}} (always s') (Err e) m (draws_update allowed value bodies level env u body s c d).outcome
stop-id allowed value v bodies level env u body s s' e m c d =
    Agrees-stop data_of (always {A = Unit {0}} s') e m (id_of value level env s.siblings u.site u.id c d)
    (λ id. run_of (draws_cached allowed value bodies level env u body s id)) (grows-behind_id allowed value v bodies level env u body s)

-- the cache does
pub stop-cache : {A : Type 0} (f : A → Option (List Data)) (allowed : Allowance) (value : Go) (bodies : Bodies) (level : ℕ) (env : Env) (u : UpdateTree) (body : ShapeTrees)
    (s s' : DrawingAt) (id : Data) (e : Stop) (m : Meter) (c d i j : ℕ)
    → id_of value level env s.siblings u.site u.id c d ≡ Gives id i j
    → Agrees f (Err e) m (cache_of value level env u.cache i j)
    → Agrees {A = Unit {0}} (always s') (Err e) m (draws_update allowed value bodies level env u body s c d).outcome
stop-cache f allowed value bodies level env u body s s' id e m c d i j p q =
    rw p (Agrees-stop f (always {A = Unit {0}} s') e m (cache_of value level env u.cache i j)
    (λ cache. run_of (draws_keyed allowed bodies level env body s (key_at u id cache)))
    (λ cache. grows-draws_keyed allowed bodies level env body s (key_at u id cache)) q)

-- an update that cannot be opened does
pub stop-keyed : (allowed : Allowance) (bodies : Bodies) (level : ℕ) (env : Env) (body : ShapeTrees) (key : KeyAt) (s s' s'' : DrawingAt) (e : Stop) (m : Meter)
    → Comes {A = Unit {0}} (always s') (Err e) (enter_update allowed.weight key s)
    → Agrees {A = Unit {0}} (always s'') (Err e) m (draws_keyed allowed bodies level env body s key m.cost m.deepest).outcome
stop-keyed allowed bodies level env body key s s' s'' (Trap k) m p = rw p refl
stop-keyed allowed bodies level env body key s s' s'' Memory m p = grows-draws_keyed allowed bodies level env body s key m.cost m.deepest

-- ---- what is opened

-- an update that is opened ends as its body does
pub keyed-opened : (allowed : Allowance) (bodies : Bodies) (level : ℕ) (env : Env) (body : ShapeTrees) (key : KeyAt) (s entered : DrawingAt) (c d : ℕ)
    → enter_update allowed.weight key s ≡ Ok entered
    → (draws_keyed allowed bodies level env body s key c d).outcome
    ≡ end_update key level entered (bodies.draw (left_over allowed c entered.weight) env body (enter_body entered)).outcome c d
keyed-opened allowed bodies level env body key s entered c d p = rw p refl

-- a body that stops stops the update
pub stop-body : (key : KeyAt) (level : ℕ) (entered s s' : DrawingAt) (e : Stop) (own m : Meter) (c : ℕ) (o : Outcome DrawingAt)
    → Agrees {A = Unit {0}} (always s) (Err e) own o → m.cost ≡ c + own.cost
    → Agrees {A = Unit {0}} (always s') (Err e) m (end_update key level entered o c m.deepest)
stop-body key level entered s s' (Trap k) own m c o p q = rw (p, q) refl
stop-body key level entered s s' Memory own m c (Gives t n r) p q = omega (arith, p, q)
stop-body key level entered s s' Memory own m c (Traps k n r) p q = omega (arith, p, q)

abbrev came : DrawingAt → Result DrawingAt ℕ
came s = Ok s

came-same : (s t : DrawingAt) → came s ≡ came t → s ≡ t
came-same s t p = cc

came-trap : (s : DrawingAt) (k : ℕ) → came s ≡ Err k → ⊥
came-trap s k p = cc

-- a body that ended is left, or there was no memory for that
pub left-update : (key : KeyAt) (level : ℕ) (entered t after : DrawingAt) (r : Result (Unit {0}) Stop) (own m : Meter) (c d : ℕ) (o : Outcome DrawingAt)
    → o ≡ Gives t own.cost own.deepest → m.cost ≡ c + own.cost → m.deepest ≡ max d (level + own.deepest)
    → Comes (always after) r (Ok (leave_update (head_at key entered.ambient t own.cost own.deepest) t.part entered))
    → Agrees (always after) r m (end_update key level entered o c d)
left-update key level entered t after (Ok u) own m c d o p q l h =
    let left = leave_update (head_at key entered.ambient t own.cost own.deepest) t.part entered in
    rw (p, q, l) (ap (λ (s : DrawingAt). Gives s (c + own.cost) (max d (level + own.deepest))) (came-same left after h))
left-update key level entered t after (Err (Trap k)) own m c d o p q l h =
    absurd (came-trap (leave_update (head_at key entered.ambient t own.cost own.deepest) t.part entered) k h)
left-update key level entered t after (Err Memory) own m c d o p q l h = rw (p, q) (omega arith)
