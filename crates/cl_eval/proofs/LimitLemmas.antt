-- What ends under some limits ends so under all limits that its cost and its reach do not pass.
use Rattle.std.proofs.Common.{◌≡◌, ap, ℕ, zero, suc, ◌+◌, ◌≤◌, ◌==◌, Bool, true, false, if◌then◌else◌, nat_le, List, [], ◌∷◌, ◌++◌, length, Option, Some, None, Result, Ok, Err, arith, refl}
use Rattle.std.specs.Prelude.{max}
use Rattle.std.proofs.lemmas.Bool.Decides.{nat_tests}
use Rattle.cl_value.specs.Data.{Data, bool, list, items_of}
use Rattle.cl_syntax.specs.ExprTree as expr
use Rattle.cl_syntax.specs.ExprTree.{ExprTree, ExprTrees, Bindings, none, part, unbound, binding}
use Rattle.cl_application.specs.App.{function_named}
use Rattle.cl_application.specs.declared.applications.App.{App}
use Rattle.cl_application.specs.declared.declarations.FunctionDecl.{FunctionDecl}
use Rattle.cl_eval.specs.Outcome.{Outcome, Gives, Traps, Run, give, trap, lift, after, ◌>>=◌, cost_of}
use Rattle.cl_eval.specs.Slots.{Slots, Env, value_named, bind_parameters}
use Rattle.cl_eval.specs.Operators.{within_limits, or_trap, truth, elements, operate}
use Rattle.cl_eval.specs.Meaning.{Go, entering, truth_of, parts_of_list, each, every, some, bind_each, let_in, map_each, filter_each, fold_each, call_function, parts, means}

-- from a cost and a level to a value: neither falls, and within the limits the second run comes to the same
pub record Reaches {A : Type 0} (second : Run A) (budget depth c d : ℕ) (v : A) (n l : ℕ) : Type 0 where
  pub cost : c ≤ n
  pub deepest : d ≤ l
  pub same : n ≤ budget → l ≤ depth → second c d ≡ Gives v n l

abbrev pub Goes : {A : Type 0} → ℕ → ℕ → Run A → Run A → Type 0
Goes {A} budget depth first second = (c d : ℕ) (v : A) (n l : ℕ) → first c d ≡ Gives v n l → Reaches second budget depth c d v n l

abbrev deepest_of : {A : Type 0} → Outcome A → ℕ
deepest_of (Gives x cost deepest) = deepest
deepest_of (Traps kind cost deepest) = deepest

-- a trap gives no value
pub no_value : {A : Type 0} (k c d : ℕ) (v : A) (n l : ℕ) → Traps k c d ≡ Gives v n l → ⊥
no_value k c d v n l p = cc

pub goes-give : {A : Type 0} (budget depth : ℕ) (x : A) → Goes budget depth (give x) (give x)
goes-give budget depth x c d v n l p =
    let cost : c ≡ n = ap cost_of p in
    let deepest : d ≡ l = ap deepest_of p in
    record { cost = omega (arith, cost); deepest = omega (arith, deepest); same = λ _ _. p }

pub goes-trap : {A : Type 0} (budget depth k : ℕ) → Goes {A = A} budget depth (trap k) (trap k)
goes-trap budget depth k c d v n l p = absurd (no_value k c d v n l p)

pub goes-lift : {A : Type 0} (budget depth : ℕ) (r : Result A ℕ) → Goes budget depth (lift r) (lift r)
goes-lift budget depth (Ok x) c d v n l p =
    let cost : c ≡ n = ap cost_of p in
    let deepest : d ≡ l = ap deepest_of p in
    record { cost = omega (arith, cost); deepest = omega (arith, deepest); same = λ _ _. p }
goes-lift budget depth (Err k) c d v n l p = absurd (no_value k c d v n l p)

reaches-then : {A B : Type 0} (budget depth : ℕ) (m m' : Run A) (f f' : A → Run B) → Goes budget depth m m' → ((x : A) → Goes budget depth (f x) (f' x))
    → (c d : ℕ) (o : Outcome A) → m c d ≡ o → (v : B) (n l : ℕ) → after o f ≡ Gives v n l → Reaches (m' >>= f') budget depth c d v n l
reaches-then budget depth m m' f f' g h c d (Gives x i j) q v n l p =
    let first : Reaches m' budget depth c d x i j = g c d x i j q in
    let rest : Reaches (f' x) budget depth i j v n l = h x i j v n l p in
    record {
      cost = omega (arith, first.cost, rest.cost);
      deepest = omega (arith, first.deepest, rest.deepest);
      same = λ cheap shallow.
          let goes : m' c d ≡ Gives x i j = first.same (omega (arith, cheap, rest.cost)) (omega (arith, shallow, rest.deepest)) in
          rw goes (rest.same cheap shallow);
    }
reaches-then budget depth m m' f f' g h c d (Traps k i j) q v n l p = absurd (no_value k i j v n l p)

pub goes-then : {A B : Type 0} (budget depth : ℕ) (m m' : Run A) (f f' : A → Run B) → Goes budget depth m m' → ((x : A) → Goes budget depth (f x) (f' x))
    → Goes budget depth (m >>= f) (m' >>= f')
goes-then budget depth m m' f f' g h c d v n l p = reaches-then budget depth m m' f f' g h c d (m c d) refl v n l p

pub goes-choice : {A : Type 0} (budget depth : ℕ) (b : Bool) (r r' s s' : Run A) → Goes budget depth r r' → Goes budget depth s s'
    → Goes budget depth (if b then r else s) (if b then r' else s')
goes-choice budget depth true r r' s s' g h = g
goes-choice budget depth false r r' s s' g h = h

-- what entering a form comes to, where the budget is used up or no level is left
abbrev pub entered : Bool → Bool → ℕ → ℕ → ℕ → Outcome (Unit {0})
entered b e level c d = if b then Traps 5 c d else (if e then Traps 6 c d else Gives tt (c + 1) (max d (level + 1)))

-- what entering a form gives, where it gives anything
pub gives-entered : (b e : Bool) (level c d : ℕ) (v : Unit {0}) (n l : ℕ) → entered b e level c d ≡ Gives v n l → entered false false level c d ≡ Gives v n l
gives-entered true e level c d v n l p = absurd (no_value 5 c d v n l p)
gives-entered false true level c d v n l p = absurd (no_value 6 c d v n l p)
gives-entered false false level c d v n l p = p

pub goes-entering : (left budget left' budget' level : ℕ) → Goes budget' (level + left') (entering left budget level) (entering left' budget' level)
goes-entering left budget left' budget' level c d v n l p =
    let gives = gives-entered (nat_le budget c) (left == 0) level c d v n l p in
    let cost : c + 1 ≡ n = ap cost_of gives in
    let deepest : max d (level + 1) ≡ l = ap deepest_of gives in
    record {
      cost = omega (arith, cost);
      deepest = omega (arith, deepest);
      same = λ cheap shallow.
          let paid : nat_le budget' c ≡ false = grind (arith, nat_tests, cost, cheap) in
          let room : (left' == 0) ≡ false = grind (arith, nat_tests, deepest, shallow) in
          rw (paid, room) gives;
    }

-- ---- by the meaning of the parts at a level

abbrev pub GoGoes : ℕ → ℕ → ℕ → Go → Go → Type 0
GoGoes budget depth level go go' = (env : Env) (t : ExprTree) → Goes budget depth (go level env t) (go' level env t)

pub goes-tested : (budget depth : ℕ) (go go' : Go) → (level : ℕ) → GoGoes budget depth level go go' → (env : Env) (t : ExprTree) → Goes budget depth (truth_of go level env t) (truth_of go' level env t)
goes-tested budget depth go go' level g env t =
    goes-then budget depth (go level env t) (go' level env t) (λ d. lift (truth d)) (λ d. lift (truth d)) (g env t) (λ d. goes-lift budget depth (truth d))

pub goes-listed : (budget depth : ℕ) (go go' : Go) → (level : ℕ) → GoGoes budget depth level go go' → (env : Env) (t : ExprTree) → Goes budget depth (parts_of_list go level env t) (parts_of_list go' level env t)
goes-listed budget depth go go' level g env t =
    goes-then budget depth (go level env t) (go' level env t) (λ d. lift (elements d)) (λ d. lift (elements d)) (g env t) (λ d. goes-lift budget depth (elements d))

pub goes-each : (budget depth : ℕ) (go go' : Go) → (level : ℕ) → GoGoes budget depth level go go' → (env : Env) (ts : ExprTrees) (ds : List Data) → Goes budget depth (each go level env ts ds) (each go' level env ts ds)
goes-each budget depth go go' level g env none ds =
    goes-give budget depth ds
goes-each budget depth go go' level g env (part t ts) ds =
    goes-then budget depth (go level env t) (go' level env t) (λ d. each go level env ts (ds ++ d ∷ [])) (λ d. each go' level env ts (ds ++ d ∷ [])) (g env t) (λ d. goes-each budget depth go go' level g env ts (ds ++ d ∷ []))

pub goes-every : (budget depth : ℕ) (go go' : Go) → (level : ℕ) → GoGoes budget depth level go go' → (env : Env) (ts : ExprTrees) → Goes budget depth (every go level env ts) (every go' level env ts)
goes-every budget depth go go' level g env none =
    goes-give budget depth (bool true)
goes-every budget depth go go' level g env (part t ts) =
    goes-then budget depth (truth_of go level env t) (truth_of go' level env t) (λ b. if b then every go level env ts else give (bool false)) (λ b. if b then every go' level env ts else give (bool false)) (goes-tested budget depth go go' level g env t) (λ b. goes-choice budget depth b (every go level env ts) (every go' level env ts) (give (bool false)) (give (bool false)) (goes-every budget depth go go' level g env ts) (goes-give budget depth (bool false)))

pub goes-some : (budget depth : ℕ) (go go' : Go) → (level : ℕ) → GoGoes budget depth level go go' → (env : Env) (ts : ExprTrees) → Goes budget depth (some go level env ts) (some go' level env ts)
goes-some budget depth go go' level g env none =
    goes-give budget depth (bool false)
goes-some budget depth go go' level g env (part t ts) =
    goes-then budget depth (truth_of go level env t) (truth_of go' level env t) (λ b. if b then give (bool true) else some go level env ts) (λ b. if b then give (bool true) else some go' level env ts) (goes-tested budget depth go go' level g env t) (λ b. goes-choice budget depth b (give (bool true)) (give (bool true)) (some go level env ts) (some go' level env ts) (goes-give budget depth (bool true)) (goes-some budget depth go go' level g env ts))

pub goes-bound : (budget depth : ℕ) (go go' : Go) → (level : ℕ) → GoGoes budget depth level go go' → (bs : Bindings) (env : Env) → Goes budget depth (bind_each go level bs env) (bind_each go' level bs env)
goes-bound budget depth go go' level g unbound env =
    goes-give budget depth env
goes-bound budget depth go go' level g (binding x t bs) env =
    goes-then budget depth (go level env t) (go' level env t) (λ d. bind_each go level bs ((x, d) ∷ env)) (λ d. bind_each go' level bs ((x, d) ∷ env)) (g env t) (λ d. goes-bound budget depth go go' level g bs ((x, d) ∷ env))

pub goes-let_in : (budget depth : ℕ) (go go' : Go) → (level : ℕ) → GoGoes budget depth level go go' → (bs : Bindings) (t : ExprTree) (env : Env) → Goes budget depth (let_in go level bs t env) (let_in go' level bs t env)
goes-let_in budget depth go go' level g bs t env =
    goes-then budget depth (bind_each go level bs env) (bind_each go' level bs env) (λ inner. go level inner t) (λ inner. go' level inner t) (goes-bound budget depth go go' level g bs env) (λ inner. g inner t)

pub goes-mapped : (budget depth : ℕ) (go go' : Go) → (level : ℕ) → GoGoes budget depth level go go' → (env : Env) (x : List ℕ) (t : ExprTree) (ds es : List Data) → Goes budget depth (map_each go level env x t ds es) (map_each go' level env x t ds es)
goes-mapped budget depth go go' level g env x t [] es =
    goes-give budget depth es
goes-mapped budget depth go go' level g env x t (a ∷ ds) es =
    goes-then budget depth (go level ((x, a) ∷ env) t) (go' level ((x, a) ∷ env) t) (λ e. map_each go level env x t ds (es ++ e ∷ [])) (λ e. map_each go' level env x t ds (es ++ e ∷ [])) (g ((x, a) ∷ env) t) (λ e. goes-mapped budget depth go go' level g env x t ds (es ++ e ∷ []))

pub goes-filtered : (budget depth : ℕ) (go go' : Go) → (level : ℕ) → GoGoes budget depth level go go' → (env : Env) (x : List ℕ) (t : ExprTree) (ds es : List Data) → Goes budget depth (filter_each go level env x t ds es) (filter_each go' level env x t ds es)
goes-filtered budget depth go go' level g env x t [] es =
    goes-give budget depth es
goes-filtered budget depth go go' level g env x t (a ∷ ds) es =
    goes-then budget depth (truth_of go level ((x, a) ∷ env) t) (truth_of go' level ((x, a) ∷ env) t) (λ b. filter_each go level env x t ds (if b then es ++ a ∷ [] else es)) (λ b. filter_each go' level env x t ds (if b then es ++ a ∷ [] else es)) (goes-tested budget depth go go' level g ((x, a) ∷ env) t) (λ b. goes-filtered budget depth go go' level g env x t ds (if b then es ++ a ∷ [] else es))

pub goes-folded : (budget depth : ℕ) (go go' : Go) → (level : ℕ) → GoGoes budget depth level go go' → (env : Env) (x y : List ℕ) (t : ExprTree) (ds : List Data) (a : Data) → Goes budget depth (fold_each go level env x y t ds a) (fold_each go' level env x y t ds a)
goes-folded budget depth go go' level g env x y t [] a =
    goes-give budget depth a
goes-folded budget depth go go' level g env x y t (e ∷ ds) a =
    goes-then budget depth (go level ((y, a) ∷ (x, e) ∷ env) t) (go' level ((y, a) ∷ (x, e) ∷ env) t) (λ b. fold_each go level env x y t ds b) (λ b. fold_each go' level env x y t ds b) (g ((y, a) ∷ (x, e) ∷ env) t) (λ b. goes-folded budget depth go go' level g env x y t ds b)

pub goes-called : (budget depth : ℕ) (go go' : Go) → (level : ℕ) → GoGoes budget depth level go go' → (f : Option FunctionDecl) (ds : List Data) → Goes budget depth (call_function go level f ds) (call_function go' level f ds)
goes-called budget depth go go' level g None ds =
    goes-trap budget depth 1
goes-called budget depth go go' level g (Some f) ds =
    goes-choice budget depth (length ds == length f.parameters) (go level (bind_parameters f.parameters ds) f.body) (go' level (bind_parameters f.parameters ds) f.body) (trap 1) (trap 1) (g (bind_parameters f.parameters ds) f.body) (goes-trap budget depth 1)

-- what follows in each row

pub goes-then_choice : (budget depth : ℕ) (go go' : Go) → (level : ℕ) → GoGoes budget depth level go go' → (env : Env) (u v : ExprTree) (b : Bool) → Goes budget depth (if b then go level env u else go level env v) (if b then go' level env u else go' level env v)
goes-then_choice budget depth go go' level g env u v b =
    goes-choice budget depth b (go level env u) (go' level env u) (go level env v) (go' level env v) (g env u) (g env v)

pub goes-limited : (budget depth : ℕ) (es : List Data) → Goes budget depth (lift (within_limits (list (items_of es)))) (lift (within_limits (list (items_of es))))
goes-limited budget depth es =
    goes-lift budget depth (within_limits (list (items_of es)))

pub goes-then_map : (budget depth : ℕ) (go go' : Go) → (level : ℕ) → GoGoes budget depth level go go' → (env : Env) (x : List ℕ) (t : ExprTree) (ds : List Data) → Goes budget depth (map_each go level env x t ds [] >>= λ es. lift (within_limits (list (items_of es)))) (map_each go' level env x t ds [] >>= λ es. lift (within_limits (list (items_of es))))
goes-then_map budget depth go go' level g env x t ds =
    goes-then budget depth (map_each go level env x t ds []) (map_each go' level env x t ds []) (λ es. lift (within_limits (list (items_of es)))) (λ es. lift (within_limits (list (items_of es)))) (goes-mapped budget depth go go' level g env x t ds []) (goes-limited budget depth)

pub goes-then_filter : (budget depth : ℕ) (go go' : Go) → (level : ℕ) → GoGoes budget depth level go go' → (env : Env) (x : List ℕ) (t : ExprTree) (ds : List Data) → Goes budget depth (filter_each go level env x t ds [] >>= λ es. lift (within_limits (list (items_of es)))) (filter_each go' level env x t ds [] >>= λ es. lift (within_limits (list (items_of es))))
goes-then_filter budget depth go go' level g env x t ds =
    goes-then budget depth (filter_each go level env x t ds []) (filter_each go' level env x t ds []) (λ es. lift (within_limits (list (items_of es)))) (λ es. lift (within_limits (list (items_of es)))) (goes-filtered budget depth go go' level g env x t ds []) (goes-limited budget depth)

pub goes-then_fold : (budget depth : ℕ) (go go' : Go) → (level : ℕ) → GoGoes budget depth level go go' → (env : Env) (x y : List ℕ) (t : ExprTree) (d a : Data) → Goes budget depth (lift (elements d) >>= λ ds. fold_each go level env x y t ds a) (lift (elements d) >>= λ ds. fold_each go' level env x y t ds a)
goes-then_fold budget depth go go' level g env x y t d a =
    goes-then budget depth (lift (elements d)) (lift (elements d)) (λ ds. fold_each go level env x y t ds a) (λ ds. fold_each go' level env x y t ds a) (goes-lift budget depth (elements d)) (λ ds. goes-folded budget depth go go' level g env x y t ds a)

pub goes-then_opening : (budget depth : ℕ) (go go' : Go) → (level : ℕ) → GoGoes budget depth level go go' → (env : Env) (x y : List ℕ) (opening t : ExprTree) (d : Data) → Goes budget depth (go level env opening >>= λ a. lift (elements d) >>= λ ds. fold_each go level env x y t ds a) (go' level env opening >>= λ a. lift (elements d) >>= λ ds. fold_each go' level env x y t ds a)
goes-then_opening budget depth go go' level g env x y opening t d =
    goes-then budget depth (go level env opening) (go' level env opening) (λ a. lift (elements d) >>= λ ds. fold_each go level env x y t ds a) (λ a. lift (elements d) >>= λ ds. fold_each go' level env x y t ds a) (g env opening) (λ a. goes-then_fold budget depth go go' level g env x y t d a)

goes-parts : (budget depth : ℕ) (app : App) (slots : Slots) (go go' : Go) → (level : ℕ) → GoGoes budget depth level go go' → (env : Env) (t : ExprTree) → Goes budget depth (parts app slots go level env t) (parts app slots go' level env t)
goes-parts budget depth app slots go go' level g env (expr.Constant x) =
    goes-give budget depth x
goes-parts budget depth app slots go go' level g env (expr.Variable x) =
    goes-lift budget depth (or_trap 1 (value_named x env))
goes-parts budget depth app slots go go' level g env (expr.Slot x) =
    goes-lift budget depth (or_trap 1 (value_named x slots))
goes-parts budget depth app slots go go' level g env (expr.If t u v) =
    goes-then budget depth (truth_of go level env t) (truth_of go' level env t) (λ b. if b then go level env u else go level env v) (λ b. if b then go' level env u else go' level env v) (goes-tested budget depth go go' level g env t) (goes-then_choice budget depth go go' level g env u v)
goes-parts budget depth app slots go go' level g env (expr.Let bs t) =
    goes-let_in budget depth go go' level g bs t env
goes-parts budget depth app slots go go' level g env (expr.And ts) =
    goes-every budget depth go go' level g env ts
goes-parts budget depth app slots go go' level g env (expr.Or ts) =
    goes-some budget depth go go' level g env ts
goes-parts budget depth app slots go go' level g env (expr.Map x t body) =
    goes-then budget depth (parts_of_list go level env t) (parts_of_list go' level env t) (λ ds. map_each go level env x body ds [] >>= λ es. lift (within_limits (list (items_of es)))) (λ ds. map_each go' level env x body ds [] >>= λ es. lift (within_limits (list (items_of es)))) (goes-listed budget depth go go' level g env t) (goes-then_map budget depth go go' level g env x body)
goes-parts budget depth app slots go go' level g env (expr.Filter x t body) =
    goes-then budget depth (parts_of_list go level env t) (parts_of_list go' level env t) (λ ds. filter_each go level env x body ds [] >>= λ es. lift (within_limits (list (items_of es)))) (λ ds. filter_each go' level env x body ds [] >>= λ es. lift (within_limits (list (items_of es)))) (goes-listed budget depth go go' level g env t) (goes-then_filter budget depth go go' level g env x body)
goes-parts budget depth app slots go go' level g env (expr.Fold x t y opening body) =
    goes-then budget depth (go level env t) (go' level env t) (λ d. go level env opening >>= λ a. lift (elements d) >>= λ ds. fold_each go level env x y body ds a) (λ d. go' level env opening >>= λ a. lift (elements d) >>= λ ds. fold_each go' level env x y body ds a) (g env t) (goes-then_opening budget depth go go' level g env x y opening body)
goes-parts budget depth app slots go go' level g env (expr.Operation o ts) =
    goes-then budget depth (each go level env ts []) (each go' level env ts []) (λ ds. lift (operate app o ds)) (λ ds. lift (operate app o ds)) (goes-each budget depth go go' level g env ts []) (λ ds. goes-lift budget depth (operate app o ds))
goes-parts budget depth app slots go go' level g env (expr.Call f ts) =
    goes-then budget depth (each go level env ts []) (each go' level env ts []) (λ ds. call_function go level (function_named f app) ds) (λ ds. call_function go' level (function_named f app) ds) (goes-each budget depth go go' level g env ts []) (goes-called budget depth go go' level g (function_named f app))

-- ---- expressions

-- where no level is left, no form gives a value
pub never : {A : Type 0} (o : Outcome (Unit {0})) (v : A) (n l : ℕ) → after o (λ _. trap 6) ≡ Gives v n l → ⊥
never (Gives x i j) v n l p = cc
never (Traps k i j) v n l p = cc

-- below the depth nothing is reached
pub reaches-deep : {A : Type 0} (budget depth : ℕ) (first second : Run A) (level c d : ℕ) (o : Outcome (Unit {0})) → ((i j : ℕ) → o ≡ Gives tt i j → (c ≤ i) × (d ≤ j) × (level + 1 ≤ j))
    → Goes budget depth first first → (f : Unit {0} → Run A) → ((x : Unit {0}) → f x ≡ first) → level ≡ depth
    → (v : A) (n l : ℕ) → after o f ≡ Gives v n l → Reaches second budget depth c d v n l
reaches-deep budget depth first second level c d (Gives x i j) in' g f is at v n l p =
    let entered = in' i j refl in
    let gives : first i j ≡ Gives v n l = rw (← is x) p in
    let rest : Reaches first budget depth i j v n l = g i j v n l gives in
    record {
      cost = omega (arith, entered.0, rest.cost);
      deepest = omega (arith, entered.1, rest.deepest);
      same = λ cheap shallow. absurd (omega (arith, entered.2, rest.deepest, shallow, at));
    }
reaches-deep budget depth first second level c d (Traps k i j) in' g f is at v n l p = absurd (no_value k i j v n l p)

-- a form that was entered costs a step and reaches a level below
pub entered-above : (b e : Bool) (level c d i j : ℕ) → entered b e level c d ≡ Gives tt i j → (c ≤ i) × (d ≤ j) × (level + 1 ≤ j)
entered-above b e level c d i j p =
    let gives = gives-entered b e level c d tt i j p in
    let cost : c + 1 ≡ i = ap cost_of gives in
    let deepest : max d (level + 1) ≡ j = ap deepest_of gives in
    (omega (arith, cost), omega (arith, deepest), omega (arith, deepest))

pub goes-means : (left budget left' budget' : ℕ) (app : App) (slots : Slots) (level : ℕ) (env : Env) (t : ExprTree)
    → Goes budget' (level + left') (means left budget app slots level env t) (means left' budget' app slots level env t)
goes-means zero budget left' budget' app slots level env t c d v n l p = absurd (never (entering 0 budget level c d) v n l p)
goes-means (suc left) budget zero budget' app slots level env t c d v n l p =
    let deeper : level + 1 + left ≡ level + suc left = omega arith in
    let at : level ≡ level + 0 = omega arith in
    reaches-deep budget' (level + 0) (parts app slots (means left budget app slots) (level + 1) env t) (means zero budget' app slots level env t) level c d
    (entering (suc left) budget level c d) (entered-above (nat_le budget c) (suc left == 0) level c d)
    (λ i j w m k q. record {
      cost = (goes-parts budget (level + 1 + left) app slots (means left budget app slots) (means left budget app slots) (level + 1) (goes-means left budget left budget app slots (level + 1)) env t i j w m k q).cost;
      deepest = (goes-parts budget (level + 1 + left) app slots (means left budget app slots) (means left budget app slots) (level + 1) (goes-means left budget left budget app slots (level + 1)) env t i j w m k q).deepest;
      same = λ _ _. q;
    })
    (λ _. parts app slots (means left budget app slots) (level + 1) env t) (λ _. refl) at v n l p
goes-means (suc left) budget (suc left') budget' app slots level env t c d v n l p =
    let deeper : level + 1 + left' ≡ level + suc left' = omega arith in
    goes-then budget' (level + suc left') (entering (suc left) budget level) (entering (suc left') budget' level)
    (λ _. parts app slots (means left budget app slots) (level + 1) env t) (λ _. parts app slots (means left' budget' app slots) (level + 1) env t)
    (goes-entering (suc left) budget (suc left') budget' level)
    (λ _. rw (← deeper) (goes-parts budget' (level + 1 + left') app slots (means left budget app slots) (means left' budget' app slots) (level + 1)
    (goes-means left budget left' budget' app slots (level + 1)) env t)) c d v n l p
