-- ActTrees: the cost never falls, a statement that could be entered does what its parts do, and a part that stops, stops the whole.
use Rattle.std.proofs.Common.{◌≡◌, ℕ, zero, suc, ◌+◌, ◌-◌, Bool, if◌then◌else◌, nat_le, List, [], ◌∷◌, ◌++◌, Err, arith}
use Rattle.cl_value.specs.Data.{Data}
use Rattle.cl_syntax.specs.ActTree as act
use Rattle.cl_syntax.specs.ActTree.{ActTree, ActTrees, none, statement}
use Rattle.cl_syntax.specs.ExprTree.{ExprTree, Bindings}
use Rattle.cl_application.specs.App.{slot_type}
use Rattle.cl_application.specs.declared.applications.App.{App}
use Rattle.cl_eval.specs.declared.effects.Effects.{Effects}
use Rattle.cl_eval.specs.declared.metering.Meter.{Meter}
use Rattle.cl_eval.specs.declared.metering.Stop.{Stop}
use Rattle.cl_eval.specs.Outcome.{Gives, Traps, give, lift}
use Rattle.cl_eval.specs.Slots.{Slots, Env}
use Rattle.cl_eval.specs.Meaning.{Go, bind_each, entering, truth_of, parts_of_list, means}
use Rattle.cl_eval.specs.Statements.{Member, Does, assign_slot, reply_with, add_switch, with_dialog, in_turn, for_each, acts_in, act_parts, does}
use Rattle.cl_eval.specs.declared.programs.Stage.{Stage}
use Rattle.cl_eval.specs.Stage.{doing_on}
use Rattle.cl_eval.specs.Agrees.{Agrees, always, itself}
use Rattle.cl_eval.proofs.CostLemmas.{Grows, GoGrows, Agrees-stop, grows-then, grows-give, grows-lift, grows-choice, grows-entering, grows-tested}
use Rattle.cl_eval.proofs.CostLemmas.{grows-listed, grows-bound, grows-means}
use Rattle.cl_eval.proofs.EnteringLemmas.{no_entry}

abbrev pub DoesGrows : Does → Type 0
DoesGrows go = (level : ℕ) (env : Env) (a : ActTree) (s : Effects) → Grows (go level env a s)

pub grows-in_turn : (go : Does) → DoesGrows go → (level : ℕ) (env : Env) (body : ActTrees) (s : Effects) → Grows (in_turn go level env body s)
grows-in_turn go g level env none s = grows-give s
grows-in_turn go g level env (statement a rest) s =
    grows-then (go level env a s) (in_turn go level env rest) (g level env a s) (grows-in_turn go g level env rest)

pub grows-for_each : (go : Does) → DoesGrows go → (level : ℕ) (env : Env) (x : List ℕ) (body : ActTrees) (ds : List Data) (s : Effects) → Grows (for_each go level env x body ds s)
grows-for_each go g level env x body [] s = grows-give s
grows-for_each go g level env x body (d ∷ ds) s =
    grows-then (in_turn go level ((x, d) ∷ env) body s) (for_each go level env x body ds) (grows-in_turn go g level ((x, d) ∷ env) body s) (grows-for_each go g level env x body ds)

pub grows-acts_in : (value : Go) → GoGrows value → (go : Does) → DoesGrows go → (level : ℕ) (bs : Bindings) (body : ActTrees) (env : Env) (s : Effects)
    → Grows (acts_in value go level bs body env s)
grows-acts_in value v go g level bs body env s =
    grows-then (bind_each value level bs env) (λ inner. in_turn go level inner body s) (grows-bound value v level bs env) (λ inner. grows-in_turn go g level inner body s)

pub grows-then_act : (go : Does) → DoesGrows go → (level : ℕ) (env : Env) (a b : ActTree) (s : Effects) (test : Bool) → Grows (if test then go level env a s else go level env b s)
grows-then_act go g level env a b s test = grows-choice test (go level env a s) (go level env b s) (g level env a s) (g level env b s)

pub grows-then_body : (go : Does) → DoesGrows go → (level : ℕ) (env : Env) (body : ActTrees) (s : Effects) (test : Bool) → Grows (if test then in_turn go level env body s else give s)
grows-then_body go g level env body s test = grows-choice test (in_turn go level env body s) (give s) (grows-in_turn go g level env body s) (grows-give s)

abbrev pub AllGrow : (Slots → Go) → Type 0
AllGrow value = (slots : Slots) → GoGrows (value slots)

grows-act_parts : (app : App) (member : Member) (value : Slots → Go) → AllGrow value → (go : Does) → DoesGrows go → (level : ℕ) (env : Env) (a : ActTree) (s : Effects)
    → Grows (act_parts app member value go level env a s)
grows-act_parts app member value v go g level env (act.Setf x t) s =
    grows-then (value s.slots level env t) (λ d. lift (assign_slot member x (slot_type x app) s d)) (v s.slots level env t) (λ d. grows-lift (assign_slot member x (slot_type x app) s d))
grows-act_parts app member value v go g level env (act.Reply t) s =
    grows-then (value s.slots level env t) (λ d. lift (reply_with s d)) (v s.slots level env t) (λ d. grows-lift (reply_with s d))
grows-act_parts app member value v go g level env (act.Switch x on) s = grows-give (add_switch x on s)
grows-act_parts app member value v go g level env (act.OpenDialog x) s = grows-give (with_dialog x s)
grows-act_parts app member value v go g level env (act.If t a b) s =
    grows-then (truth_of (value s.slots) level env t) (λ test. if test then go level env a s else go level env b s) (grows-tested (value s.slots) (v s.slots) level env t)
    (grows-then_act go g level env a b s)
grows-act_parts app member value v go g level env (act.When t body) s =
    grows-then (truth_of (value s.slots) level env t) (λ test. if test then in_turn go level env body s else give s) (grows-tested (value s.slots) (v s.slots) level env t)
    (grows-then_body go g level env body s)
grows-act_parts app member value v go g level env (act.Let bs body) s = grows-acts_in (value s.slots) (v s.slots) go g level bs body env s
grows-act_parts app member value v go g level env (act.Dolist x t body) s =
    grows-then (parts_of_list (value s.slots) level env t) (λ ds. for_each go level env x body ds s) (grows-listed (value s.slots) (v s.slots) level env t)
    (λ ds. grows-for_each go g level env x body ds s)
grows-act_parts app member value v go g level env (act.Progn body) s = grows-in_turn go g level env body s

pub grows-does : (left budget : ℕ) (app : App) (member : Member) → DoesGrows (does left budget app member)
grows-does zero budget app member level env a s =
    grows-then (entering 0 budget level) (λ _. λ c d. Traps 6 c d) (grows-entering 0 budget level) (λ _ c d. omega arith)
grows-does (suc left) budget app member level env a s =
    grows-then (entering (suc left) budget level) (λ _. act_parts app member (means left budget app) (does left budget app member) (level + 1) env a s)
    (grows-entering (suc left) budget level)
    (λ _. grows-act_parts app member (means left budget app) (grows-means left budget app) (does left budget app member) (grows-does left budget app member) (level + 1) env a s)

pub grows-on : {T : Type 0} (holds : T → Member) (here : Stage T) → DoesGrows (doing_on holds here)
grows-on holds here = grows-does here.left here.program.now.limits.budget here.program.now.app.now (holds here.program.now.types.now)

-- ---- entering

pub does-entered : (left budget : ℕ) (app : App) (member : Member) (level : ℕ) (env : Env) (a : ActTree) (s : Effects) (cost deepest c d : ℕ)
    → entering left budget level cost deepest ≡ Gives tt c d
    → does left budget app member level env a s cost deepest ≡ act_parts app member (means (left - 1) budget app) (does (left - 1) budget app member) (level + 1) env a s c d
does-entered zero budget app member level env a s cost deepest c d p = absurd (no_entry (nat_le budget cost) cost deepest c d p)
does-entered (suc n) budget app member level env a s cost deepest c d p =
    let less : suc n - 1 ≡ n = omega arith in
    rw (p, less)

-- ---- a part that stops

pub stop-in_turn : (go : Does) → DoesGrows go → (level : ℕ) (env : Env) (a : ActTree) (rest : ActTrees) (s s' : Effects) (e : Stop) (m : Meter) (c d : ℕ)
    → Agrees (always {A = Unit {0}} s') (Err e) m (go level env a s c d) → Agrees (always {A = Unit {0}} s') (Err e) m (in_turn go level env (statement a rest) s c d)
stop-in_turn go g level env a rest s s' e m c d =
    Agrees-stop (always {A = Unit {0}} s') (always {A = Unit {0}} s') e m (go level env a s c d) (in_turn go level env rest) (grows-in_turn go g level env rest)

pub stop-for_each : (go : Does) → DoesGrows go → (level : ℕ) (env : Env) (x : List ℕ) (body : ActTrees) (v : Data) (ds : List Data) (s s' : Effects) (e : Stop) (m : Meter) (c d : ℕ)
    → Agrees (always {A = Unit {0}} s') (Err e) m (in_turn go level ((x, v) ∷ env) body s c d) → Agrees (always {A = Unit {0}} s') (Err e) m (for_each go level env x body (v ∷ ds) s c d)
stop-for_each go g level env x body v ds s s' e m c d =
    Agrees-stop (always {A = Unit {0}} s') (always {A = Unit {0}} s') e m (in_turn go level ((x, v) ∷ env) body s c d) (for_each go level env x body ds) (grows-for_each go g level env x body ds)

pub stop-acts_in : (value : Go) (go : Does) → DoesGrows go → (level : ℕ) (bs : Bindings) (body : ActTrees) (env around : Env) (s s' : Effects) (e : Stop) (m : Meter) (c d : ℕ)
    → Agrees (λ frame. frame ++ around) (Err e) m (bind_each value level bs env c d) → Agrees (always {A = Unit {0}} s') (Err e) m (acts_in value go level bs body env s c d)
stop-acts_in value go g level bs body env around s s' e m c d =
    Agrees-stop (λ frame. frame ++ around) (always {A = Unit {0}} s') e m (bind_each value level bs env c d) (λ inner. in_turn go level inner body s) (λ inner. grows-in_turn go g level inner body s)

pub stop-choice : (app : App) (member : Member) (value : Slots → Go) (go : Does) → DoesGrows go → (level : ℕ) (env : Env) (t : ExprTree) (a b : ActTree) (s s' : Effects) (e : Stop) (m : Meter) (c d : ℕ)
    → Agrees itself (Err e) m (truth_of (value s.slots) level env t c d) → Agrees (always {A = Unit {0}} s') (Err e) m (act_parts app member value go level env (act.If t a b) s c d)
stop-choice app member value go g level env t a b s s' e m c d =
    Agrees-stop itself (always {A = Unit {0}} s') e m (truth_of (value s.slots) level env t c d) (λ test. if test then go level env a s else go level env b s) (grows-then_act go g level env a b s)

pub stop-when : (app : App) (member : Member) (value : Slots → Go) (go : Does) → DoesGrows go → (level : ℕ) (env : Env) (t : ExprTree) (body : ActTrees) (s s' : Effects) (e : Stop) (m : Meter) (c d : ℕ)
    → Agrees itself (Err e) m (truth_of (value s.slots) level env t c d) → Agrees (always {A = Unit {0}} s') (Err e) m (act_parts app member value go level env (act.When t body) s c d)
stop-when app member value go g level env t body s s' e m c d =
    Agrees-stop itself (always {A = Unit {0}} s') e m (truth_of (value s.slots) level env t c d) (λ test. if test then in_turn go level env body s else give s) (grows-then_body go g level env body s)

pub stop-dolist : (app : App) (member : Member) (value : Slots → Go) (go : Does) → DoesGrows go → (level : ℕ) (env : Env) (x : List ℕ) (t : ExprTree) (body : ActTrees) (s s' : Effects) (e : Stop) (m : Meter) (c d : ℕ)
    → Agrees itself (Err e) m (parts_of_list (value s.slots) level env t c d) → Agrees (always {A = Unit {0}} s') (Err e) m (act_parts app member value go level env (act.Dolist x t body) s c d)
stop-dolist app member value go g level env x t body s s' e m c d =
    Agrees-stop itself (always {A = Unit {0}} s') e m (parts_of_list (value s.slots) level env t c d) (λ ds. for_each go level env x body ds s) (λ ds. grows-for_each go g level env x body ds s)
