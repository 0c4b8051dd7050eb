-- Display forms: the cost never falls, a form that could be entered draws what its parts draw, and a part that stops, stops the whole.
use Rattle.std.proofs.Common.{◌≡◌, ℕ, zero, suc, ◌+◌, ◌-◌, ◌==◌, Bool, true, false, if◌then◌else◌, nat_le, List, [], ◌∷◌, ◌++◌, refl, ap}
use Rattle.std.proofs.Common.{length, Option, Some, None}
use Rattle.std.proofs.Common.{Result, Ok, Err, arith}
use Rattle.cl_value.specs.Data.{Data}
use Rattle.cl_value.specs.Value.{data_of}
use Rattle.cl_syntax.specs.ShapeTree as shape
use Rattle.cl_syntax.specs.ShapeTree.{ShapeTree, ShapeTrees, none, form, shape_trees_of}
use Rattle.cl_syntax.specs.ExprTree.{ExprTree, ExprTrees, Bindings}
use Rattle.cl_application.specs.App.{display_named}
use Rattle.cl_application.specs.declared.declarations.DisplayDecl.{DisplayDecl}
use Rattle.cl_eval.specs.declared.metering.Meter.{Meter}
use Rattle.cl_eval.specs.declared.metering.Stop.{Stop}
use Rattle.cl_eval.specs.declared.metering.Stop.TheVariants.{Trap, Memory}
use Rattle.cl_eval.specs.Outcome.{Gives, Outcome, Run, Traps, give, trap, lift}
use Rattle.cl_eval.specs.Statements.{Member}
use Rattle.cl_eval.specs.TypeMeanings.{Presents}
use Rattle.cl_syntax.specs.PresentationTree.{PresentationTree}
use Rattle.cl_syntax.specs.TypeSpecTree.{TypeSpecTree}
use Rattle.cl_eval.specs.Slots.{Slots, Env, bind_parameters}
use Rattle.cl_eval.specs.Meaning.{Go, bind_each, each, entering, truth_of, parts_of_list, means}
use Rattle.cl_eval.specs.Agrees.{Agrees, Comes, always, itself, items_are}
use Rattle.cl_eval.proofs.CostLemmas.{Grows, GoGrows, Agrees-stop, grows-then, grows-give, grows-lift, grows-each, grows-entering}
use Rattle.cl_eval.proofs.CostLemmas.{grows-tested, grows-listed, grows-bound, grows-means}
use Rattle.cl_eval.proofs.EnteringLemmas.{no_entry}
use Rattle.cl_syntax.specs.declared.figures.Figure.{Figure}
use Rattle.cl_display.specs.Drawings.{DrawingAt, newline}
use Rattle.cl_display.specs.Figures.{draw_figure}
use Rattle.cl_display.specs.Settings.{enter_room, indent, leave_room, restore_ink, restore_margin, set_ink}
use Rattle.cl_display.specs.Outcomes.{Draw, DrawOutcome, opens_none, run_of, ◌>->◌, ◌>>=◌}
use Rattle.cl_display.specs.Fresh.{Allowance, Draws, call_display, draws, draws_in, draws_to, for_each, in_order, shape_parts, within}
use Rattle.cl_display.specs.Fresh.{Bodies, Scene, bodies_on, for_members, presents_body, presents_text}
use Rattle.cl_display.proofs.UpdateLemmas.{grows-draws_update}
use Rattle.cl_display.specs.Place.{allowance_at, draws_at, scene_at, texts_at}
use Rattle.cl_display.specs.Presentations.{Texts, count_in, enter_presentation, label_of, leave_presentation, present_text, texts_on, write_value}
use Rattle.cl_display.specs.declared.places.Place.{Place}

abbrev pub DrawGrows : Draw → Type 0
DrawGrows m = Grows (run_of m)

abbrev pub DrawsGrow : Draws → Type 0
DrawsGrow go = (level : ℕ) (env : Env) (f : ShapeTree) (s : DrawingAt) → DrawGrows (go level env f s)

pub draw-then : (m : Draw) (f : DrawingAt → Draw) → DrawGrows m → ((s : DrawingAt) → DrawGrows (f s)) → DrawGrows (m >>= f)
draw-then m f g h = grows-then (run_of m) (λ s. run_of (f s)) g h

pub value-then : {A : Type 0} (m : Run A) (f : A → Draw) → Grows m → ((x : A) → DrawGrows (f x)) → DrawGrows (m >-> f)
value-then m f g h = grows-then m (λ x. run_of (f x)) g h

draw-choice : (b : Bool) (m n : Draw) → DrawGrows m → DrawGrows n → DrawGrows (if b then m else n)
draw-choice true m n g h = g
draw-choice false m n g h = h

pub grows-in_order : (go : Draws) → DrawsGrow go → (level : ℕ) (env : Env) (body : ShapeTrees) (s : DrawingAt)
    → DrawGrows (in_order go level env body s)
grows-in_order go g level env none s = grows-give s
grows-in_order go g level env (form f rest) s =
    draw-then (go level env f s) (in_order go level env rest) (g level env f s) (grows-in_order go g level env rest)

pub grows-for_each : (go : Draws) → DrawsGrow go → (level : ℕ) (env : Env) (x : List ℕ) (body : ShapeTrees) (ds : List Data) (s : DrawingAt)
    → DrawGrows (for_each go level env x body ds s)
grows-for_each go g level env x body [] s = grows-give s
grows-for_each go g level env x body (d ∷ ds) s =
    draw-then (in_order go level ((x, d) ∷ env) body s) (for_each go level env x body ds) (grows-in_order go g level ((x, d) ∷ env) body s)
    (grows-for_each go g level env x body ds)

pub grows-draws_in : (value : Go) → GoGrows value → (go : Draws) → DrawsGrow go
    → (level : ℕ) (bs : Bindings) (body : ShapeTrees) (env : Env) (s : DrawingAt)
    → DrawGrows (draws_in value go level bs body env s)
grows-draws_in value v go g level bs body env s =
    value-then (bind_each value level bs env) (λ inner. in_order go level inner body s) (grows-bound value v level bs env)
    (λ inner. grows-in_order go g level inner body s)

pub grows-call_display : (go : Draws) → DrawsGrow go → (level : ℕ) (f : Option DisplayDecl) (s : DrawingAt) (ds : List Data)
    → DrawGrows (call_display go level f ds s)
grows-call_display go g level None s ds = λ c d. omega arith
grows-call_display go g level (Some f) s ds =
    draw-choice (length ds == length f.parameters) (in_order go level (bind_parameters f.parameters ds) (shape_trees_of f.body) s)
    (opens_none (trap 1))
    (grows-in_order go g level (bind_parameters f.parameters ds) (shape_trees_of f.body) s) (λ c d. omega arith)

pub grows-draws_to : (go : Draws) → DrawsGrow go → (level : ℕ) (env : Env) (body : ShapeTrees) (leave : DrawingAt → DrawingAt)
    (s : DrawingAt)
    → DrawGrows (draws_to go level env body leave s)
grows-draws_to go g level env body leave s =
    draw-then (in_order go level env body s) (λ end. opens_none (give (leave end))) (grows-in_order go g level env body s)
    (λ end. grows-give (leave end))

pub grows-within : (go : Draws) → DrawsGrow go → (level : ℕ) (env : Env) (body : ShapeTrees) (r : Result DrawingAt ℕ)
    (leave : DrawingAt → DrawingAt)
    → DrawGrows (within go level env body r leave)
grows-within go g level env body r leave = value-then (lift r) (draws_to go level env body leave) (grows-lift r)
    (grows-draws_to go g level env body leave)

pub grows-then_form : (go : Draws) → DrawsGrow go → (level : ℕ) (env : Env) (a b : ShapeTree) (s : DrawingAt) (holds : Bool)
    → DrawGrows (if holds then go level env a s else go level env b s)
grows-then_form go g level env a b s holds = draw-choice holds (go level env a s) (go level env b s) (g level env a s) (g level env b s)

pub grows-then_body : (go : Draws) → DrawsGrow go → (level : ℕ) (env : Env) (body : ShapeTrees) (s : DrawingAt) (holds : Bool)
    → DrawGrows (if holds then in_order go level env body s else opens_none (give s))
grows-then_body go g level env body s holds =
    draw-choice holds (in_order go level env body s) (opens_none (give s)) (grows-in_order go g level env body s) (grows-give s)

-- ---- texts

abbrev pub TextsGrow : Texts → Type 0
TextsGrow text = (level : ℕ) (spec : TypeSpecTree) (d : Data) → Grows (text level spec d)

grows-counted : {A : Type 0} (level : ℕ) (o : Outcome A) → Grows (count_in level o)
grows-counted level (Gives x n l) c d = omega arith
grows-counted level (Traps kind n l) c d = omega arith

pub grows-texts : (presents : Presents) (slots : Slots) (budget left : ℕ) → TextsGrow (texts_on presents slots budget left)
grows-texts presents slots budget left level spec e c d = grows-counted level (presents (record { budget = budget - c; depth = left }) slots spec e) c d

-- ---- presentations

pub grows-for_members : (b : Bool) (m : Draw) → DrawGrows m → DrawGrows (if b then m else opens_none (trap 1))
grows-for_members b m g = draw-choice b m (opens_none (trap 1)) g (λ c d. omega arith)

grows-presents_text : (most : ℕ) (text : Texts) → TextsGrow text → (level : ℕ) (spec : TypeSpecTree) (s : DrawingAt) (d : Data)
    → DrawGrows (presents_text most text level spec s d)
grows-presents_text most text h level spec s d =
    value-then (text level spec d) (λ x. opens_none (lift (present_text most (label_of spec false d) s x))) (h level spec d)
    (λ x. grows-lift (present_text most (label_of spec false d) s x))

grows-presented : (member : Member) (spec : TypeSpecTree) (most : ℕ) (text : Texts) → TextsGrow text → (level : ℕ) (s : DrawingAt) (d : Data)
    → DrawGrows (for_members member spec d (presents_text most text level spec s d))
grows-presented member spec most text h level s d =
    grows-for_members (member d spec) (presents_text most text level spec s d) (grows-presents_text most text h level spec s d)

pub grows-presents_body : (most : ℕ) (go : Draws) → DrawsGrow go → (level : ℕ) (env : Env) (p : PresentationTree) (body : ShapeTrees)
    (s : DrawingAt) (d : Data) → DrawGrows (presents_body most go level env p body s d)
grows-presents_body most go g level env p body s d =
    grows-within go g level env body (enter_presentation most d s) (leave_presentation (label_of p.spec p.single_box d) s.part)

grows-body_presented : (member : Member) (most : ℕ) (go : Draws) → DrawsGrow go → (level : ℕ) (env : Env) (p : PresentationTree)
    (body : ShapeTrees) (s : DrawingAt) (d : Data)
    → DrawGrows (for_members member p.spec d (presents_body most go level env p body s d))
grows-body_presented member most go g level env p body s d =
    grows-for_members (member d p.spec) (presents_body most go level env p body s d) (grows-presents_body most go g level env p body s d)

-- ---- rows

grows-shape_parts : (scene : Scene) (allowed : Allowance) (value : Go) (text : Texts) (bodies : Bodies) → GoGrows value → TextsGrow text → (go : Draws) → DrawsGrow go
    → (level : ℕ) (env : Env) (f : ShapeTree) (s : DrawingAt)
    → DrawGrows (shape_parts scene allowed value text bodies go level env f s)
grows-shape_parts scene allowed value text bodies v h go g level env (shape.WriteText t) s =
    value-then (value level env t) (λ d. opens_none (lift (write_value allowed.weight s d))) (v level env t)
    (λ d. grows-lift (write_value allowed.weight s d))
grows-shape_parts scene allowed value text bodies v h go g level env shape.Newline s = grows-lift (newline s)
grows-shape_parts scene allowed value text bodies v h go g level env (shape.Draw figure ts) s =
    value-then (each value level env ts []) (λ ds. opens_none (lift (draw_figure allowed.weight figure ds s)))
    (grows-each value v level env ts [])
    (λ ds. grows-lift (draw_figure allowed.weight figure ds s))
grows-shape_parts scene allowed value text bodies v h go g level env (shape.Indent t body) s =
    value-then (value level env t) (λ d. within go level env body (indent d s) (restore_margin s.ambient)) (v level env t)
    (λ d. grows-within go g level env body (indent d s) (restore_margin s.ambient))
grows-shape_parts scene allowed value text bodies v h go g level env (shape.Ink t body) s =
    value-then (value level env t) (λ d. within go level env body (set_ink d s) (restore_ink s.ambient)) (v level env t)
    (λ d. grows-within go g level env body (set_ink d s) (restore_ink s.ambient))
grows-shape_parts scene allowed value text bodies v h go g level env (shape.Room body) s =
    grows-draws_to go g level env body (leave_room s.ambient s.part) (enter_room s)
grows-shape_parts scene allowed value text bodies v h go g level env (shape.Present t spec) s =
    value-then (value level env t) (λ d. for_members scene.types.holds spec d (presents_text allowed.weight text level spec s d))
    (v level env t) (grows-presented scene.types.holds spec allowed.weight text h level s)
grows-shape_parts scene allowed value text bodies v h go g level env (shape.AsPresentation p body) s =
    value-then (value level env p.object) (λ d. for_members scene.types.holds p.spec d (presents_body allowed.weight go level env p body s d))
    (v level env p.object) (grows-body_presented scene.types.holds allowed.weight go g level env p body s)
grows-shape_parts scene allowed value text bodies v h go g level env (shape.Update u body) s = grows-draws_update allowed value v bodies level env u body s
grows-shape_parts scene allowed value text bodies v h go g level env (shape.If t a b) s =
    value-then (truth_of value level env t) (λ holds. if holds then go level env a s else go level env b s) (grows-tested value v level env t)
    (grows-then_form go g level env a b s)
grows-shape_parts scene allowed value text bodies v h go g level env (shape.When t body) s =
    value-then (truth_of value level env t) (λ holds. if holds then in_order go level env body s else opens_none (give s))
    (grows-tested value v level env t)
    (grows-then_body go g level env body s)
grows-shape_parts scene allowed value text bodies v h go g level env (shape.Let bs body) s = grows-draws_in value v go g level bs body env s
grows-shape_parts scene allowed value text bodies v h go g level env (shape.Dolist x t body) s =
    value-then (parts_of_list value level env t) (λ ds. for_each go level env x body ds s) (grows-listed value v level env t)
    (λ ds. grows-for_each go g level env x body ds s)
grows-shape_parts scene allowed value text bodies v h go g level env (shape.Progn body) s = grows-in_order go g level env body s
grows-shape_parts scene allowed value text bodies v h go g level env (shape.Call f ts) s =
    value-then (each value level env ts []) (λ ds. call_display go level (display_named f scene.app) ds s) (grows-each value v level env ts [])
    (grows-call_display go g level (display_named f scene.app) s)

pub grows-draws : (left : ℕ) (allowed : Allowance) (scene : Scene) → DrawsGrow (draws left allowed scene)
grows-draws zero allowed scene level env f s =
    value-then (entering 0 allowed.budget level) (λ _. opens_none (trap 6)) (grows-entering 0 allowed.budget level) (λ _ c d. omega arith)
grows-draws (suc left) allowed scene level env f s =
    let value = means left allowed.budget scene.app scene.slots in
    let text = texts_on scene.types.presents scene.slots allowed.budget left in
    value-then (entering (suc left) allowed.budget level)
    (λ _. shape_parts scene allowed value text (bodies_on left scene) (draws left allowed scene) (level + 1) env f s)
    (grows-entering (suc left) allowed.budget level)
    (λ _. grows-shape_parts scene allowed value text (bodies_on left scene) (grows-means left allowed.budget scene.app scene.slots)
    (grows-texts scene.types.presents scene.slots allowed.budget left) (draws left allowed scene) (grows-draws left allowed scene) (level + 1)
    env f s)

module _ {T : Type 0} (holds : T → Member) (presents : T → Presents) where
  pub grows-at : (place : Place T) → DrawsGrow (draws_at holds presents place)
  grows-at place = grows-draws place.here.left (allowance_at place) (scene_at holds presents place)

  pub grows-texts_at : (place : Place T) → TextsGrow (texts_at holds presents place)
  grows-texts_at place = grows-texts (presents place.types.now) place.here.context.now.slots.now place.here.context.now.budget place.here.left

-- ---- entering

pub draws-entered : (left : ℕ) (allowed : Allowance) (scene : Scene) (level : ℕ) (env : Env) (f : ShapeTree) (s : DrawingAt)
    (cost deepest c d : ℕ)
    → entering left allowed.budget level cost deepest ≡ Gives tt c d
    → (draws left allowed scene level env f s cost deepest).outcome
    ≡ (shape_parts scene allowed (means (left - 1) allowed.budget scene.app scene.slots)
    (texts_on scene.types.presents scene.slots allowed.budget (left - 1)) (bodies_on (left - 1) scene) (draws (left - 1) allowed scene) (level + 1) env f s c d).outcome
draws-entered zero allowed scene level env f s cost deepest c d p = absurd (no_entry (nat_le allowed.budget cost) cost deepest c d p)
draws-entered (suc n) allowed scene level env f s cost deepest c d p =
    let less : suc n - 1 ≡ n = omega arith in
    rw (p, less)

-- ---- a part that stops

-- a draw that stops so, whatever the drawing is then
abbrev pub StopsAt : DrawingAt → Stop → Meter → DrawOutcome → Type 0
StopsAt s e m o = Agrees {A = Unit {0}} (always s) (Err e) m o.outcome

stop-draw : (s s' : DrawingAt) (e : Stop) (m : Meter) (first : Draw) (f : DrawingAt → Draw) (c d : ℕ) → ((t : DrawingAt) → DrawGrows (f t))
    → StopsAt s e m (first c d) → StopsAt s' e m ((first >>= f) c d)
stop-draw s s' e m first f c d g =
    Agrees-stop (always {A = Unit {0}} s) (always {A = Unit {0}} s') e m (first c d).outcome (λ t. run_of (f t)) g

stop-value : {A B : Type 0} (h : A → B) (s : DrawingAt) (e : Stop) (m : Meter) (first : Run B) (f : B → Draw) (c d : ℕ)
    → ((x : B) → DrawGrows (f x))
    → Agrees h (Err e) m (first c d) → StopsAt s e m ((first >-> f) c d)
stop-value h s e m first f c d g = Agrees-stop h (always {A = Unit {0}} s) e m (first c d) (λ x. run_of (f x)) g

pub stop-in_order : (go : Draws) → DrawsGrow go → (level : ℕ) (env : Env) (a : ShapeTree) (rest : ShapeTrees) (s s' : DrawingAt) (e : Stop)
    (m : Meter) (c d : ℕ)
    → StopsAt s' e m (go level env a s c d) → StopsAt s' e m (in_order go level env (form a rest) s c d)
stop-in_order go g level env a rest s s' e m c d =
    stop-draw s' s' e m (go level env a s) (in_order go level env rest) c d (grows-in_order go g level env rest)

pub stop-for_each : (go : Draws) → DrawsGrow go → (level : ℕ) (env : Env) (x : List ℕ) (body : ShapeTrees) (v : Data) (ds : List Data)
    (s s' : DrawingAt) (e : Stop) (m : Meter) (c d : ℕ)
    → StopsAt s' e m (in_order go level ((x, v) ∷ env) body s c d) → StopsAt s' e m (for_each go level env x body (v ∷ ds) s c d)
stop-for_each go g level env x body v ds s s' e m c d =
    stop-draw s' s' e m (in_order go level ((x, v) ∷ env) body s) (for_each go level env x body ds) c d
    (grows-for_each go g level env x body ds)

pub stop-draws_in : (value : Go) (go : Draws) → DrawsGrow go → (level : ℕ) (bs : Bindings) (body : ShapeTrees) (env around : Env)
    (s s' : DrawingAt) (e : Stop) (m : Meter) (c d : ℕ)
    → Agrees (λ frame. frame ++ around) (Err e) m (bind_each value level bs env c d)
    → StopsAt s' e m (draws_in value go level bs body env s c d)
stop-draws_in value go g level bs body env around s s' e m c d =
    stop-value (λ frame. frame ++ around) s' e m (bind_each value level bs env) (λ inner. in_order go level inner body s) c d
    (λ inner. grows-in_order go g level inner body s)

-- what could not be set stops the form
pub stop-set : (go : Draws) → DrawsGrow go → (level : ℕ) (env : Env) (body : ShapeTrees) (r : Result DrawingAt ℕ)
    (leave : DrawingAt → DrawingAt)
    (s' s'' : DrawingAt) (e : Stop) (m : Meter)
    → Comes {A = Unit {0}} (always s') (Err e) r → StopsAt s'' e m (within go level env body r leave m.cost m.deepest)
stop-set go g level env body r leave s' s'' (Trap k) m p = rw p refl
stop-set go g level env body r leave s' s'' Memory m p = grows-within go g level env body r leave m.cost m.deepest

pub stop-draws_to : (go : Draws) → (level : ℕ) (env : Env) (body : ShapeTrees) (inner : DrawingAt) (leave : DrawingAt → DrawingAt)
    (s' : DrawingAt) (e : Stop) (m : Meter) (c d : ℕ)
    → StopsAt s' e m (in_order go level env body inner c d) → StopsAt s' e m (draws_to go level env body leave inner c d)
stop-draws_to go level env body inner leave s' e m c d =
    stop-draw s' s' e m (in_order go level env body inner) (λ end. opens_none (give (leave end))) c d (λ end. grows-give (leave end))

abbrev came : DrawingAt → Result DrawingAt ℕ
came s = Ok s

came-same : (s t : DrawingAt) → came s ≡ came t → s ≡ t
came-same s t p = cc

came-trap : (s : DrawingAt) (k : ℕ) → came s ≡ Err k → ⊥
came-trap s k p = cc

-- a body that ended is left, or there was no memory for that
pub left-draws_to : (go : Draws) → (level : ℕ) (env : Env) (body : ShapeTrees) (inner end after : DrawingAt) (leave : DrawingAt → DrawingAt)
    (r : Result (Unit {0}) Stop) (m : Meter) (c d : ℕ)
    → (in_order go level env body inner c d).outcome ≡ Gives end m.cost m.deepest → Comes (always after) r (Ok (leave end))
    → Agrees (always after) r m (draws_to go level env body leave inner c d).outcome
left-draws_to go level env body inner end after leave (Ok u) m c d p q =
    rw p (ap (λ (s : DrawingAt). Gives s m.cost m.deepest) (came-same (leave end) after q))
left-draws_to go level env body inner end after leave (Err (Trap k)) m c d p q = absurd (came-trap (leave end) k q)
left-draws_to go level env body inner end after leave (Err Memory) m c d p q = rw p (omega arith)

-- in each row

pub stop-figure : (scene : Scene) (allowed : Allowance) (value : Go) (text : Texts) (bodies : Bodies) (go : Draws) → (level : ℕ) (env : Env) (figure : Figure) (ts : ExprTrees)
    (s s' : DrawingAt) (e : Stop) (m : Meter) (c d : ℕ)
    → Agrees items_are (Err e) m (each value level env ts [] c d)
    → StopsAt s' e m (shape_parts scene allowed value text bodies go level env (shape.Draw figure ts) s c d)
stop-figure scene allowed value text bodies go level env figure ts s s' e m c d =
    stop-value items_are s' e m (each value level env ts []) (λ ds. opens_none (lift (draw_figure allowed.weight figure ds s))) c d
    (λ ds. grows-lift (draw_figure allowed.weight figure ds s))

pub stop-indent : (scene : Scene) (allowed : Allowance) (value : Go) (text : Texts) (bodies : Bodies) (go : Draws) → DrawsGrow go
    → (level : ℕ) (env : Env) (t : ExprTree) (body : ShapeTrees)
    (s s' : DrawingAt) (e : Stop) (m : Meter) (c d : ℕ)
    → Agrees data_of (Err e) m (value level env t c d) → StopsAt s' e m
    (shape_parts scene allowed value text bodies go level env (shape.Indent t body) s c d)
stop-indent scene allowed value text bodies go g level env t body s s' e m c d =
    stop-value data_of s' e m (value level env t) (λ v. within go level env body (indent v s) (restore_margin s.ambient)) c d
    (λ v. grows-within go g level env body (indent v s) (restore_margin s.ambient))

pub stop-ink : (scene : Scene) (allowed : Allowance) (value : Go) (text : Texts) (bodies : Bodies) (go : Draws) → DrawsGrow go
    → (level : ℕ) (env : Env) (t : ExprTree) (body : ShapeTrees)
    (s s' : DrawingAt) (e : Stop) (m : Meter) (c d : ℕ)
    → Agrees data_of (Err e) m (value level env t c d) → StopsAt s' e m
    (shape_parts scene allowed value text bodies go level env (shape.Ink t body) s c d)
stop-ink scene allowed value text bodies go g level env t body s s' e m c d =
    stop-value data_of s' e m (value level env t) (λ v. within go level env body (set_ink v s) (restore_ink s.ambient)) c d
    (λ v. grows-within go g level env body (set_ink v s) (restore_ink s.ambient))

pub stop-choice : (scene : Scene) (allowed : Allowance) (value : Go) (text : Texts) (bodies : Bodies) (go : Draws) → DrawsGrow go
    → (level : ℕ) (env : Env) (t : ExprTree) (a b : ShapeTree)
    (s s' : DrawingAt) (e : Stop) (m : Meter) (c d : ℕ)
    → Agrees itself (Err e) m (truth_of value level env t c d) → StopsAt s' e m
    (shape_parts scene allowed value text bodies go level env (shape.If t a b) s c d)
stop-choice scene allowed value text bodies go g level env t a b s s' e m c d =
    stop-value itself s' e m (truth_of value level env t) (λ holds. if holds then go level env a s else go level env b s) c d
    (grows-then_form go g level env a b s)

pub stop-when : (scene : Scene) (allowed : Allowance) (value : Go) (text : Texts) (bodies : Bodies) (go : Draws) → DrawsGrow go
    → (level : ℕ) (env : Env) (t : ExprTree) (body : ShapeTrees)
    (s s' : DrawingAt) (e : Stop) (m : Meter) (c d : ℕ)
    → Agrees itself (Err e) m (truth_of value level env t c d) → StopsAt s' e m
    (shape_parts scene allowed value text bodies go level env (shape.When t body) s c d)
stop-when scene allowed value text bodies go g level env t body s s' e m c d =
    stop-value itself s' e m (truth_of value level env t) (λ holds. if holds then in_order go level env body s else opens_none (give s)) c d
    (grows-then_body go g level env body s)

pub stop-dolist : (scene : Scene) (allowed : Allowance) (value : Go) (text : Texts) (bodies : Bodies) (go : Draws) → DrawsGrow go
    → (level : ℕ) (env : Env) (x : List ℕ) (t : ExprTree) (body : ShapeTrees)
    (s s' : DrawingAt) (e : Stop) (m : Meter) (c d : ℕ)
    → Agrees itself (Err e) m (parts_of_list value level env t c d) → StopsAt s' e m
    (shape_parts scene allowed value text bodies go level env (shape.Dolist x t body) s c d)
stop-dolist scene allowed value text bodies go g level env x t body s s' e m c d =
    stop-value itself s' e m (parts_of_list value level env t) (λ ds. for_each go level env x body ds s) c d
    (λ ds. grows-for_each go g level env x body ds s)

pub stop-call : (scene : Scene) (allowed : Allowance) (value : Go) (text : Texts) (bodies : Bodies) (go : Draws) → DrawsGrow go
    → (level : ℕ) (env : Env) (f : List ℕ) (ts : ExprTrees)
    (s s' : DrawingAt) (e : Stop) (m : Meter) (c d : ℕ)
    → Agrees items_are (Err e) m (each value level env ts [] c d)
    → StopsAt s' e m (shape_parts scene allowed value text bodies go level env (shape.Call f ts) s c d)
stop-call scene allowed value text bodies go g level env f ts s s' e m c d =
    stop-value items_are s' e m (each value level env ts []) (λ ds. call_display go level (display_named f scene.app) ds s) c d
    (grows-call_display go g level (display_named f scene.app) s)

pub stop-present : (scene : Scene) (allowed : Allowance) (value : Go) (text : Texts) (bodies : Bodies) → TextsGrow text → (go : Draws)
    → (level : ℕ) (env : Env) (t : ExprTree) (spec : TypeSpecTree) (s s' : DrawingAt) (e : Stop) (m : Meter) (c d : ℕ)
    → Agrees data_of (Err e) m (value level env t c d)
    → StopsAt s' e m (shape_parts scene allowed value text bodies go level env (shape.Present t spec) s c d)
stop-present scene allowed value text bodies h go level env t spec s s' e m c d =
    stop-value data_of s' e m (value level env t)
    (λ v. for_members scene.types.holds spec v (presents_text allowed.weight text level spec s v)) c d
    (grows-presented scene.types.holds spec allowed.weight text h level s)

pub stop-as_presentation : (scene : Scene) (allowed : Allowance) (value : Go) (text : Texts) (bodies : Bodies) (go : Draws) → DrawsGrow go
    → (level : ℕ) (env : Env) (p : PresentationTree) (body : ShapeTrees) (s s' : DrawingAt) (e : Stop) (m : Meter) (c d : ℕ)
    → Agrees data_of (Err e) m (value level env p.object c d)
    → StopsAt s' e m (shape_parts scene allowed value text bodies go level env (shape.AsPresentation p body) s c d)
stop-as_presentation scene allowed value text bodies go g level env p body s s' e m c d =
    stop-value data_of s' e m (value level env p.object)
    (λ v. for_members scene.types.holds p.spec v (presents_body allowed.weight go level env p body s v)) c d
    (grows-body_presented scene.types.holds allowed.weight go g level env p body s)
