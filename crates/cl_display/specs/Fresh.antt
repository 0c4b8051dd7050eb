-- Evaluation of display forms from nothing: what each form draws, from the drawing so far.
-- Traps, beside those of expressions: 1 an object that is no member of its type, 8 two updates of one site and id at a level, 9 range of
-- coordinates, 10 weight.
use Rattle.std.specs.Prelude.{ℕ, zero, suc, ◌+◌, ◌-◌, ◌==◌, false, if◌then◌else◌, List, [], ◌∷◌, length, Option, Some, None, Result}
use Rattle.cl_value.specs.Data.{Data}
use Rattle.cl_syntax.specs.ExprTree.{Bindings}
use Rattle.cl_syntax.specs.PresentationTree.{PresentationTree}
use Rattle.cl_syntax.specs.ShapeTree as shape
use Rattle.cl_syntax.specs.ShapeTree.{ShapeTree, ShapeTrees, none, form, shape_trees_of}
use Rattle.cl_syntax.specs.TypeSpecTree.{TypeSpecTree}
use Rattle.cl_syntax.specs.UpdateTree.{UpdateTree}
use Rattle.cl_application.specs.App.{display_named}
use Rattle.cl_application.specs.declared.applications.App.{App}
use Rattle.cl_application.specs.declared.declarations.DisplayDecl.{DisplayDecl}
use Rattle.cl_eval.specs.Outcome.{give, trap, lift}
use Rattle.cl_eval.specs.Slots.{Slots, Env, bind_parameters}
use Rattle.cl_eval.specs.Meaning.{Go, bind_each, each, entering, parts_of_list, means, truth_of}
use Rattle.cl_eval.specs.Statements.{Member}
use Rattle.cl_eval.specs.TypeMeanings.{TypeMeanings}
use Rattle.cl_display.specs.Drawings.{DrawingAt, newline}
use Rattle.cl_display.specs.Figures.{draw_figure}
use Rattle.cl_display.specs.Outcomes.{Draw, DrawOutcome, opens_none, ◌>->◌, ◌>>=◌}
use Rattle.cl_display.specs.Presentations.{Texts, enter_presentation, label_of, leave_presentation, present_text, texts_on, write_value}
use Rattle.cl_display.specs.Settings.{enter_room, indent, leave_room, restore_ink, restore_margin, set_ink}
use Rattle.cl_display.specs.Updates.{KeyAt, cache_of, end_update, enter_body, enter_update, id_of, key_at, opening_at}
use Rattle.cl_display.specs.Walks.{OpeningAt, done, met}

-- how many forms may be entered, and how much all marks together may weigh
pub record Allowance : Type 0 where
  pub budget : ℕ
  pub weight : ℕ

-- what a display is drawn of: an application, slots, and what the types of the application say of values
pub record Scene : Type 0 where
  pub app : App
  pub slots : Slots
  pub types : TypeMeanings

-- the meaning of the forms inside, at a level
abbrev pub Draws : Type 0
Draws = ℕ → Env → ShapeTree → DrawingAt → Draw

-- the bodies of updates as draws of their own: where as many levels are left, and with what is allowed to them
pub record Bodies : Type 0 where
  pub depth : ℕ
  pub draw : Allowance → Env → ShapeTrees → DrawingAt → DrawOutcome

-- forms in order, each from the drawing that the ones before it left
abbrev pub in_order : Draws → ℕ → Env → ShapeTrees → DrawingAt → Draw
in_order go level env none s = opens_none (give s)
in_order go level env (form f fs) s = go level env f s >>= in_order go level env fs

-- the forms for each of these values
abbrev pub for_each : Draws → ℕ → Env → List ℕ → ShapeTrees → List Data → DrawingAt → Draw
for_each go level env x body [] s = opens_none (give s)
for_each go level env x body (d ∷ ds) s = in_order go level ((x, d) ∷ env) body s >>= for_each go level env x body ds

-- the forms behind bindings
abbrev pub draws_in : Go → Draws → ℕ → Bindings → ShapeTrees → Env → DrawingAt → Draw
draws_in value go level bs body env s = bind_each value level bs env >-> λ inner. in_order go level inner body s

-- the forms, and what is left behind them
abbrev pub draws_to : Draws → ℕ → Env → ShapeTrees → (DrawingAt → DrawingAt) → DrawingAt → Draw
draws_to go level env body leave s = in_order go level env body s >>= λ end. opens_none (give (leave end))

-- the forms, once this was set for them, and what is left behind them
abbrev pub within : Draws → ℕ → Env → ShapeTrees → Result DrawingAt ℕ → (DrawingAt → DrawingAt) → Draw
within go level env body entered leave = lift entered >-> draws_to go level env body leave

-- a display's forms, where its parameters are all that they see
abbrev pub call_display : Draws → ℕ → Option DisplayDecl → List Data → DrawingAt → Draw
call_display go level None ds s = opens_none (trap 1)
call_display go level (Some f) ds s =
    if length ds == length f.parameters then in_order go level (bind_parameters f.parameters ds) (shape_trees_of f.body) s else opens_none (trap 1)

-- the draw behind, where a value is a member of a type
abbrev pub for_members : Member → TypeSpecTree → Data → Draw → Draw
for_members holds spec d m = if holds d spec then m else opens_none (trap 1)

-- a text that presents a value
abbrev pub presents_text : (most : ℕ) → Texts → ℕ → TypeSpecTree → DrawingAt → Data → Draw
presents_text most text level spec s d = text level spec d >-> λ x. opens_none (lift (present_text most (label_of spec false d) s x))

-- the forms of a body that present a value
abbrev pub presents_body : (most : ℕ) → Draws → ℕ → Env → PresentationTree → ShapeTrees → DrawingAt → Data → Draw
presents_body most go level env p body s d =
    within go level env body (enter_presentation most d s) (leave_presentation (label_of p.spec p.single_box d) s.part)

-- ---- updates

-- what is left of an allowance behind this cost and this weight
abbrev pub left_over : Allowance → (cost weight : ℕ) → Allowance
left_over allowed cost weight = record { budget = allowed.budget - cost; weight = allowed.weight - weight }

-- an update whose body came to this
abbrev pub closes : KeyAt → ℕ → DrawingAt → OpeningAt → DrawOutcome → Draw
closes key level s opening body cost deepest = record { outcome = end_update key level s body.outcome cost deepest; walk = met opening body.walk done }

-- the body of an update that is opened
abbrev pub draws_body : Allowance → Bodies → ℕ → Env → ShapeTrees → KeyAt → DrawingAt → Draw
draws_body allowed bodies level env body key s cost deepest =
    closes key level s (opening_at key s (allowed.budget - cost) (allowed.weight - s.weight) bodies.depth)
    (bodies.draw (left_over allowed cost s.weight) env body (enter_body s)) cost deepest

-- an update with this key
abbrev pub draws_keyed : Allowance → Bodies → ℕ → Env → ShapeTrees → DrawingAt → KeyAt → Draw
draws_keyed allowed bodies level env body s key = lift (enter_update allowed.weight key s) >-> draws_body allowed bodies level env body key

-- an update with this id: its cache, and then the update
abbrev pub draws_cached : Allowance → Go → Bodies → ℕ → Env → UpdateTree → ShapeTrees → DrawingAt → Data → Draw
draws_cached allowed value bodies level env u body s id =
    cache_of value level env u.cache >-> λ cache. draws_keyed allowed bodies level env body s (key_at u id cache)

-- an update: its id first
abbrev pub draws_update : Allowance → Go → Bodies → ℕ → Env → UpdateTree → ShapeTrees → DrawingAt → Draw
draws_update allowed value bodies level env u body s =
    id_of value level env s.siblings u.site u.id >-> draws_cached allowed value bodies level env u body s

-- a form that was entered, by what is allowed and by the meaning of its expressions, of texts, of bodies and of the forms inside
abbrev pub shape_parts : Scene → Allowance → Go → Texts → Bodies → Draws → ℕ → Env → ShapeTree → DrawingAt → Draw
shape_parts scene allowed value text bodies go level env (shape.WriteText t) s =
    value level env t >-> λ d. opens_none (lift (write_value allowed.weight s d))
shape_parts scene allowed value text bodies go level env shape.Newline s = opens_none (lift (newline s))
shape_parts scene allowed value text bodies go level env (shape.Draw figure ts) s =
    each value level env ts [] >-> λ ds. opens_none (lift (draw_figure allowed.weight figure ds s))
shape_parts scene allowed value text bodies go level env (shape.Indent t body) s =
    value level env t >-> λ d. within go level env body (indent d s) (restore_margin s.ambient)
shape_parts scene allowed value text bodies go level env (shape.Ink t body) s =
    value level env t >-> λ d. within go level env body (set_ink d s) (restore_ink s.ambient)
shape_parts scene allowed value text bodies go level env (shape.Room body) s = draws_to go level env body (leave_room s.ambient s.part) (enter_room s)
shape_parts scene allowed value text bodies go level env (shape.Present t spec) s =
    value level env t >-> λ d. for_members scene.types.holds spec d (presents_text allowed.weight text level spec s d)
shape_parts scene allowed value text bodies go level env (shape.AsPresentation p body) s =
    value level env p.object >-> λ d. for_members scene.types.holds p.spec d (presents_body allowed.weight go level env p body s d)
shape_parts scene allowed value text bodies go level env (shape.Update u body) s = draws_update allowed value bodies level env u body s
shape_parts scene allowed value text bodies go level env (shape.If t f g) s =
    truth_of value level env t >-> λ holds. if holds then go level env f s else go level env g s
shape_parts scene allowed value text bodies go level env (shape.When t body) s =
    truth_of value level env t >-> λ holds. if holds then in_order go level env body s else opens_none (give s)
shape_parts scene allowed value text bodies go level env (shape.Let bs body) s = draws_in value go level bs body env s
shape_parts scene allowed value text bodies go level env (shape.Dolist x t body) s = parts_of_list value level env t >-> λ ds. for_each go level env x body ds s
shape_parts scene allowed value text bodies go level env (shape.Progn body) s = in_order go level env body s
shape_parts scene allowed value text bodies go level env (shape.Call f ts) s =
    each value level env ts [] >-> λ ds. call_display go level (display_named f scene.app) ds s

-- bodies as draws of their own, by the meaning of their forms
abbrev pub bodies_by : ℕ → (Allowance → Draws) → Bodies
bodies_by left go = record { depth = left; draw = λ allowed env body s. in_order (go allowed) 0 env body s 0 0 }

-- a form, where so many levels are left, below this level
abbrev pub draws : ℕ → Allowance → Scene → Draws
draws zero allowed scene level env f s = entering 0 allowed.budget level >-> λ _. opens_none (trap 6)
draws (suc left) allowed scene level env f s =
    entering (suc left) allowed.budget level
    >-> λ _. shape_parts scene allowed (means left allowed.budget scene.app scene.slots)
    (texts_on scene.types.presents scene.slots allowed.budget left) (bodies_by left (λ inner. draws left inner scene)) (draws left allowed scene)
    (level + 1) env f s

-- the bodies of updates, where so many levels are left
abbrev pub bodies_on : ℕ → Scene → Bodies
bodies_on left scene = bodies_by left (λ allowed. draws left allowed scene)
