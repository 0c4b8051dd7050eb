-- The rows of display forms open no update of one site and id twice at a level.
use Rattle.std.proofs.Common.{◌≡◌, refl, ℕ, zero, suc, ◌+◌, ◌==◌, false, if◌then◌else◌, List, [], ◌∷◌, length, Option, Some, None, Result, Ok}
use Rattle.cl_value.specs.Data.{Data}
use Rattle.cl_syntax.specs.ShapeTree as shape
use Rattle.cl_syntax.specs.ShapeTree.{ShapeTree, ShapeTrees, none, form, shape_trees_of}
use Rattle.cl_syntax.specs.UpdateTree.{UpdateTree}
use Rattle.cl_application.specs.App.{display_named}
use Rattle.cl_application.specs.declared.declarations.DisplayDecl.{DisplayDecl}
use Rattle.cl_eval.specs.Meaning.{Go, bind_each, each, entering, means, parts_of_list, truth_of}
use Rattle.cl_eval.specs.Outcome.{give, lift, trap}
use Rattle.cl_eval.specs.Slots.{Env, bind_parameters}
use Rattle.cl_eval.specs.declared.metering.Limits.{Limits}
use Rattle.cl_display.specs.Drawings.{DrawingAt, blank_drawing, newline}
use Rattle.cl_display.specs.Figures.{draw_figure, figure_parts}
use Rattle.cl_display.specs.Fresh.{Allowance, Bodies, Draws, Scene, bodies_on, call_display, draws, draws_cached, draws_keyed, draws_to, draws_update, for_each}
use Rattle.cl_display.specs.Fresh.{for_members, in_order, presents_body, presents_text, shape_parts, within}
use Rattle.cl_display.specs.Outcomes.{opens_none}
use Rattle.cl_display.specs.Presentations.{Texts, enter_presentation, label_of, leave_presentation, present_text, texts_on, write_value}
use Rattle.cl_display.specs.Script.{fresh, whole_allowance}
use Rattle.cl_display.specs.Settings.{enter_room, indent, leave_room, restore_ink, restore_margin, set_ink}
use Rattle.cl_display.specs.Updates.{cache_of, id_of, key_at}
use Rattle.cl_reuse.specs.Once.{OpensOnce}
use Rattle.cl_reuse.proofs.OnceForms.{BodyOpens, RunOpens, StepStays, figure-stays, indent-stays, ink-stays, newline-stays, opens-choice, opens-give, opens-keyed}
use Rattle.cl_reuse.proofs.OnceForms.{opens-lift, opens-once, opens-set, opens-then, opens-trap, opens-value, present_text-stays, presentation-stays, value-stays}

abbrev pub AllOpen : ℕ → Draws → Type 0
AllOpen level go = (env : Env) (f : ShapeTree) (s : DrawingAt) → RunOpens s.siblings (go level env f s)

module _ (go : Draws) (level : ℕ) (g : AllOpen level go) where
  opens-order : (env : Env) (fs : ShapeTrees) (s : DrawingAt) → RunOpens s.siblings (in_order go level env fs s)
  opens-order env none s = opens-give s
  opens-order env (form f fs) s =
      opens-then s.siblings (go level env f s) (in_order go level env fs) (g env f s) (λ t. opens-order env fs t)

  opens-each : (env : Env) (x : List ℕ) (body : ShapeTrees) (ds : List Data) (s : DrawingAt) → RunOpens s.siblings (for_each go level env x body ds s)
  opens-each env x body [] s = opens-give s
  opens-each env x body (d ∷ ds) s =
      opens-then s.siblings (in_order go level ((x, d) ∷ env) body s) (for_each go level env x body ds) (opens-order ((x, d) ∷ env) body s)
      (opens-each env x body ds)

  opens-to : (env : Env) (body : ShapeTrees) (leave : DrawingAt → DrawingAt) → ((t : DrawingAt) → (leave t).siblings ≡ t.siblings) → (s : DrawingAt)
      → RunOpens s.siblings (draws_to go level env body leave s)
  opens-to env body leave e s =
      opens-then s.siblings (in_order go level env body s) (λ end. opens_none (give (leave end))) (opens-order env body s)
      (λ t. opens-lift t.siblings (Ok (leave t)) (e t))

  opens-within : (env : Env) (body : ShapeTrees) (s : DrawingAt) (r : Result DrawingAt ℕ) (leave : DrawingAt → DrawingAt) → StepStays s.siblings r
      → ((t : DrawingAt) → (leave t).siblings ≡ t.siblings) → RunOpens s.siblings (within go level env body r leave)
  opens-within env body s r leave h e = opens-set s.siblings r (draws_to go level env body leave) h (opens-to env body leave e)

  opens-called : (f : Option DisplayDecl) (ds : List Data) (s : DrawingAt) → RunOpens s.siblings (call_display go level f ds s)
  opens-called None ds s = opens-trap s.siblings 1
  opens-called (Some f) ds s =
      opens-choice s.siblings (length ds == length f.parameters) (in_order go level (bind_parameters f.parameters ds) (shape_trees_of f.body) s)
      (opens_none (trap 1)) (opens-order (bind_parameters f.parameters ds) (shape_trees_of f.body) s) (opens-trap s.siblings 1)

module _ (scene : Scene) where
  module _ (left : ℕ) (below : (allowed : Allowance) (level : ℕ) → AllOpen level (draws left allowed scene)) (allowed : Allowance) (level : ℕ) where
    opens-bodies : (env : Env) (body : ShapeTrees) → BodyOpens (bodies_on left scene) env body
    opens-bodies env body inner s = (opens-order (draws left inner scene) 0 (below inner 0) env body s 0 0).once

    -- the meanings there
    abbrev value : Go
    value = means left allowed.budget scene.app scene.slots

    abbrev text : Texts
    text = texts_on scene.types.presents scene.slots allowed.budget left

    abbrev bodies : Bodies
    bodies = bodies_on left scene

    abbrev go : Draws
    go = draws left allowed scene

    g : AllOpen level go
    g = below allowed level

    opens-update : (env : Env) (u : UpdateTree) (body : ShapeTrees) (s : DrawingAt)
        → RunOpens s.siblings (draws_update allowed value bodies level env u body s)
    opens-update env u body s =
        opens-value s.siblings (id_of value level env s.siblings u.site u.id) (draws_cached allowed value bodies level env u body s)
        (λ id. opens-value s.siblings (cache_of value level env u.cache) (λ cache. draws_keyed allowed bodies level env body s (key_at u id cache))
        (λ cache. opens-keyed allowed bodies level env body (key_at u id cache) (opens-bodies env body) s))

    -- one row after another
    opens-rows : (env : Env) (f : ShapeTree) (s : DrawingAt) → RunOpens s.siblings (shape_parts scene allowed value text bodies go level env f s)
    opens-rows env (shape.WriteText t) s =
        opens-value s.siblings (value level env t) (λ d. opens_none (lift (write_value allowed.weight s d)))
        (λ d. opens-lift s.siblings (write_value allowed.weight s d) (value-stays allowed.weight s d))
    opens-rows env shape.Newline s = opens-lift s.siblings (newline s) (newline-stays s)
    opens-rows env (shape.Draw figure ts) s =
        opens-value s.siblings (each value level env ts []) (λ ds. opens_none (lift (draw_figure allowed.weight figure ds s)))
        (λ ds. opens-lift s.siblings (draw_figure allowed.weight figure ds s) (figure-stays allowed.weight (figure_parts figure ds) s))
    opens-rows env (shape.Indent t body) s =
        opens-value s.siblings (value level env t) (λ d. within go level env body (indent d s) (restore_margin s.ambient))
        (λ d. opens-within go level g env body s (indent d s) (restore_margin s.ambient) (indent-stays s d) (λ x. refl))
    opens-rows env (shape.Ink t body) s =
        opens-value s.siblings (value level env t) (λ d. within go level env body (set_ink d s) (restore_ink s.ambient))
        (λ d. opens-within go level g env body s (set_ink d s) (restore_ink s.ambient) (ink-stays s d) (λ x. refl))
    opens-rows env (shape.Room body) s = opens-to go level g env body (leave_room s.ambient s.part) (λ x. refl) (enter_room s)
    opens-rows env (shape.Present t spec) s =
        opens-value s.siblings (value level env t) (λ d. for_members scene.types.holds spec d (presents_text allowed.weight text level spec s d))
        (λ d. opens-choice s.siblings (scene.types.holds d spec) (presents_text allowed.weight text level spec s d) (opens_none (trap 1))
        (opens-value s.siblings (text level spec d) (λ x. opens_none (lift (present_text allowed.weight (label_of spec false d) s x)))
        (λ x. opens-lift s.siblings (present_text allowed.weight (label_of spec false d) s x)
        (present_text-stays allowed.weight (label_of spec false d) s x)))
        (opens-trap s.siblings 1))
    opens-rows env (shape.AsPresentation p body) s =
        opens-value s.siblings (value level env p.object) (λ d. for_members scene.types.holds p.spec d (presents_body allowed.weight go level env p body s d))
        (λ d. opens-choice s.siblings (scene.types.holds d p.spec) (presents_body allowed.weight go level env p body s d) (opens_none (trap 1))
        (opens-within go level g env body s (enter_presentation allowed.weight d s) (leave_presentation (label_of p.spec p.single_box d) s.part)
        (presentation-stays allowed.weight d s) (λ x. refl))
        (opens-trap s.siblings 1))
    opens-rows env (shape.Update u body) s = opens-update env u body s
    opens-rows env (shape.If t e f) s =
        opens-value s.siblings (truth_of value level env t) (λ holds. if holds then go level env e s else go level env f s)
        (λ holds. opens-choice s.siblings holds (go level env e s) (go level env f s) (g env e s) (g env f s))
    opens-rows env (shape.When t body) s =
        opens-value s.siblings (truth_of value level env t) (λ holds. if holds then in_order go level env body s else opens_none (give s))
        (λ holds. opens-choice s.siblings holds (in_order go level env body s) (opens_none (give s)) (opens-order go level g env body s) (opens-give s))
    opens-rows env (shape.Let bs body) s =
        opens-value s.siblings (bind_each value level bs env) (λ inner. in_order go level inner body s) (λ inner. opens-order go level g inner body s)
    opens-rows env (shape.Dolist x t body) s =
        opens-value s.siblings (parts_of_list value level env t) (λ ds. for_each go level env x body ds s) (λ ds. opens-each go level g env x body ds s)
    opens-rows env (shape.Progn body) s = opens-order go level g env body s
    opens-rows env (shape.Call f ts) s =
        opens-value s.siblings (each value level env ts []) (λ ds. call_display go level (display_named f scene.app) ds s)
        (λ ds. opens-called go level g (display_named f scene.app) ds s)

  opens-draws : (left : ℕ) (allowed : Allowance) (level : ℕ) → AllOpen level (draws left allowed scene)
  opens-draws zero allowed level env f s =
      opens-value s.siblings (entering 0 allowed.budget level) (λ _. opens_none (trap 6)) (λ _. opens-trap s.siblings 6)
  opens-draws (suc left) allowed level env f s =
      opens-value s.siblings (entering (suc left) allowed.budget level)
      (λ _. shape_parts scene allowed (means left allowed.budget scene.app scene.slots) (texts_on scene.types.presents scene.slots allowed.budget left)
      (bodies_on left scene) (draws left allowed scene) (level + 1) env f s)
      (λ _. opens-rows left (opens-draws left) allowed (level + 1) env f s)

-- a display opens none twice
pub display-once : (limits : Limits) (scene : Scene) (forms : List ShapeTree) (env : Env) → OpensOnce (fresh limits scene forms env).walk
unfolding fresh
display-once limits scene forms env =
    opens-once (in_order (draws limits.depth (whole_allowance limits) scene) 0 env (shape_trees_of forms) blank_drawing 0 0).walk []
    (opens-order (draws limits.depth (whole_allowance limits) scene) 0 (opens-draws scene limits.depth (whole_allowance limits) 0) env
    (shape_trees_of forms) blank_drawing 0 0).once
