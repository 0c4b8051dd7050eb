-- What a display draws keeps to its limits, up to a trap too: neither its cost nor its reach passes them.
use Rattle.std.proofs.Common.{◌≡◌, ℕ, zero, suc, ◌+◌, ◌-◌, ◌≤◌, ◌==◌, Bool, true, false, if◌then◌else◌, List, [], ◌∷◌, length, Option, Some, None}
use Rattle.std.proofs.Common.{Result, arith, refl, ap, subst}
use Rattle.cl_value.specs.Data.{Data}
use Rattle.cl_syntax.specs.ExprTree.{ExprTree, ExprTrees}
use Rattle.cl_syntax.specs.ShapeTree as shape
use Rattle.cl_syntax.specs.ShapeTree.{ShapeTree, ShapeTrees, none, form, shape_trees_of}
use Rattle.cl_syntax.specs.TypeSpecTree.{TypeSpecTree}
use Rattle.cl_syntax.specs.UpdateTree.{UpdateTree}
use Rattle.cl_application.specs.App.{display_named}
use Rattle.cl_application.specs.declared.applications.App.{App}
use Rattle.cl_application.specs.declared.declarations.DisplayDecl.{DisplayDecl}
use Rattle.cl_eval.specs.declared.metering.Limits.{Limits}
use Rattle.cl_eval.specs.Outcome.{Outcome, Gives, Traps, Run, after, cost_of, give, trap, lift}
use Rattle.cl_eval.specs.Slots.{Env, Slots, bind_parameters}
use Rattle.cl_eval.specs.Meaning.{Go, bind_each, each, entering, means, parts_of_list, truth_of}
use Rattle.cl_eval.specs.TypeMeanings.{AreTexts, Presents}
use Rattle.cl_eval.proofs.KeepLemmas.{GoKeeps, Keeps, Kept, keeps-bound, keeps-each, keeps-entering, keeps-give, keeps-lift, keeps-listed, keeps-means}
use Rattle.cl_eval.proofs.KeepLemmas.{keeps-tested, keeps-then}
use Rattle.cl_display.specs.Drawings.{DrawingAt, newline}
use Rattle.cl_display.specs.Figures.{draw_figure}
use Rattle.cl_display.specs.Fresh.{Allowance, Bodies, Draws, Scene, bodies_by, call_display, draws, draws_body, draws_cached, draws_keyed, draws_to, draws_update, for_each}
use Rattle.cl_display.specs.Fresh.{for_members, in_order, left_over, presents_body, presents_text, shape_parts, within}
use Rattle.cl_display.specs.Outcomes.{Draw, opens_none, run_of, ◌>->◌, ◌>>=◌}
use Rattle.cl_display.specs.Presentations.{Texts, count_in, enter_presentation, label_of, leave_presentation, present_text, texts_on, write_value}
use Rattle.cl_display.specs.Settings.{enter_room, indent, leave_room, restore_ink, restore_margin, set_ink}
use Rattle.cl_display.specs.Updates.{KeyAt, cache_of, end_update, enter_body, enter_update, id_of, key_at}

-- bodies that keep to what is allowed to them
abbrev BodiesKeep : Bodies → Type 0
BodiesKeep bodies = (allowed : Allowance) (env : Env) (body : ShapeTrees) (s : DrawingAt) → Kept allowed.budget bodies.depth (bodies.draw allowed env body s).outcome

module _ (budget depth : ℕ) where
  abbrev DrawKeeps : Draw → Type 0
  DrawKeeps m = Keeps budget depth (run_of m)

  abbrev AllKeep : ℕ → Draws → Type 0
  AllKeep level go = (env : Env) (f : ShapeTree) (s : DrawingAt) → DrawKeeps (go level env f s)

  abbrev TextsKeep : ℕ → Texts → Type 0
  TextsKeep level text = (spec : TypeSpecTree) (d : Data) → Keeps budget depth (text level spec d)

  draw-keeps : (m : Draw) (f : DrawingAt → Draw) → DrawKeeps m → ((s : DrawingAt) → DrawKeeps (f s)) → DrawKeeps (m >>= f)
  draw-keeps m f g h = keeps-then budget depth (run_of m) (λ s. run_of (f s)) g h

  value-keeps : {A : Type 0} (m : Run A) (f : A → Draw) → Keeps budget depth m → ((x : A) → DrawKeeps (f x)) → DrawKeeps (m >-> f)
  value-keeps m f g h = keeps-then budget depth m (λ x. run_of (f x)) g h

  lift-keeps : (r : Result DrawingAt ℕ) → DrawKeeps (opens_none (lift r))
  lift-keeps r = keeps-lift budget depth r

  give-keeps : (s : DrawingAt) → DrawKeeps (opens_none (give s))
  give-keeps s c d h k = (h, k)

  trap-keeps : (kind : ℕ) → DrawKeeps (opens_none (trap kind))
  trap-keeps kind c d h k = (h, k)

  choice-keeps : (b : Bool) (m n : Draw) → DrawKeeps m → DrawKeeps n → DrawKeeps (if b then m else n)
  choice-keeps true m n g h = g
  choice-keeps false m n g h = h

  module _ (level : ℕ) (value : Go) (v : GoKeeps budget depth level value) (go : Draws) (g : AllKeep level go) where
    keeps-in_order : (env : Env) (fs : ShapeTrees) (s : DrawingAt) → DrawKeeps (in_order go level env fs s)
    keeps-in_order env none s = give-keeps s
    keeps-in_order env (form f fs) s = draw-keeps (go level env f s) (in_order go level env fs) (g env f s) (keeps-in_order env fs)

    keeps-for_each : (env : Env) (x : List ℕ) (body : ShapeTrees) (ds : List Data) (s : DrawingAt) → DrawKeeps (for_each go level env x body ds s)
    keeps-for_each env x body [] s = give-keeps s
    keeps-for_each env x body (d ∷ ds) s =
        draw-keeps (in_order go level ((x, d) ∷ env) body s) (for_each go level env x body ds) (keeps-in_order ((x, d) ∷ env) body s)
        (keeps-for_each env x body ds)

    keeps-draws_to : (env : Env) (body : ShapeTrees) (leave : DrawingAt → DrawingAt) (s : DrawingAt) → DrawKeeps (draws_to go level env body leave s)
    keeps-draws_to env body leave s =
        draw-keeps (in_order go level env body s) (λ end. opens_none (give (leave end))) (keeps-in_order env body s) (λ end. give-keeps (leave end))

    keeps-within : (env : Env) (body : ShapeTrees) (r : Result DrawingAt ℕ) (leave : DrawingAt → DrawingAt) → DrawKeeps (within go level env body r leave)
    keeps-within env body r leave = value-keeps (lift r) (draws_to go level env body leave) (keeps-lift budget depth r) (keeps-draws_to env body leave)

    keeps-called : (f : Option DisplayDecl) (s : DrawingAt) (ds : List Data) → DrawKeeps (call_display go level f ds s)
    keeps-called None s ds = trap-keeps 1
    keeps-called (Some f) s ds =
        choice-keeps (length ds == length f.parameters) (in_order go level (bind_parameters f.parameters ds) (shape_trees_of f.body) s)
        (opens_none (trap 1)) (keeps-in_order (bind_parameters f.parameters ds) (shape_trees_of f.body) s) (trap-keeps 1)

    -- ---- updates

    keeps-id : (env : Env) (u : UpdateTree) (s : DrawingAt) (t : Option ExprTree) → Keeps budget depth (id_of value level env s.siblings u.site t)
    keeps-id env u s None = λ c d h k. (h, k)
    keeps-id env u s (Some t) = v env t

    keeps-cache : (env : Env) (ts : Option ExprTrees) → Keeps budget depth (cache_of value level env ts)
    keeps-cache env None = keeps-give {A = Option (List Data)} budget depth None
    keeps-cache env (Some ts) =
        keeps-then budget depth (each value level env ts []) (λ ds. give (Some ds)) (keeps-each budget depth value level v env ts [])
        (λ ds. keeps-give budget depth (Some ds))

    keeps-ended : (key : KeyAt) (s : DrawingAt) (left c d : ℕ) (o : Outcome DrawingAt) → depth ≡ level + left → Kept (budget - c) left o
        → c ≤ budget → d ≤ depth → Kept budget depth (end_update key level s o c d)
    keeps-ended key s left c d (Gives t n r) deep p h k = (omega (arith, p.0, h), omega (arith, p.1, k, deep))
    keeps-ended key s left c d (Traps kind n r) deep p h k = (omega (arith, p.0, h), k)

    keeps-update : (allowed : Allowance) → allowed.budget ≡ budget → (bodies : Bodies) → BodiesKeep bodies → depth ≡ level + bodies.depth
        → (env : Env) (u : UpdateTree) (body : ShapeTrees) (s : DrawingAt) → DrawKeeps (draws_update allowed value bodies level env u body s)
    keeps-update allowed paid bodies b deep env u body s =
        value-keeps (id_of value level env s.siblings u.site u.id) (draws_cached allowed value bodies level env u body s) (keeps-id env u s u.id)
        (λ id. value-keeps (cache_of value level env u.cache) (λ cache. draws_keyed allowed bodies level env body s (key_at u id cache)) (keeps-cache env u.cache)
        (λ cache. let key : KeyAt = key_at u id cache in
        value-keeps (lift (enter_update allowed.weight key s)) (draws_body allowed bodies level env body key)
        (keeps-lift budget depth (enter_update allowed.weight key s))
        (λ t c d h k. keeps-ended key t bodies.depth c d (bodies.draw (left_over allowed c t.weight) env body (enter_body t)).outcome deep
        (rw (← paid) (b (left_over allowed c t.weight) env body (enter_body t))) h k)))

    -- ---- the rows

    keeps-shape_parts : (scene : Scene) (allowed : Allowance) → allowed.budget ≡ budget → (text : Texts) → TextsKeep level text
        → (bodies : Bodies) → BodiesKeep bodies → depth ≡ level + bodies.depth
        → (env : Env) (f : ShapeTree) (s : DrawingAt) → DrawKeeps (shape_parts scene allowed value text bodies go level env f s)
    keeps-shape_parts scene allowed paid text h bodies b deep env (shape.WriteText t) s =
        value-keeps (value level env t) (λ d. opens_none (lift (write_value allowed.weight s d))) (v env t) (λ d. lift-keeps (write_value allowed.weight s d))
    keeps-shape_parts scene allowed paid text h bodies b deep env shape.Newline s = lift-keeps (newline s)
    keeps-shape_parts scene allowed paid text h bodies b deep env (shape.Draw figure ts) s =
        value-keeps (each value level env ts []) (λ ds. opens_none (lift (draw_figure allowed.weight figure ds s)))
        (keeps-each budget depth value level v env ts []) (λ ds. lift-keeps (draw_figure allowed.weight figure ds s))
    keeps-shape_parts scene allowed paid text h bodies b deep env (shape.Indent t body) s =
        value-keeps (value level env t) (λ d. within go level env body (indent d s) (restore_margin s.ambient)) (v env t)
        (λ d. keeps-within env body (indent d s) (restore_margin s.ambient))
    keeps-shape_parts scene allowed paid text h bodies b deep env (shape.Ink t body) s =
        value-keeps (value level env t) (λ d. within go level env body (set_ink d s) (restore_ink s.ambient)) (v env t)
        (λ d. keeps-within env body (set_ink d s) (restore_ink s.ambient))
    keeps-shape_parts scene allowed paid text h bodies b deep env (shape.Room body) s = keeps-draws_to env body (leave_room s.ambient s.part) (enter_room s)
    keeps-shape_parts scene allowed paid text h bodies b deep env (shape.Present t spec) s =
        value-keeps (value level env t) (λ d. for_members scene.types.holds spec d (presents_text allowed.weight text level spec s d)) (v env t)
        (λ d. choice-keeps (scene.types.holds d spec) (presents_text allowed.weight text level spec s d) (opens_none (trap 1))
        (value-keeps (text level spec d) (λ x. opens_none (lift (present_text allowed.weight (label_of spec false d) s x))) (h spec d)
        (λ x. lift-keeps (present_text allowed.weight (label_of spec false d) s x))) (trap-keeps 1))
    keeps-shape_parts scene allowed paid text h bodies b deep env (shape.AsPresentation p body) s =
        value-keeps (value level env p.object) (λ d. for_members scene.types.holds p.spec d (presents_body allowed.weight go level env p body s d))
        (v env p.object)
        (λ d. choice-keeps (scene.types.holds d p.spec) (presents_body allowed.weight go level env p body s d) (opens_none (trap 1))
        (keeps-within env body (enter_presentation allowed.weight d s) (leave_presentation (label_of p.spec p.single_box d) s.part)) (trap-keeps 1))
    keeps-shape_parts scene allowed paid text h bodies b deep env (shape.Update u body) s = keeps-update allowed paid bodies b deep env u body s
    keeps-shape_parts scene allowed paid text h bodies b deep env (shape.If t e f) s =
        value-keeps (truth_of value level env t) (λ holds. if holds then go level env e s else go level env f s)
        (keeps-tested budget depth value level v env t)
        (λ holds. choice-keeps holds (go level env e s) (go level env f s) (g env e s) (g env f s))
    keeps-shape_parts scene allowed paid text h bodies b deep env (shape.When t body) s =
        value-keeps (truth_of value level env t) (λ holds. if holds then in_order go level env body s else opens_none (give s))
        (keeps-tested budget depth value level v env t)
        (λ holds. choice-keeps holds (in_order go level env body s) (opens_none (give s)) (keeps-in_order env body s) (give-keeps s))
    keeps-shape_parts scene allowed paid text h bodies b deep env (shape.Let bs body) s =
        value-keeps (bind_each value level bs env) (λ inner. in_order go level inner body s) (keeps-bound budget depth value level v bs env)
        (λ inner. keeps-in_order inner body s)
    keeps-shape_parts scene allowed paid text h bodies b deep env (shape.Dolist x t body) s =
        value-keeps (parts_of_list value level env t) (λ ds. for_each go level env x body ds s) (keeps-listed budget depth value level v env t)
        (λ ds. keeps-for_each env x body ds s)
    keeps-shape_parts scene allowed paid text h bodies b deep env (shape.Progn body) s = keeps-in_order env body s
    keeps-shape_parts scene allowed paid text h bodies b deep env (shape.Call f ts) s =
        value-keeps (each value level env ts []) (λ ds. call_display go level (display_named f scene.app) ds s)
        (keeps-each budget depth value level v env ts []) (keeps-called (display_named f scene.app) s)

-- ---- texts

keeps-counted : (app : App) (presents : Presents) → AreTexts app presents → (limits : Limits) (slots : Slots) (spec : TypeSpecTree) (e : Data)
    (budget level c d : ℕ) (o : Outcome Data) → presents limits slots spec e ≡ o → limits.budget ≡ budget - c → c ≤ budget → d ≤ level + limits.depth
    → Kept budget (level + limits.depth) (count_in level o c d)
keeps-counted app presents texts limits slots spec e budget level c d (Gives x n r) q b h k =
    let paid : n ≤ limits.budget = rw (← ap cost_of q) (texts.paid limits slots spec e) in
    (omega (arith, paid, b, h), omega (arith, k, (texts.texts limits slots spec e x n r q).1))
keeps-counted app presents texts limits slots spec e budget level c d (Traps kind n r) q b h k =
    let paid : n ≤ limits.budget = rw (← ap cost_of q) (texts.paid limits slots spec e) in
    (omega (arith, paid, b, h), k)

keeps-texts : (app : App) (presents : Presents) → AreTexts app presents → (slots : Slots) (budget left level : ℕ)
    → TextsKeep budget (level + left) level (texts_on presents slots budget left)
keeps-texts app presents texts slots budget left level spec e c d h k =
    let limits : Limits = record { budget = budget - c; depth = left } in
    keeps-counted app presents texts limits slots spec e budget level c d (presents limits slots spec e) refl refl h k

-- ---- forms

never-entered : (b : Bool) (m : Draw) (budget depth c d : ℕ) → c ≤ budget → d ≤ depth
    → Kept {A = DrawingAt} budget depth (after (if b then Traps 5 c d else Traps 6 c d) (λ (x : Unit {0}). run_of m))
never-entered true m budget depth c d h k = (h, k)
never-entered false m budget depth c d h k = (h, k)

from_zero : (budget left : ℕ) (o : Outcome DrawingAt) → Kept budget (0 + left) o → Kept budget left o
from_zero budget left o k =
    let none : 0 + left ≡ left = omega arith in
    subst (λ (depth : ℕ). Kept budget depth o) none k

module _ (app : App) (scene : Scene) (texts : AreTexts app scene.types.presents) where
  keeps-draws : (left : ℕ) (allowed : Allowance) (level : ℕ) → AllKeep allowed.budget (level + left) level (draws left allowed scene)
  keeps-draws zero allowed level env f s c d h k = never-entered _ (opens_none (trap 6)) allowed.budget (level + 0) c d h k
  keeps-draws (suc left) allowed level env f s c d h k =
      let deeper : level + 1 + left ≡ level + suc left = omega arith in
      let value = means left allowed.budget scene.app scene.slots in
      let text = texts_on scene.types.presents scene.slots allowed.budget left in
      let go = draws left allowed scene in
      let bodies = bodies_by left (λ inner. draws left inner scene) in
      value-keeps allowed.budget (level + suc left) (entering (suc left) allowed.budget level)
      (λ _. shape_parts scene allowed value text bodies go (level + 1) env f s)
      (keeps-entering (suc left) allowed.budget (level + suc left) level (omega arith))
      (λ _. rw (← deeper) (keeps-shape_parts allowed.budget (level + 1 + left) (level + 1) value
      (keeps-means left allowed.budget scene.app scene.slots (level + 1)) go (keeps-draws left allowed (level + 1)) scene allowed refl text
      (keeps-texts app scene.types.presents texts scene.slots allowed.budget left (level + 1)) bodies
      (λ inner e body t. from_zero inner.budget left (in_order (draws left inner scene) 0 e body t 0 0).outcome
      (keeps-in_order inner.budget (0 + left) 0 value_none (λ e' u i j p q. (p, q)) (draws left inner scene) (keeps-draws left inner 0) e body t 0 0
      (omega arith) (omega arith))) refl env f s)) c d h k
    where
      value_none : Go
      value_none level env t = trap 0

  pub keeps-forms : (left : ℕ) (allowed : Allowance) (env : Env) (forms : ShapeTrees) (s : DrawingAt)
      → Kept allowed.budget left (in_order (draws left allowed scene) 0 env forms s 0 0).outcome
  keeps-forms left allowed env forms s =
      from_zero allowed.budget left (in_order (draws left allowed scene) 0 env forms s 0 0).outcome
      (keeps-in_order allowed.budget (0 + left) 0 (λ level e t. trap 0) (λ e t i j p q. (p, q)) (draws left allowed scene) (keeps-draws left allowed 0) env forms s 0 0
      (omega arith) (omega arith))
