-- A display that ends without a trap under some limits ends so under all limits that its cost, its reach and its weight do not pass.
use Rattle.std.proofs.Common.{◌≡◌, ℕ, zero, suc, ◌+◌, ◌≤◌, ◌==◌, false, if◌then◌else◌, nat_le, List, [], ◌∷◌, length}
use Rattle.std.proofs.Common.{Option, Some, None, Result, Ok, Err, arith, refl}
use Rattle.cl_value.specs.Data.{Data}
use Rattle.cl_syntax.specs.ShapeTree as shape
use Rattle.cl_syntax.specs.ShapeTree.{ShapeTree, ShapeTrees, none, form, shape_trees_of}
use Rattle.cl_application.specs.App.{display_named}
use Rattle.cl_application.specs.declared.declarations.DisplayDecl.{DisplayDecl}
use Rattle.cl_eval.specs.declared.metering.Limits.{Limits}
use Rattle.cl_eval.specs.Outcome.{Outcome, Gives, Traps, after, give, trap, lift}
use Rattle.cl_eval.specs.Slots.{Env, bind_parameters}
use Rattle.cl_eval.specs.Meaning.{Go, bind_each, each, entering, parts_of_list, means, truth_of}
use Rattle.cl_eval.proofs.LimitLemmas.{GoGoes, entered-above, goes-bound, goes-each, goes-entering, goes-listed, goes-means}
use Rattle.cl_eval.proofs.LimitLemmas.{goes-tested, never, no_value}
use Rattle.cl_display.specs.Drawings.{DrawingAt, blank_drawing, newline}
use Rattle.cl_display.specs.Figures.{draw_figure, figure_parts}
use Rattle.cl_display.specs.Settings.{enter_room, indent, leave_room, restore_ink, restore_margin, set_ink}
use Rattle.cl_display.specs.Outcomes.{Draw, opens_none, run_of}
use Rattle.cl_display.specs.Fresh.{Allowance, Draws, call_display, draws, draws_to, for_each, in_order, shape_parts, within}
use Rattle.cl_display.specs.Script.{fresh, whole_allowance}
use Rattle.cl_display.proofs.SumLemmas.{adds-draw_parts, adds-indent, adds-newline, adds-set_ink, adds-write_value}
use Rattle.cl_display.proofs.DisplayLemmas.{adds_up}
use Rattle.cl_eval.specs.TypeMeanings.{AreTexts}
use Rattle.cl_display.proofs.TextLimits.{TextsGo, goes-texts}
use Rattle.cl_display.specs.Fresh.{Scene, for_members, presents_body, presents_text}
use Rattle.cl_display.specs.Presentations.{Texts, enter_presentation, label_of, leave_presentation, present_text, texts_on, write_value}
use Rattle.cl_display.proofs.FormSums.{adds-present_text}
use Rattle.cl_display.proofs.WeightLemmas.{Keeps, Rises, any, keeps-draw_parts, keeps-entered, keeps-present_text, keeps-same, keeps-write_value}
use Rattle.cl_display.proofs.WeightLemmas.{rises-adds, rises-entered}
use Rattle.cl_display.proofs.Widening.{AllWiden, Extends, Widens, widens-choice, widens-from, widens-give, widens-lift, widens-then, widens-trap, widens-value}
use Rattle.cl_display.proofs.UpdateLimits.{BodiesWiden, widens-draws_update}
use Rattle.cl_display.specs.Fresh.{Bodies, bodies_by}

module _ (budget depth most : ℕ) where
  -- ---- the meaning of the forms inside at a level

  module _ (level : ℕ) (value value' : Go) (go go' : Draws) where
    widens-in_order : AllWiden budget depth most level go go' → (env : Env) (fs : ShapeTrees) (s : DrawingAt)
        → Widens budget depth most s (in_order go level env fs s) (in_order go' level env fs s)
    widens-in_order g env none s = widens-give budget depth most s s refl
    widens-in_order g env (form f fs) s =
        widens-then budget depth most s (go level env f s) (go' level env f s) (in_order go level env fs) (in_order go' level env fs) (g env f s)
        (widens-in_order g env fs)

    widens-for_each : AllWiden budget depth most level go go' → (env : Env) (x : List ℕ) (body : ShapeTrees) (ds : List Data)
        (s : DrawingAt)
        → Widens budget depth most s (for_each go level env x body ds s) (for_each go' level env x body ds s)
    widens-for_each g env x body [] s = widens-give budget depth most s s refl
    widens-for_each g env x body (d ∷ ds) s =
        widens-then budget depth most s (in_order go level ((x, d) ∷ env) body s) (in_order go' level ((x, d) ∷ env) body s)
        (for_each go level env x body ds) (for_each go' level env x body ds) (widens-in_order g ((x, d) ∷ env) body s)
        (widens-for_each g env x body ds)

    widens-draws_to : AllWiden budget depth most level go go' → (env : Env) (body : ShapeTrees) (leave : DrawingAt → DrawingAt)
        → ((t : DrawingAt) → (leave t).weight ≡ t.weight) → (s : DrawingAt)
        → Widens budget depth most s (draws_to go level env body leave s) (draws_to go' level env body leave s)
    widens-draws_to g env body leave e s =
        widens-then budget depth most s (in_order go level env body s) (in_order go' level env body s) (λ end. opens_none (give (leave end)))
        (λ end. opens_none (give (leave end)))
        (widens-in_order g env body s) (λ end. widens-give budget depth most end (leave end) (e end))

    widens-within : AllWiden budget depth most level go go' → (env : Env) (body : ShapeTrees) (s : DrawingAt) (r : Result DrawingAt ℕ)
        (leave : DrawingAt → DrawingAt)
        → Rises s r → ((t : DrawingAt) → (leave t).weight ≡ t.weight)
        → Widens budget depth most s (within go level env body r leave) (within go' level env body r leave)
    widens-within g env body s (Ok inner) leave h e =
        widens-from budget depth most s inner (draws_to go level env body leave inner) (draws_to go' level env body leave inner) h
        (widens-draws_to g env body leave e inner)
    widens-within g env body s (Err k) leave h e = widens-trap budget depth most s k

    -- the same where what is set weighs more or less
    widens-entered : AllWiden budget depth most level go go' → (env : Env) (body : ShapeTrees) (s : DrawingAt) (r r' : Result DrawingAt ℕ)
        (leave : DrawingAt → DrawingAt)
        → Rises s r → Keeps most r r' → ((t : DrawingAt) → (leave t).weight ≡ t.weight)
        → Widens budget depth most s (within go level env body r leave) (within go' level env body r' leave)
    widens-entered g env body s (Ok u) r' leave h k e c d t n l p =
        let inner = widens-draws_to g env body leave e u c d t n l p in
        record {
          cost = inner.cost;
          deepest = inner.deepest;
          weight = omega (arith, h, inner.weight);
          same = λ cheap shallow light.
              let goes : r' ≡ Ok u = k u refl (omega (arith, light, inner.weight)) in
              rw goes (inner.same cheap shallow light);
        }
    widens-entered g env body s (Err i) r' leave h k e c d t n l p = absurd (no_value i c d t n l p)

    widens-call_display : AllWiden budget depth most level go go' → (f : Option DisplayDecl) (s : DrawingAt) (ds : List Data)
        → Widens budget depth most s (call_display go level f ds s) (call_display go' level f ds s)
    widens-call_display g None s ds = widens-trap budget depth most s 1
    widens-call_display g (Some f) s ds =
        widens-choice budget depth most s (length ds == length f.parameters) (in_order go level (bind_parameters f.parameters ds) (shape_trees_of f.body) s)
        (in_order go' level (bind_parameters f.parameters ds) (shape_trees_of f.body) s) (opens_none (trap 1)) (opens_none (trap 1))
        (widens-in_order g (bind_parameters f.parameters ds) (shape_trees_of f.body) s) (widens-trap budget depth most s 1)

    -- ---- the rows

    widens-shape_parts : (scene : Scene) (allowed allowed' : Allowance) → allowed'.budget ≡ budget → allowed'.weight ≡ most → GoGoes budget depth level value value'
        → (text text' : Texts) → TextsGo budget depth level text text'
        → (bodies bodies' : Bodies) → BodiesWiden bodies bodies' → depth ≡ level + bodies'.depth → AllWiden budget depth most level go go'
        → (env : Env) (f : ShapeTree) (s : DrawingAt)
        → Widens budget depth most s (shape_parts scene allowed value text bodies go level env f s)
        (shape_parts scene allowed' value' text' bodies' go' level env f s)
    widens-shape_parts scene allowed allowed' paid w v text text' h bodies bodies' b deep g env (shape.WriteText t) s =
        widens-value budget depth most s (value level env t) (value' level env t) (λ d. opens_none (lift (write_value allowed.weight s d)))
        (λ d. opens_none (lift (write_value allowed'.weight s d))) (v env t)
        (λ d. rw w (widens-lift budget depth most s (write_value allowed.weight s d) (write_value most s d)
        (rises-adds allowed.weight s (write_value allowed.weight s d)
        (adds-write_value allowed.weight any s d)) (keeps-write_value most allowed.weight s d)))
    widens-shape_parts scene allowed allowed' paid w v text text' h bodies bodies' b deep g env shape.Newline s =
        widens-lift budget depth most s (newline s) (newline s) (rises-adds 0 s (newline s) (adds-newline 0 any s)) (keeps-same most (newline s))
    widens-shape_parts scene allowed allowed' paid w v text text' h bodies bodies' b deep g env (shape.Draw figure ts) s =
        widens-value budget depth most s (each value level env ts []) (each value' level env ts [])
        (λ ds. opens_none (lift (draw_figure allowed.weight figure ds s)))
        (λ ds. opens_none (lift (draw_figure allowed'.weight figure ds s))) (goes-each budget depth value value' level v env ts [])
        (λ ds. rw w (widens-lift budget depth most s (draw_figure allowed.weight figure ds s) (draw_figure most figure ds s)
        (rises-adds allowed.weight s (draw_figure allowed.weight figure ds s)
        (adds-draw_parts allowed.weight any (figure_parts figure ds) s)) (keeps-draw_parts most allowed.weight (figure_parts figure ds) s)))
    widens-shape_parts scene allowed allowed' paid w v text text' h bodies bodies' b deep g env (shape.Indent t body) s =
        widens-value budget depth most s (value level env t) (value' level env t) (λ d. within go level env body (indent d s) (restore_margin s.ambient))
        (λ d. within go' level env body (indent d s) (restore_margin s.ambient)) (v env t)
        (λ d. widens-within g env body s (indent d s) (restore_margin s.ambient) (rises-adds 0 s (indent d s) (adds-indent 0 any d s))
        (λ end. refl))
    widens-shape_parts scene allowed allowed' paid w v text text' h bodies bodies' b deep g env (shape.Ink t body) s =
        widens-value budget depth most s (value level env t) (value' level env t) (λ d. within go level env body (set_ink d s) (restore_ink s.ambient))
        (λ d. within go' level env body (set_ink d s) (restore_ink s.ambient)) (v env t)
        (λ d. widens-within g env body s (set_ink d s) (restore_ink s.ambient) (rises-adds 0 s (set_ink d s) (adds-set_ink 0 any d s))
        (λ end. refl))
    widens-shape_parts scene allowed allowed' paid w v text text' h bodies bodies' b deep g env (shape.Room body) s =
        let leave = leave_room s.ambient s.part in
        widens-from budget depth most s (enter_room s) (draws_to go level env body leave (enter_room s)) (draws_to go' level env body leave (enter_room s))
        (omega arith)
        (widens-draws_to g env body leave (λ end. refl) (enter_room s))
    widens-shape_parts scene allowed allowed' paid w v text text' h bodies bodies' b deep g env (shape.Present t spec) s =
        widens-value budget depth most s (value level env t) (value' level env t)
        (λ d. for_members scene.types.holds spec d (presents_text allowed.weight text level spec s d))
        (λ d. for_members scene.types.holds spec d (presents_text allowed'.weight text' level spec s d)) (v env t)
        (λ d. rw w (widens-choice budget depth most s (scene.types.holds d spec) (presents_text allowed.weight text level spec s d)
        (presents_text most text' level spec s d) (opens_none (trap 1)) (opens_none (trap 1))
        (widens-value budget depth most s (text level spec d) (text' level spec d)
        (λ x. opens_none (lift (present_text allowed.weight (label_of spec false d) s x)))
        (λ x. opens_none (lift (present_text most (label_of spec false d) s x))) (h spec d)
        (λ x. widens-lift budget depth most s (present_text allowed.weight (label_of spec false d) s x) (present_text most (label_of spec false d) s x)
        (rises-adds allowed.weight s (present_text allowed.weight (label_of spec false d) s x)
        (adds-present_text allowed.weight any (label_of spec false d) s x refl)) (keeps-present_text most allowed.weight (label_of spec false d) s x)))
        (widens-trap budget depth most s 1)))
    widens-shape_parts scene allowed allowed' paid w v text text' h bodies bodies' b deep g env (shape.AsPresentation p body) s =
        widens-value budget depth most s (value level env p.object) (value' level env p.object)
        (λ d. for_members scene.types.holds p.spec d (presents_body allowed.weight go level env p body s d))
        (λ d. for_members scene.types.holds p.spec d (presents_body allowed'.weight go' level env p body s d)) (v env p.object)
        (λ d. rw w (widens-choice budget depth most s (scene.types.holds d p.spec) (presents_body allowed.weight go level env p body s d)
        (presents_body most go' level env p body s d) (opens_none (trap 1)) (opens_none (trap 1))
        (widens-entered g env body s (enter_presentation allowed.weight d s) (enter_presentation most d s)
        (leave_presentation (label_of p.spec p.single_box d) s.part) (rises-entered allowed.weight d s) (keeps-entered most allowed.weight d s)
        (λ end. refl)) (widens-trap budget depth most s 1)))
    widens-shape_parts scene allowed allowed' paid w v text text' h bodies bodies' b deep g env (shape.Update u body) s =
        widens-draws_update budget depth most allowed allowed' paid w level value value' v bodies bodies' b deep env u body s
    widens-shape_parts scene allowed allowed' paid w v text text' h bodies bodies' b deep g env (shape.If t e f) s =
        widens-value budget depth most s (truth_of value level env t) (truth_of value' level env t)
        (λ holds. if holds then go level env e s else go level env f s)
        (λ holds. if holds then go' level env e s else go' level env f s) (goes-tested budget depth value value' level v env t)
        (λ holds. widens-choice budget depth most s holds (go level env e s) (go' level env e s) (go level env f s) (go' level env f s) (g env e s)
        (g env f s))
    widens-shape_parts scene allowed allowed' paid w v text text' h bodies bodies' b deep g env (shape.When t body) s =
        widens-value budget depth most s (truth_of value level env t) (truth_of value' level env t)
        (λ holds. if holds then in_order go level env body s else opens_none (give s))
        (λ holds. if holds then in_order go' level env body s else opens_none (give s))
        (goes-tested budget depth value value' level v env t)
        (λ holds. widens-choice budget depth most s holds (in_order go level env body s) (in_order go' level env body s) (opens_none (give s))
        (opens_none (give s))
        (widens-in_order g env body s) (widens-give budget depth most s s refl))
    widens-shape_parts scene allowed allowed' paid w v text text' h bodies bodies' b deep g env (shape.Let bs body) s =
        widens-value budget depth most s (bind_each value level bs env) (bind_each value' level bs env) (λ inner. in_order go level inner body s)
        (λ inner. in_order go' level inner body s)
        (goes-bound budget depth value value' level v bs env) (λ inner. widens-in_order g inner body s)
    widens-shape_parts scene allowed allowed' paid w v text text' h bodies bodies' b deep g env (shape.Dolist x t body) s =
        widens-value budget depth most s (parts_of_list value level env t) (parts_of_list value' level env t) (λ ds. for_each go level env x body ds s)
        (λ ds. for_each go' level env x body ds s)
        (goes-listed budget depth value value' level v env t) (λ ds. widens-for_each g env x body ds s)
    widens-shape_parts scene allowed allowed' paid w v text text' h bodies bodies' b deep g env (shape.Progn body) s = widens-in_order g env body s
    widens-shape_parts scene allowed allowed' paid w v text text' h bodies bodies' b deep g env (shape.Call f ts) s =
        widens-value budget depth most s (each value level env ts []) (each value' level env ts []) (λ ds. call_display go level (display_named f scene.app) ds s)
        (λ ds. call_display go' level (display_named f scene.app) ds s) (goes-each budget depth value value' level v env ts [])
        (widens-call_display g (display_named f scene.app) s)

-- ---- forms

-- below the depth nothing is reached
extends-deep : (budget most : ℕ) (s : DrawingAt) (first second : Draw) (b w level k : ℕ) (c d : ℕ) (o : Outcome (Unit {0}))
    → ((i j : ℕ) → o ≡ Gives tt i j → (c ≤ i) × (d ≤ j) × (level + 1 ≤ j)) → Widens b k w s first first
    → (t : DrawingAt) (n l : ℕ) → after o (λ _. run_of first) ≡ Gives t n l → Extends budget (level + 0) most second s c d t n l
extends-deep budget most s first second b w level k c d (Gives x i j) above g t n l p =
    let entered = above i j refl in
    let rest = g i j t n l p in
    record {
      cost = omega (arith, entered.0, rest.cost);
      deepest = omega (arith, entered.1, rest.deepest);
      weight = rest.weight;
      same = λ cheap shallow light. absurd (omega (arith, entered.2, rest.deepest, shallow));
    }
extends-deep budget most s first second b w level k c d (Traps e i j) above g t n l p = absurd (no_value e i j t n l p)

-- bodies whose forms end so
widens-bodies : (left left' : ℕ) (go go' : Allowance → Draws)
    → ((allowed allowed' : Allowance) → AllWiden allowed'.budget (0 + left') allowed'.weight 0 (go allowed) (go' allowed'))
    → BodiesWiden (bodies_by left go) (bodies_by left' go')
widens-bodies left left' go go' g allowed allowed' env body s u n r p cheap shallow light =
    (widens-in_order allowed'.budget (0 + left') allowed'.weight 0 no_value_of no_value_of (go allowed) (go' allowed') (g allowed allowed') env body s 0 0 u n r p).same
    cheap (omega (arith, shallow)) light
  where
    no_value_of : Go
    no_value_of level env t = trap 0

module _ (scene : Scene) (texts : AreTexts scene.app scene.types.presents) where
  widens-draws : (left left' : ℕ) (allowed allowed' : Allowance) (level : ℕ)
      → AllWiden allowed'.budget (level + left') allowed'.weight level (draws left allowed scene) (draws left' allowed' scene)
  widens-draws zero left' allowed allowed' level env f s c d t n l p = absurd (never (entering 0 allowed.budget level c d) t n l p)
  widens-draws (suc left) zero allowed allowed' level env f s c d t n l p =
      let value = means left allowed.budget scene.app scene.slots in
      let text = texts_on scene.types.presents scene.slots allowed.budget left in
      let go = draws left allowed scene in
      let bodies = bodies_by left (λ inner. draws left inner scene) in
      let inside = shape_parts scene allowed value text bodies go (level + 1) env f s in
      extends-deep allowed'.budget allowed'.weight s inside (draws zero allowed' scene level env f s) allowed.budget allowed.weight level
      (level + 1 + left) c d
      (entering (suc left) allowed.budget level c d) (entered-above (nat_le allowed.budget c) (suc left == 0) level c d)
      (widens-shape_parts allowed.budget (level + 1 + left) allowed.weight (level + 1) value value go go scene allowed allowed refl refl
      (goes-means left allowed.budget left allowed.budget scene.app scene.slots (level + 1)) text text
      (goes-texts scene.app scene.types.presents texts scene.slots allowed.budget allowed.budget left left (level + 1)) bodies bodies
      (widens-bodies left left (λ inner. draws left inner scene) (λ inner. draws left inner scene) (λ inner inner'. widens-draws left left inner inner' 0)) refl
      (widens-draws left left allowed allowed (level + 1)) env f s) t n l p
  widens-draws (suc left) (suc left') allowed allowed' level env f s c d t n l p =
      let deeper : level + 1 + left' ≡ level + suc left' = omega arith in
      let value = means left allowed.budget scene.app scene.slots in
      let value' = means left' allowed'.budget scene.app scene.slots in
      let text = texts_on scene.types.presents scene.slots allowed.budget left in
      let text' = texts_on scene.types.presents scene.slots allowed'.budget left' in
      let go = draws left allowed scene in
      let go' = draws left' allowed' scene in
      let bodies = bodies_by left (λ inner. draws left inner scene) in
      let bodies' = bodies_by left' (λ inner. draws left' inner scene) in
      widens-value allowed'.budget (level + suc left') allowed'.weight s (entering (suc left) allowed.budget level)
      (entering (suc left') allowed'.budget level)
      (λ _. shape_parts scene allowed value text bodies go (level + 1) env f s) (λ _. shape_parts scene allowed' value' text' bodies' go' (level + 1) env f s)
      (goes-entering (suc left) allowed.budget (suc left') allowed'.budget level)
      (λ _. rw (← deeper) (widens-shape_parts allowed'.budget (level + 1 + left') allowed'.weight (level + 1) value value' go go' scene allowed
      allowed' refl refl
      (goes-means left allowed.budget left' allowed'.budget scene.app scene.slots (level + 1)) text text'
      (goes-texts scene.app scene.types.presents texts scene.slots allowed.budget allowed'.budget left left' (level + 1)) bodies bodies'
      (widens-bodies left left' (λ inner. draws left inner scene) (λ inner. draws left' inner scene) (λ inner inner'. widens-draws left left' inner inner' 0)) refl
      (widens-draws left left' allowed allowed' (level + 1)) env f s)) c d t n l p

pub widens-forms : (left more : ℕ) (allowed wider : Allowance) (scene : Scene) → AreTexts scene.app scene.types.presents
    → (level : ℕ) (env : Env) (forms : ShapeTrees) (s end : DrawingAt) (cost deepest c d : ℕ)
    → (in_order (draws left allowed scene) level env forms s cost deepest).outcome ≡ Gives end c d
    → c ≤ wider.budget → d ≤ level + more → end.weight ≤ wider.weight
    → (in_order (draws more wider scene) level env forms s cost deepest).outcome ≡ Gives end c d
widens-forms left more allowed wider scene texts level env forms s end cost deepest c d p =
    (widens-in_order wider.budget (level + more) wider.weight level (means left allowed.budget scene.app scene.slots)
    (means more wider.budget scene.app scene.slots)
    (draws left allowed scene) (draws more wider scene) (widens-draws scene texts left more allowed wider level) env forms s cost
    deepest end c d p).same

pub widens-fresh : (limits wider : Limits) (scene : Scene) → AreTexts scene.app scene.types.presents
    → (forms : List ShapeTree) (env : Env) (s : DrawingAt) (cost reach : ℕ)
    → (fresh limits scene forms env).outcome ≡ Gives s cost reach → cost ≤ wider.budget → reach ≤ wider.depth
    → (fresh wider scene forms env).outcome ≡ Gives s cost reach
unfolding fresh
widens-fresh limits wider scene texts forms env s cost reach p cheap shallow =
    let within : reach ≤ 0 + wider.depth = omega (arith, shallow) in
    widens-forms limits.depth wider.depth (whole_allowance limits) (whole_allowance wider) scene texts 0 env (shape_trees_of forms)
    blank_drawing s 0 0 cost reach p
    cheap within (adds_up limits scene forms env s cost reach p).light
