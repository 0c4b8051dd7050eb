-- Display forms elsewhere: where they end under some limits, and the end fits, they end elsewhere too, under others, with all that was drawn moved.
use Rattle.std.proofs.Common.{◌≡◌, ℕ, zero, suc, ◌+◌, ◌≤◌, ◌==◌, false, if◌then◌else◌, nat_le, List, [], ◌∷◌, length}
use Rattle.std.proofs.Common.{Option, Some, None, Result, Ok, arith, refl}
use Rattle.cl_value.specs.Data.{Data}
use Rattle.cl_syntax.specs.ExprTree.{ExprTree}
use Rattle.cl_syntax.specs.PresentationTree.{PresentationTree}
use Rattle.cl_syntax.specs.TypeSpecTree.{TypeSpecTree}
use Rattle.cl_syntax.specs.ShapeTree as shape
use Rattle.cl_syntax.specs.ShapeTree.{ShapeTree, ShapeTrees, none, form, shape_trees_of}
use Rattle.cl_application.specs.App.{display_named}
use Rattle.cl_application.specs.declared.declarations.DisplayDecl.{DisplayDecl}
use Rattle.cl_eval.specs.Outcome.{Outcome, Gives, Traps, after, give, trap, lift}
use Rattle.cl_eval.specs.Slots.{Env, bind_parameters}
use Rattle.cl_eval.specs.Meaning.{Go, bind_each, each, entering, parts_of_list, means, truth_of}
use Rattle.cl_eval.specs.TypeMeanings.{AreTexts}
use Rattle.cl_eval.proofs.LimitLemmas.{GoGoes, entered-above, goes-bound, goes-each, goes-entering, goes-listed, goes-means}
use Rattle.cl_eval.proofs.LimitLemmas.{goes-tested, never, no_value}
use Rattle.cl_display.specs.Drawings.{DrawingAt, newline}
use Rattle.cl_display.specs.Figures.{draw_figure, figure_parts}
use Rattle.cl_display.specs.Fresh.{Allowance, Bodies, Draws, Scene, bodies_by, call_display, draws, draws_to, for_each, for_members, in_order}
use Rattle.cl_display.specs.Fresh.{presents_body, presents_text, shape_parts, within}
use Rattle.cl_display.specs.Outcomes.{Draw, opens_none, run_of}
use Rattle.cl_display.specs.Presentations.{Texts, enter_presentation, label_of, leave_presentation, present_text, texts_on, write_value}
use Rattle.cl_display.specs.Settings.{enter_room, indent, leave_room, restore_ink, restore_margin, set_ink}
use Rattle.cl_display.proofs.TextLimits.{TextsGo, goes-texts}
use Rattle.cl_reuse.specs.Motions.{Motion, move_ambient, move_drawing, move_part}
use Rattle.cl_reuse.proofs.Carrying.{AllCarry, Carries, Carry, carry-choice, carry-give, carry-lift, carry-then, carry-trap, carry-value, carry-within}
use Rattle.cl_reuse.proofs.SettingLemmas.{enters-indent, enters-ink, enters-presentation, in_the_room, leaves-room, steps-present_text, EntersTo}
use Rattle.cl_reuse.proofs.StepLemmas.{steps-draw_parts, steps-newline, steps-write_value}
use Rattle.cl_reuse.proofs.UpdateMoves.{BodiesCarry, carry-draws_update}

module _ (budget depth most level : ℕ) (value value' : Go) (go go' : Draws) (g : AllCarry budget depth most level go go') where
  carry-in_order : (m : Motion) (env : Env) (fs : ShapeTrees) (s : DrawingAt)
      → Carry m budget depth most s (in_order go level env fs s) (in_order go' level env fs (move_drawing m s))
  carry-in_order m env none s = carry-give m budget depth most s
  carry-in_order m env (form f fs) s =
      carry-then m budget depth most s (go level env f s) (go' level env f (move_drawing m s)) (in_order go level env fs) (in_order go' level env fs)
      (g m env f s)
      (carry-in_order m env fs)

  carry-for_each : (m : Motion) (env : Env) (x : List ℕ) (body : ShapeTrees) (ds : List Data) (s : DrawingAt)
      → Carry m budget depth most s (for_each go level env x body ds s) (for_each go' level env x body ds (move_drawing m s))
  carry-for_each m env x body [] s = carry-give m budget depth most s
  carry-for_each m env x body (d ∷ ds) s =
      carry-then m budget depth most s (in_order go level ((x, d) ∷ env) body s) (in_order go' level ((x, d) ∷ env) body (move_drawing m s))
      (for_each go level env x body ds) (for_each go' level env x body ds) (carry-in_order m ((x, d) ∷ env) body s) (carry-for_each m env x body ds)

  carry-inside : (m inner : Motion) (env : Env) (body : ShapeTrees) (s : DrawingAt) (r r' : Result DrawingAt ℕ) (leave leave' : DrawingAt → DrawingAt)
      → EntersTo m inner most s r r' leave leave' → Carry m budget depth most s (within go level env body r leave) (within go' level env body r' leave')
  carry-inside m inner env body s r r' leave leave' h =
      carry-within m budget depth most inner s r r' (in_order go level env body) (in_order go' level env body) leave leave' h (carry-in_order inner env body)

  carry-room : (m : Motion) (env : Env) (body : ShapeTrees) (s : DrawingAt)
      → Carry m budget depth most s (draws_to go level env body (leave_room s.ambient s.part) (enter_room s))
      (draws_to go' level env body (leave_room (move_ambient m s.ambient) (move_part m.by s.part)) (enter_room (move_drawing m s)))
  carry-room m env body s c d t n l p =
      let carried = carry-inside m (in_the_room m most) env body s (Ok (enter_room s)) (Ok (enter_room (move_drawing m s))) (leave_room s.ambient s.part)
      (leave_room (move_ambient m s.ambient) (move_part m.by s.part)) (leaves-room m most s, λ x _ _. refl) c d t n l p in
      record { cost = carried.cost; deepest = carried.deepest; grows = carried.grows; same = carried.same }

  carry-called : (m : Motion) (f : Option DisplayDecl) (s : DrawingAt) (ds : List Data)
      → Carry m budget depth most s (call_display go level f ds s) (call_display go' level f ds (move_drawing m s))
  carry-called m None s ds = carry-trap m budget depth most s 1
  carry-called m (Some f) s ds =
      carry-choice m budget depth most s (length ds == length f.parameters) (in_order go level (bind_parameters f.parameters ds) (shape_trees_of f.body) s)
      (in_order go' level (bind_parameters f.parameters ds) (shape_trees_of f.body) (move_drawing m s)) (opens_none (trap 1)) (opens_none (trap 1))
      (carry-in_order m (bind_parameters f.parameters ds) (shape_trees_of f.body) s) (carry-trap m budget depth most s 1)

  module _ (scene : Scene) (allowed allowed' : Allowance) (paid : allowed'.budget ≡ budget) (w : allowed'.weight ≡ most)
      (v : GoGoes budget depth level value value')
      (text text' : Texts) (h : TextsGo budget depth level text text') (bodies bodies' : Bodies) (b : BodiesCarry bodies bodies')
      (deep : depth ≡ level + bodies'.depth)
      (m : Motion) where
    carry-presents_text : (env : Env) (t : ExprTree) (spec : TypeSpecTree) (s : DrawingAt) (d : Data)
        → Carry m budget depth most s (for_members scene.types.holds spec d (presents_text allowed.weight text level spec s d))
        (for_members scene.types.holds spec d (presents_text most text' level spec (move_drawing m s) d))
    carry-presents_text env t spec s d =
        carry-choice m budget depth most s (scene.types.holds d spec) (presents_text allowed.weight text level spec s d)
        (presents_text most text' level spec (move_drawing m s) d) (opens_none (trap 1)) (opens_none (trap 1))
        (carry-value m budget depth most s (text level spec d) (text' level spec d)
        (λ x. opens_none (lift (present_text allowed.weight (label_of spec false d) s x)))
        (λ x. opens_none (lift (present_text most (label_of spec false d) (move_drawing m s) x))) (h spec d)
        (λ x. carry-lift m budget depth most s (present_text allowed.weight (label_of spec false d) s x)
        (present_text most (label_of spec false d) (move_drawing m s) x) (steps-present_text m most allowed.weight (label_of spec false d) s x)))
        (carry-trap m budget depth most s 1)

    carry-presents_body : (env : Env) (p : PresentationTree) (body : ShapeTrees) (s : DrawingAt) (d : Data)
        → Carry m budget depth most s (for_members scene.types.holds p.spec d (presents_body allowed.weight go level env p body s d))
        (for_members scene.types.holds p.spec d (presents_body most go' level env p body (move_drawing m s) d))
    carry-presents_body env p body s d =
        let label = label_of p.spec p.single_box d in
        carry-choice m budget depth most s (scene.types.holds d p.spec) (presents_body allowed.weight go level env p body s d)
        (presents_body most go' level env p body (move_drawing m s) d) (opens_none (trap 1)) (opens_none (trap 1))
        (carry-inside m m env body s (enter_presentation allowed.weight d s) (enter_presentation most d (move_drawing m s))
        (leave_presentation label s.part) (leave_presentation label (move_part m.by s.part)) (enters-presentation m most allowed.weight s d label))
        (carry-trap m budget depth most s 1)

    -- one row after another
    carry-rows : (env : Env) (f : ShapeTree) (s : DrawingAt)
        → Carry m budget depth most s (shape_parts scene allowed value text bodies go level env f s)
        (shape_parts scene allowed' value' text' bodies' go' level env f (move_drawing m s))
    carry-rows env (shape.WriteText t) s =
        carry-value m budget depth most s (value level env t) (value' level env t) (λ d. opens_none (lift (write_value allowed.weight s d)))
        (λ d. opens_none (lift (write_value allowed'.weight (move_drawing m s) d))) (v env t)
        (λ d. rw w (carry-lift m budget depth most s (write_value allowed.weight s d) (write_value most (move_drawing m s) d)
        (steps-write_value m most allowed.weight s d)))
    carry-rows env shape.Newline s = carry-lift m budget depth most s (newline s) (newline (move_drawing m s)) (steps-newline m most s)
    carry-rows env (shape.Draw figure ts) s =
        carry-value m budget depth most s (each value level env ts []) (each value' level env ts [])
        (λ ds. opens_none (lift (draw_figure allowed.weight figure ds s))) (λ ds. opens_none (lift (draw_figure allowed'.weight figure ds (move_drawing m s))))
        (goes-each budget depth value value' level v env ts [])
        (λ ds. rw w (carry-lift m budget depth most s (draw_figure allowed.weight figure ds s) (draw_figure most figure ds (move_drawing m s))
        (steps-draw_parts m most allowed.weight (figure_parts figure ds) s)))
    carry-rows env (shape.Indent t body) s =
        carry-value m budget depth most s (value level env t) (value' level env t) (λ d. within go level env body (indent d s) (restore_margin s.ambient))
        (λ d. within go' level env body (indent d (move_drawing m s)) (restore_margin (move_ambient m s.ambient))) (v env t)
        (λ d. carry-inside m m env body s (indent d s) (indent d (move_drawing m s)) (restore_margin s.ambient) (restore_margin (move_ambient m s.ambient))
        (enters-indent m most s d))
    carry-rows env (shape.Ink t body) s =
        carry-value m budget depth most s (value level env t) (value' level env t) (λ d. within go level env body (set_ink d s) (restore_ink s.ambient))
        (λ d. within go' level env body (set_ink d (move_drawing m s)) (restore_ink (move_ambient m s.ambient))) (v env t)
        (λ d. carry-inside m m env body s (set_ink d s) (set_ink d (move_drawing m s)) (restore_ink s.ambient) (restore_ink (move_ambient m s.ambient))
        (enters-ink m most s d))
    carry-rows env (shape.Room body) s = carry-room m env body s
    carry-rows env (shape.Present t spec) s =
        carry-value m budget depth most s (value level env t) (value' level env t)
        (λ d. for_members scene.types.holds spec d (presents_text allowed.weight text level spec s d))
        (λ d. for_members scene.types.holds spec d (presents_text allowed'.weight text' level spec (move_drawing m s) d)) (v env t)
        (λ d. rw w (carry-presents_text env t spec s d))
    carry-rows env (shape.AsPresentation p body) s =
        carry-value m budget depth most s (value level env p.object) (value' level env p.object)
        (λ d. for_members scene.types.holds p.spec d (presents_body allowed.weight go level env p body s d))
        (λ d. for_members scene.types.holds p.spec d (presents_body allowed'.weight go' level env p body (move_drawing m s) d)) (v env p.object)
        (λ d. rw w (carry-presents_body env p body s d))
    carry-rows env (shape.Update u body) s =
        carry-draws_update m budget depth most allowed allowed' paid w level value value' v bodies bodies' b deep env u body s
    carry-rows env (shape.If t e f) s =
        carry-value m budget depth most s (truth_of value level env t) (truth_of value' level env t)
        (λ holds. if holds then go level env e s else go level env f s)
        (λ holds. if holds then go' level env e (move_drawing m s) else go' level env f (move_drawing m s))
        (goes-tested budget depth value value' level v env t)
        (λ holds. carry-choice m budget depth most s holds (go level env e s) (go' level env e (move_drawing m s)) (go level env f s)
        (go' level env f (move_drawing m s)) (g m env e s) (g m env f s))
    carry-rows env (shape.When t body) s =
        carry-value m budget depth most s (truth_of value level env t) (truth_of value' level env t)
        (λ holds. if holds then in_order go level env body s else opens_none (give s))
        (λ holds. if holds then in_order go' level env body (move_drawing m s) else opens_none (give (move_drawing m s)))
        (goes-tested budget depth value value' level v env t)
        (λ holds. carry-choice m budget depth most s holds (in_order go level env body s) (in_order go' level env body (move_drawing m s)) (opens_none (give s))
        (opens_none (give (move_drawing m s))) (carry-in_order m env body s) (carry-give m budget depth most s))
    carry-rows env (shape.Let bs body) s =
        carry-value m budget depth most s (bind_each value level bs env) (bind_each value' level bs env) (λ inner. in_order go level inner body s)
        (λ inner. in_order go' level inner body (move_drawing m s)) (goes-bound budget depth value value' level v bs env)
        (λ inner. carry-in_order m inner body s)
    carry-rows env (shape.Dolist x t body) s =
        carry-value m budget depth most s (parts_of_list value level env t) (parts_of_list value' level env t) (λ ds. for_each go level env x body ds s)
        (λ ds. for_each go' level env x body ds (move_drawing m s)) (goes-listed budget depth value value' level v env t)
        (λ ds. carry-for_each m env x body ds s)
    carry-rows env (shape.Progn body) s = carry-in_order m env body s
    carry-rows env (shape.Call f ts) s =
        carry-value m budget depth most s (each value level env ts []) (each value' level env ts [])
        (λ ds. call_display go level (display_named f scene.app) ds s) (λ ds. call_display go' level (display_named f scene.app) ds (move_drawing m s))
        (goes-each budget depth value value' level v env ts []) (carry-called m (display_named f scene.app) s)

-- ---- forms

-- below the depth nothing is reached
carries-deep : (m : Motion) (budget most : ℕ) (s : DrawingAt) (first second : Draw) (b w level k : ℕ) (c d : ℕ) (o : Outcome (Unit {0}))
    → ((i j : ℕ) → o ≡ Gives tt i j → (c ≤ i) × (d ≤ j) × (level + 1 ≤ j)) → (other : Draw) → Carry m b k w s first other
    → (t : DrawingAt) (n l : ℕ) → after o (λ _. run_of first) ≡ Gives t n l → Carries m budget (level + 0) most second s c d t n l
carries-deep m budget most s first second b w level k c d (Gives x i j) above other g t n l p =
    let entered = above i j refl in
    let rest = g i j t n l p in
    record {
      cost = omega (arith, entered.0, rest.cost);
      deepest = omega (arith, entered.1, rest.deepest);
      grows = rest.grows;
      same = λ cheap shallow fits. absurd (omega (arith, entered.2, rest.deepest, shallow));
    }
carries-deep m budget most s first second b w level k c d (Traps e i j) above other g t n l p = absurd (no_value e i j t n l p)

-- bodies whose forms carry
carry-bodies : (left left' : ℕ) (go go' : Allowance → Draws)
    → ((allowed allowed' : Allowance) → AllCarry allowed'.budget (0 + left') allowed'.weight 0 (go allowed) (go' allowed'))
    → BodiesCarry (bodies_by left go) (bodies_by left' go')
carry-bodies left left' go go' g m allowed allowed' env body s u n r p =
    let carried = carry-in_order allowed'.budget (0 + left') allowed'.weight 0 no_value_of no_value_of (go allowed) (go' allowed')
    (g allowed allowed') m env body s
    0 0 u n r p in
    record { grows = carried.grows; same = λ cheap shallow fits. carried.same cheap (omega (arith, shallow)) fits }
  where
    no_value_of : Go
    no_value_of level env t = trap 0

module _ (scene : Scene) (texts : AreTexts scene.app scene.types.presents) where
  carry-draws : (left left' : ℕ) (allowed allowed' : Allowance) (level : ℕ)
      → AllCarry allowed'.budget (level + left') allowed'.weight level (draws left allowed scene) (draws left' allowed' scene)
  carry-draws zero left' allowed allowed' level m env f s c d t n l p = absurd (never (entering 0 allowed.budget level c d) t n l p)
  carry-draws (suc left) zero allowed allowed' level m env f s c d t n l p =
      let value = means left allowed.budget scene.app scene.slots in
      let text = texts_on scene.types.presents scene.slots allowed.budget left in
      let go = draws left allowed scene in
      let bodies = bodies_by left (λ inner. draws left inner scene) in
      let inside = shape_parts scene allowed value text bodies go (level + 1) env f s in
      carries-deep m allowed'.budget allowed'.weight s inside (draws zero allowed' scene level env f (move_drawing m s)) allowed.budget allowed.weight level
      (level + 1 + left) c d
      (entering (suc left) allowed.budget level c d) (entered-above (nat_le allowed.budget c) (suc left == 0) level c d)
      (shape_parts scene allowed value text bodies go (level + 1) env f (move_drawing m s))
      (carry-rows allowed.budget (level + 1 + left) allowed.weight (level + 1) value value go go
      (carry-draws left left allowed allowed (level + 1)) scene allowed allowed
      refl refl (goes-means left allowed.budget left allowed.budget scene.app scene.slots (level + 1)) text text
      (goes-texts scene.app scene.types.presents texts scene.slots allowed.budget allowed.budget left left (level + 1)) bodies bodies
      (carry-bodies left left (λ inner. draws left inner scene) (λ inner. draws left inner scene) (λ inner inner'. carry-draws left left inner inner' 0)) refl
      m env f s) t n l p
  carry-draws (suc left) (suc left') allowed allowed' level m env f s c d t n l p =
      let deeper : level + 1 + left' ≡ level + suc left' = omega arith in
      let value = means left allowed.budget scene.app scene.slots in
      let value' = means left' allowed'.budget scene.app scene.slots in
      let text = texts_on scene.types.presents scene.slots allowed.budget left in
      let text' = texts_on scene.types.presents scene.slots allowed'.budget left' in
      let go = draws left allowed scene in
      let go' = draws left' allowed' scene in
      let bodies = bodies_by left (λ inner. draws left inner scene) in
      let bodies' = bodies_by left' (λ inner. draws left' inner scene) in
      carry-value m allowed'.budget (level + suc left') allowed'.weight s (entering (suc left) allowed.budget level)
      (entering (suc left') allowed'.budget level)
      (λ _. shape_parts scene allowed value text bodies go (level + 1) env f s)
      (λ _. shape_parts scene allowed' value' text' bodies' go' (level + 1) env f (move_drawing m s))
      (goes-entering (suc left) allowed.budget (suc left') allowed'.budget level)
      (λ _. rw (← deeper) (carry-rows allowed'.budget (level + 1 + left') allowed'.weight (level + 1) value value' go go'
      (carry-draws left left' allowed allowed' (level + 1)) scene allowed allowed' refl refl
      (goes-means left allowed.budget left' allowed'.budget scene.app scene.slots (level + 1)) text text'
      (goes-texts scene.app scene.types.presents texts scene.slots allowed.budget allowed'.budget left left' (level + 1)) bodies bodies'
      (carry-bodies left left' (λ inner. draws left inner scene) (λ inner. draws left' inner scene)
      (λ inner inner'. carry-draws left left' inner inner' 0)) refl
      m env f s)) c d t n l p

  -- forms in order
  pub carry-forms : (m : Motion) (left more : ℕ) (allowed wider : Allowance) (level : ℕ) (env : Env) (forms : ShapeTrees) (s end : DrawingAt)
      (cost deepest c d : ℕ)
      → (in_order (draws left allowed scene) level env forms s cost deepest).outcome ≡ Gives end c d
      → Carries m wider.budget (level + more) wider.weight (in_order (draws more wider scene) level env forms (move_drawing m s)) s cost deepest end c d
  carry-forms m left more allowed wider level env forms s end cost deepest c d p =
      carry-in_order wider.budget (level + more) wider.weight level (means left allowed.budget scene.app scene.slots)
      (means more wider.budget scene.app scene.slots)
      (draws left allowed scene) (draws more wider scene) (carry-draws left more allowed wider level) m env forms s cost deepest end c d p
