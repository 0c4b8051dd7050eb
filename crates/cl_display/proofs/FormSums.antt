-- What the rows of display forms draw: marks behind those that were there, and their weight.
use Rattle.std.proofs.Common.{◌≡◌, ℕ, zero, suc, ◌+◌, ◌≤◌, ◌==◌, Bool, true, false, if◌then◌else◌, nat_le, List}
use Rattle.std.proofs.Common.{[]}
use Rattle.std.proofs.Common.{◌∷◌, ◌++◌, length, Option, Some, None, Result, Ok, Err, arith, refl}
use Rattle.std.proofs.lemmas.Bool.Decides.{nat_tests}
use Rattle.cl_value.specs.Data.{Data}
use Rattle.cl_syntax.specs.ShapeTree as shape
use Rattle.cl_syntax.specs.ShapeTree.{ShapeTree, ShapeTrees, none, form, shape_trees_of}
use Rattle.cl_syntax.specs.ExprTree.{Bindings}
use Rattle.cl_application.specs.App.{display_named}
use Rattle.cl_application.specs.declared.declarations.DisplayDecl.{DisplayDecl}
use Rattle.cl_eval.specs.Outcome.{Outcome, Gives, Traps, give, trap, lift, after}
use Rattle.cl_eval.specs.Slots.{Env, bind_parameters}
use Rattle.cl_eval.specs.Meaning.{Go, bind_each, each, entering, parts_of_list, means, truth_of}
use Rattle.cl_medium.specs.Items.{Item}
use Rattle.cl_region.specs.Places.{box}
use Rattle.cl_display.specs.Drawings.{DrawingAt, cursor_box}
use Rattle.cl_display.specs.Drawings.{newline}
use Rattle.cl_display.specs.Figures.{draw_figure, figure_parts}
use Rattle.cl_display.specs.Settings.{behind_room, enter_room, indent, leave_room, restore_ink, restore_margin, room_part}
use Rattle.cl_display.specs.Settings.{set_ink}
use Rattle.cl_display.specs.Outcomes.{Draw, opens_none, run_of}
use Rattle.cl_display.specs.Fresh.{Allowance, Draws, call_display, draws, draws_in, draws_to, for_each, in_order, shape_parts, within}
use Rattle.cl_display.specs.Fresh.{Bodies, bodies_by}
use Rattle.cl_display.proofs.UpdateSums.{BodiesAdd, adds-draws_update}
use Rattle.cl_display.proofs.CornerLemmas.{box-first, box-second, holds-itself, holds-then, holds_all-behind, holds_all-then}
use Rattle.cl_display.proofs.PartLemmas.{part-join, weight_of-behind}
use Rattle.cl_display.specs.Drawings.{start}
use Rattle.cl_display.specs.Fresh.{Scene, for_members, presents_body, presents_text}
use Rattle.cl_display.specs.Presentations.{Texts, label_of, label_weight, leave_after, leave_presentation, present_text, presented_part, texts_on, write_inside, write_value}
use Rattle.cl_display.proofs.PartLemmas.{items-closed, members-behind}
use Rattle.cl_display.proofs.SumLemmas.{Adds, AddsOut, AddsRun, AddsTo, adds-choice, adds-draw_parts, adds-further, adds-give, adds-given, adds-indent}
use Rattle.cl_display.proofs.SumLemmas.{adds-lift, adds-newline, adds-nothing, adds-run, adds-set_ink, adds-write_value}
use Rattle.cl_display.specs.Sums.{lowest_of}
use Rattle.cl_record.specs.Labels.{LabelAt}
use Rattle.cl_record.specs.Marks.{Mark, close, open_presentation}
use Rattle.cl_record.specs.Replays.{items_drawn}
use Rattle.cl_eval.specs.Statements.{Member}
use Rattle.std.proofs.Common.{ap, sym, ◌∙◌}

module _ (most : ℕ) (holds : Member) where
  -- ---- forms

  abbrev pub AllAdd : Draws → Type 0
  AllAdd go = (level : ℕ) (env : Env) (f : ShapeTree) (s : DrawingAt) → AddsRun most holds s (go level env f s)

  pub adds-in_order : (go : Draws) → AllAdd go → (level : ℕ) (env : Env) (fs : ShapeTrees) (s : DrawingAt)
      → AddsRun most holds s (in_order go level env fs s)
  adds-in_order go g level env none s = adds-give most holds s
  adds-in_order go g level env (form f fs) s = adds-run most holds s (go level env f s) (in_order go level env fs) (g level env f s)
      (adds-in_order go g level env fs)

  adds-for_each : (go : Draws) → AllAdd go → (level : ℕ) (env : Env) (x : List ℕ) (body : ShapeTrees) (ds : List Data) (s : DrawingAt)
      → AddsRun most holds s (for_each go level env x body ds s)
  adds-for_each go g level env x body [] s = adds-give most holds s
  adds-for_each go g level env x body (d ∷ ds) s =
      adds-run most holds s (in_order go level ((x, d) ∷ env) body s) (for_each go level env x body ds)
      (adds-in_order go g level ((x, d) ∷ env) body s)
      (adds-for_each go g level env x body ds)

  -- a body from a state that has the same items, left so that the items stay
  adds-draws_to : (go : Draws) → AllAdd go → (level : ℕ) (env : Env) (body : ShapeTrees) (leave : DrawingAt → DrawingAt) (s : DrawingAt)
      → ((t : DrawingAt) → Adds most holds t (leave t)) → AddsRun most holds s (draws_to go level env body leave s)
  adds-draws_to go g level env body leave s h =
      adds-run most holds s (in_order go level env body s) (λ end. opens_none (give (leave end))) (adds-in_order go g level env body s) (λ t c d. h t)

  adds-within : (go : Draws) → AllAdd go → (level : ℕ) (env : Env) (body : ShapeTrees) (s : DrawingAt) (r : Result DrawingAt ℕ)
      (leave : DrawingAt → DrawingAt)
      → AddsTo most holds s r → ((t : DrawingAt) → Adds most holds t (leave t)) → AddsRun most holds s (within go level env body r leave)
  adds-within go g level env body s (Ok inner) leave p h c d =
      adds-further most holds s inner p (draws_to go level env body leave inner c d).outcome (adds-draws_to go g level env body leave inner h c d)
  adds-within go g level env body s (Err k) leave p h c d = tt

  -- ---- rooms

  adds-leave_room : (s t : DrawingAt) → Adds most holds (enter_room s) t → Adds most holds s (leave_room s.ambient s.part t)
  adds-leave_room s t p =
      let behind = behind_room s.ambient t in
      let inner = room_part behind t.part in
      record {
        marks = p.marks;
        part =
            part-join s.part inner p.marks p.part.behind p.part.lowest
            (holds_all-then (box t.part.extent (cursor_box behind)) t.part.extent p.marks
            (box-first t.part.extent (cursor_box behind)) p.part.within);
        weight = p.weight;
        members = p.members;
        light = p.light;
        cursor = λ h.
            holds-then (box s.part.extent inner.extent) inner.extent (cursor_box behind) (box-second s.part.extent inner.extent)
            (box-second t.part.extent (cursor_box behind));
      }

  adds-behind_room : (s : DrawingAt) (o : Outcome DrawingAt) → AddsOut most holds (enter_room s) o
      → AddsOut most holds s (after o (λ end. run_of (opens_none (give (leave_room s.ambient s.part end)))))
  adds-behind_room s (Gives t c d) p = adds-leave_room s t p
  adds-behind_room s (Traps kind c d) p = tt

  adds-room : (go : Draws) → AllAdd go → (level : ℕ) (env : Env) (body : ShapeTrees) (s : DrawingAt)
      → AddsRun most holds s (draws_to go level env body (leave_room s.ambient s.part) (enter_room s))
  adds-room go g level env body s c d =
      adds-behind_room s (in_order go level env body (enter_room s) c d).outcome (adds-in_order go g level env body (enter_room s) c d)

  -- ---- presentations

  -- the part of a presentation comes behind the outer one
  adds-leave_presentation : (label : LabelAt) (s t : DrawingAt) → s.weight + label_weight label.object ≤ most
      → holds label.object label.spec ≡ true → Adds most holds (start (record s { weight = s.weight + label_weight label.object })) t
      → Adds most holds s (leave_presentation label s.part t)
  adds-leave_presentation label s t light member p =
      let inner = presented_part label t.part in
      let marks : List (Mark Item) = open_presentation label ∷ (p.marks ++ close ∷ []) in
      let same : items_drawn marks ≡ items_drawn p.marks = items-closed p.marks in
      record {
        marks = marks;
        part =
            part-join s.part inner marks (ap (λ (ms : List (Mark Item)). open_presentation label ∷ (ms ++ close ∷ [])) p.part.behind)
            (p.part.lowest ∙ sym (ap (λ (is : List Item). lowest_of is) same)) (holds_all-behind t.part.extent p.marks (close ∷ []) p.part.within tt);
        weight = omega (arith, p.weight, weight_of-behind p.marks (close ∷ []));
        members = (member, members-behind holds p.marks (close ∷ []) p.members tt);
        light = λ h. p.light light;
        cursor = λ h.
            holds-then (box s.part.extent t.part.extent) t.part.extent (cursor_box t.ambient) (box-second s.part.extent t.part.extent)
            (p.cursor (holds-itself (cursor_box s.ambient)));
      }

  adds-presented : (label : LabelAt) (s : DrawingAt) → s.weight + label_weight label.object ≤ most → holds label.object label.spec ≡ true
      → (o : Outcome DrawingAt) → AddsOut most holds (start (record s { weight = s.weight + label_weight label.object })) o
      → AddsOut most holds s (after o (λ end. run_of (opens_none (give (leave_presentation label s.part end)))))
  adds-presented label s light member (Gives t c d) p = adds-leave_presentation label s t light member p
  adds-presented label s light member (Traps kind c d) p = tt

  adds-body_in : (go : Draws) → AllAdd go → (level : ℕ) (env : Env) (body : ShapeTrees) (label : LabelAt) (s : DrawingAt) (b : Bool)
      → nat_le (s.weight + label_weight label.object) most ≡ b → holds label.object label.spec ≡ true
      → AddsRun most holds s (within go level env body
      (if b then Ok (start (record s { weight = s.weight + label_weight label.object })) else Err 10) (leave_presentation label s.part))
  adds-body_in go g level env body label s true e member c d =
      let inner : DrawingAt = start (record s { weight = s.weight + label_weight label.object }) in
      adds-presented label s (grind (arith, nat_tests, e)) member (in_order go level env body inner c d).outcome
      (adds-in_order go g level env body inner c d)
  adds-body_in go g level env body label s false e member c d = tt

  adds-left : (label : LabelAt) (s : DrawingAt) → s.weight + label_weight label.object ≤ most → holds label.object label.spec ≡ true
      → (r : Result DrawingAt ℕ) → AddsTo most holds (start (record s { weight = s.weight + label_weight label.object })) r
      → AddsTo most holds s (leave_after label s.part r)
  adds-left label s light member (Ok t) p = adds-leave_presentation label s t light member p
  adds-left label s light member (Err k) p = tt

  adds-text_in : (label : LabelAt) (s : DrawingAt) (x : Data) (b : Bool) → nat_le (s.weight + label_weight label.object) most ≡ b
      → holds label.object label.spec ≡ true
      → AddsTo most holds s (leave_after label s.part (write_inside most x
      (if b then Ok (start (record s { weight = s.weight + label_weight label.object })) else Err 10)))
  adds-text_in label s x true e member =
      let inner : DrawingAt = start (record s { weight = s.weight + label_weight label.object }) in
      adds-left label s (grind (arith, nat_tests, e)) member (write_value most inner x) (adds-write_value most holds inner x)
  adds-text_in label s x false e member = tt

  pub adds-present_text : (label : LabelAt) (s : DrawingAt) (x : Data) → holds label.object label.spec ≡ true
      → AddsTo most holds s (present_text most label s x)
  adds-present_text label s x member = adds-text_in label s x (nat_le (s.weight + label_weight label.object) most) refl member

  -- an object is presented where it is a member of its type
  adds-for_members : (s : DrawingAt) (b : Bool) (m : Draw) → (b ≡ true → AddsRun most holds s m)
      → AddsRun most holds s (if b then m else opens_none (trap 1))
  adds-for_members s true m h = h refl
  adds-for_members s false m h = λ c d. tt

  -- ---- the rows

  adds-draws_in : (value : Go) (go : Draws) → AllAdd go → (level : ℕ) (bs : Bindings) (body : ShapeTrees) (env : Env) (s : DrawingAt)
      → AddsRun most holds s (draws_in value go level bs body env s)
  adds-draws_in value go g level bs body env s =
      adds-given most holds s (bind_each value level bs env) (λ inner. in_order go level inner body s) (λ inner. adds-in_order go g level inner body s)

  adds-call_display : (go : Draws) → AllAdd go → (level : ℕ) (f : Option DisplayDecl) (ds : List Data) (s : DrawingAt)
      → AddsRun most holds s (call_display go level f ds s)
  adds-call_display go g level None ds s = λ c d. tt
  adds-call_display go g level (Some f) ds s =
      adds-choice most holds s (length ds == length f.parameters) (in_order go level (bind_parameters f.parameters ds) (shape_trees_of f.body) s)
      (opens_none (trap 1))
      (adds-in_order go g level (bind_parameters f.parameters ds) (shape_trees_of f.body) s) (λ c d. tt)

  adds-shape_parts : (scene : Scene) → scene.types.holds ≡ holds → (budget : ℕ) (value : Go) (text : Texts) (bodies : Bodies) → BodiesAdd holds bodies → (go : Draws) → AllAdd go
      → (level : ℕ) (env : Env) (f : ShapeTree) (s : DrawingAt)
      → AddsRun most holds s (shape_parts scene (record { budget = budget; weight = most }) value text bodies go level env f s)
  adds-shape_parts scene same budget value text bodies b go g level env (shape.WriteText t) s =
      adds-given most holds s (value level env t) (λ d. opens_none (lift (write_value most s d)))
      (λ d. adds-lift most holds s (write_value most s d) (adds-write_value most holds s d))
  adds-shape_parts scene same budget value text bodies b go g level env shape.Newline s = adds-lift most holds s (newline s) (adds-newline most holds s)
  adds-shape_parts scene same budget value text bodies b go g level env (shape.Draw figure ts) s =
      adds-given most holds s (each value level env ts []) (λ ds. opens_none (lift (draw_figure most figure ds s)))
      (λ ds. adds-lift most holds s (draw_figure most figure ds s) (adds-draw_parts most holds (figure_parts figure ds) s))
  adds-shape_parts scene same budget value text bodies b go g level env (shape.Indent t body) s =
      adds-given most holds s (value level env t) (λ d. within go level env body (indent d s) (restore_margin s.ambient))
      (λ d. adds-within go g level env body s (indent d s) (restore_margin s.ambient) (adds-indent most holds d s)
      (λ end. adds-nothing most holds end (restore_margin s.ambient end) refl refl refl))
  adds-shape_parts scene same budget value text bodies b go g level env (shape.Ink t body) s =
      adds-given most holds s (value level env t) (λ d. within go level env body (set_ink d s) (restore_ink s.ambient))
      (λ d. adds-within go g level env body s (set_ink d s) (restore_ink s.ambient) (adds-set_ink most holds d s)
      (λ end. adds-nothing most holds end (restore_ink s.ambient end) refl refl refl))
  adds-shape_parts scene same budget value text bodies b go g level env (shape.Room body) s = adds-room go g level env body s
  adds-shape_parts scene same budget value text bodies b go g level env (shape.Present t spec) s =
      rw same
      (adds-given most holds s (value level env t) (λ d. for_members holds spec d (presents_text most text level spec s d)) (λ d.
      adds-for_members s (holds d spec) (presents_text most text level spec s d) (λ member.
      adds-given most holds s (text level spec d) (λ x. opens_none (lift (present_text most (label_of spec false d) s x))) (λ x.
      adds-lift most holds s (present_text most (label_of spec false d) s x)
      (adds-present_text (label_of spec false d) s x member)))))
  adds-shape_parts scene same budget value text bodies b go g level env (shape.AsPresentation p body) s =
      rw same
      (adds-given most holds s (value level env p.object) (λ d. for_members holds p.spec d (presents_body most go level env p body s d)) (λ d.
      adds-for_members s (holds d p.spec) (presents_body most go level env p body s d)
      (adds-body_in go g level env body (label_of p.spec p.single_box d) s (nat_le (s.weight + label_weight d) most) refl)))
  adds-shape_parts scene same budget value text bodies b go g level env (shape.Update u body) s =
      adds-draws_update most holds (record { budget = budget; weight = most }) refl value bodies b level env u body s
  adds-shape_parts scene same budget value text bodies b go g level env (shape.If t f h) s =
      adds-given most holds s (truth_of value level env t) (λ test. if test then go level env f s else go level env h s)
      (λ test. adds-choice most holds s test (go level env f s) (go level env h s) (g level env f s) (g level env h s))
  adds-shape_parts scene same budget value text bodies b go g level env (shape.When t body) s =
      adds-given most holds s (truth_of value level env t) (λ test. if test then in_order go level env body s else opens_none (give s))
      (λ test. adds-choice most holds s test (in_order go level env body s) (opens_none (give s)) (adds-in_order go g level env body s)
      (adds-give most holds s))
  adds-shape_parts scene same budget value text bodies b go g level env (shape.Let bs body) s = adds-draws_in value go g level bs body env s
  adds-shape_parts scene same budget value text bodies b go g level env (shape.Dolist x t body) s =
      adds-given most holds s (parts_of_list value level env t) (λ ds. for_each go level env x body ds s) (λ ds. adds-for_each go g level env x body ds s)
  adds-shape_parts scene same budget value text bodies b go g level env (shape.Progn body) s = adds-in_order go g level env body s
  adds-shape_parts scene same budget value text bodies b go g level env (shape.Call f ts) s =
      adds-given most holds s (each value level env ts []) (λ ds. call_display go level (display_named f scene.app) ds s)
      (λ ds. adds-call_display go g level (display_named f scene.app) ds s)

-- bodies whose forms add up
adds-bodies : (holds : Member) (left : ℕ) (go : Allowance → Draws) → ((allowed : Allowance) → AllAdd allowed.weight holds (go allowed))
    → BodiesAdd holds (bodies_by left go)
adds-bodies holds left go g allowed env body s = adds-in_order allowed.weight holds (go allowed) (g allowed) 0 env body s 0 0

pub adds-draws : (most : ℕ) (holds : Member) (left budget : ℕ) (scene : Scene) → scene.types.holds ≡ holds
    → AllAdd most holds (draws left (record { budget = budget; weight = most }) scene)
adds-draws most holds zero budget scene same level env f s =
    adds-given most holds s (entering 0 budget level) (λ _. opens_none (trap 6)) (λ _ c d. tt)
adds-draws most holds (suc left) budget scene same level env f s =
    let allowed : Allowance = record { budget = budget; weight = most } in
    let value = means left budget scene.app scene.slots in
    let text = texts_on scene.types.presents scene.slots budget left in
    let bodies = bodies_by left (λ inner. draws left inner scene) in
    adds-given most holds s (entering (suc left) budget level)
    (λ _. shape_parts scene allowed value text bodies (draws left allowed scene) (level + 1) env f s)
    (λ _. adds-shape_parts most holds scene same budget value text bodies
    (adds-bodies holds left (λ inner. draws left inner scene) (λ inner. adds-draws inner.weight holds left inner.budget scene same))
    (draws left allowed scene) (adds-draws most holds left budget scene same) (level + 1) env f s)
