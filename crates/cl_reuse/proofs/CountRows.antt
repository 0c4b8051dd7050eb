-- The rows of display forms, and the items of what is kept of faithful records.
use Rattle.std.proofs.Common.{◌≡◌, ap, refl, ℕ, zero, suc, ◌+◌, ◌≤◌, ◌==◌, nat_le, Bool, true, false, if◌then◌else◌, inl, inr, List, [], ◌∷◌, length}
use Rattle.std.proofs.Common.{Option, Some, None, Result, Ok, Err, arith}
use Rattle.cl_value.specs.Data.{Data}
use Rattle.cl_region.specs.declared.rects.Shift.{Shift}
use Rattle.cl_syntax.specs.ShapeTree as shape
use Rattle.cl_syntax.specs.ShapeTree.{ShapeTree, ShapeTrees, none, form, shape_trees_of}
use Rattle.cl_syntax.specs.UpdateTree.{UpdateTree}
use Rattle.cl_application.specs.App.{display_named}
use Rattle.cl_application.specs.declared.applications.App.{App}
use Rattle.cl_application.specs.declared.declarations.DisplayDecl.{DisplayDecl}
use Rattle.cl_cover.specs.Updates.{AreCovered}
use Rattle.cl_eval.specs.Meaning.{Go, bind_each, each, entering, means, parts_of_list, truth_of}
use Rattle.cl_eval.specs.Outcome.{Gives, give, lift, trap}
use Rattle.cl_eval.specs.Slots.{Env, Slots, bind_parameters}
use Rattle.cl_eval.specs.TypeMeanings.{AreTexts, TypeMeanings}
use Rattle.cl_eval.specs.declared.metering.Limits.{Limits}
use Rattle.cl_medium.specs.Items.{Item}
use Rattle.cl_record.specs.Counts.{count_of}
use Rattle.cl_record.specs.Marks.{open_presentation}
use Rattle.cl_record.specs.Labels.{LabelAt}
use Rattle.cl_record.specs.Shifts.{still}
use Rattle.cl_record.specs.Trees.{Tree, Trees, trees_of}
use Rattle.cl_display.specs.Drawings.{DrawingAt, PartAt, blank_drawing, newline, start}
use Rattle.cl_display.specs.Figures.{draw_figure, figure_parts}
use Rattle.cl_display.specs.Fresh.{Allowance, Draws, bodies_on, call_display, draws, draws_cached, draws_keyed, draws_to, draws_update, for_each}
use Rattle.cl_display.specs.Fresh.{for_members, in_order, presents_body, presents_text, shape_parts, within}
use Rattle.cl_display.specs.Outcomes.{opens_none}
use Rattle.cl_display.specs.Presentations.{Texts, label_of, label_weight, leave_presentation, present_text, texts_on, write_value}
use Rattle.cl_display.specs.Script.{fresh, whole_allowance}
use Rattle.cl_display.specs.Settings.{enter_room, indent, leave_room, restore_ink, restore_margin, set_ink}
use Rattle.cl_display.specs.Updates.{cache_of, id_of, key_at}
use Rattle.cl_reuse.specs.Kept.{items_kept, kept}
use Rattle.cl_reuse.specs.ReadValues.{SeesReads, scene_on}
use Rattle.cl_reuse.specs.Recorded.{AreFaithful, IsFaithfulHistory}
use Rattle.cl_reuse.specs.Sited.{AreApart, AreOwn}
use Rattle.cl_reuse.proofs.CacheLemmas.{cache-holds}
use Rattle.cl_reuse.proofs.CountForms.{BodyCounts, RunCounts, count-branch, counts-choice, counts-come, counts-give, counts-keyed, counts-leave, counts-lift}
use Rattle.cl_reuse.proofs.CountForms.{counts-set, counts-then, counts-trap, counts-value, drawn_in, step-more}
use Rattle.cl_reuse.proofs.DisplayNames.{display-declared}
use Rattle.cl_reuse.proofs.FaithForms.{StepDraws, figure-draws, indent-draws, ink-draws, newline-draws, present_text-draws, value-draws}
use Rattle.cl_reuse.proofs.GoneLemmas.{count-behind}
use Rattle.cl_reuse.proofs.PayForms.{ends-cached}
use Rattle.cl_reuse.proofs.PayRows.{AllOwn, Own, no-cache-comes}

module _ (app : App) (slots : Slots) (types : TypeMeanings) where
  abbrev pub AllCount : ℕ → Draws → Type 0
  AllCount level go = (env : Env) (f : ShapeTree) → Own app slots types f → (s : DrawingAt) (at : Shift) (old : Trees Item) → AreFaithful app types old
      → RunCounts at old s (go level env f s)

  module _ (go : Draws) (level : ℕ) (g : AllCount level go) where
    counts-order : (env : Env) (fs : ShapeTrees) → AllOwn app slots types fs → (s : DrawingAt) (at : Shift) (old : Trees Item) → AreFaithful app types old
        → RunCounts at old s (in_order go level env fs s)
    counts-order env none of s at old k = counts-give app types at old s
    counts-order env (form f fs) of s at old k =
        counts-then app types at old s (go level env f s) (in_order go level env fs) (g env f (λ w h. of w (inl h)) s at old k)
        (λ t. counts-order env fs (λ w h. of w (inr h)) t at old k)

    module _ (at : Shift) (old : Trees Item) (k : AreFaithful app types old) where
      counts-each : (env : Env) (x : List ℕ) (body : ShapeTrees) → AllOwn app slots types body → (ds : List Data) (s : DrawingAt)
          → RunCounts at old s (for_each go level env x body ds s)
      counts-each env x body of [] s = counts-give app types at old s
      counts-each env x body of (d ∷ ds) s =
          counts-then app types at old s (in_order go level ((x, d) ∷ env) body s) (for_each go level env x body ds)
          (counts-order ((x, d) ∷ env) body of s at old k) (counts-each env x body of ds)

      -- a body that is drawn from u
      counts-to : (env : Env) (body : ShapeTrees) → AllOwn app slots types body → (s u : DrawingAt) (leave : DrawingAt → DrawingAt)
          → ((t : DrawingAt) → drawn_in u ≤ drawn_in t → drawn_in s + drawn_in t ≤ drawn_in u + drawn_in (leave t))
          → RunCounts at old s (draws_to go level env body leave u)
      counts-to env body of s u leave h = counts-leave app types at old s u (in_order go level env body u) leave (counts-order env body of u at old k) h

      -- a body behind what was set, which draws nothing
      counts-within : (env : Env) (body : ShapeTrees) → AllOwn app slots types body → (s : DrawingAt) (r : Result DrawingAt ℕ) (leave : DrawingAt → DrawingAt)
          → StepDraws app types s r → ((t : DrawingAt) → (leave t).part ≡ t.part) → RunCounts at old s (within go level env body r leave)
      counts-within env body of s r leave h e =
          counts-set app types at old s r (draws_to go level env body leave) (step-more app types s r h)
          (λ u. counts-to env body of u u leave (λ t more. let same = ap (λ (p : PartAt). count_of p.marks) (e t) in omega (arith, same)))

      counts-presented : (env : Env) (body : ShapeTrees) → AllOwn app slots types body → (s : DrawingAt) (weight : ℕ) (label : LabelAt) (b : Bool)
          → RunCounts at old s (within go level env body (if b then Ok (start (record s { weight = weight })) else Err 10) (leave_presentation label s.part))
      counts-presented env body of s weight label true =
          counts-to env body of s (start (record s { weight = weight })) (leave_presentation label s.part)
          (λ t more. let sum = count-branch s.part.marks (open_presentation label) t.part.marks refl in omega (arith, sum))
      counts-presented env body of s weight label false = counts-trap app types at old s 10

      counts-called : (x : List ℕ) (f : Option DisplayDecl) → display_named x app ≡ f → (ds : List Data) (s : DrawingAt)
          → RunCounts at old s (call_display go level f ds s)
      counts-called x None e ds s = counts-trap app types at old s 1
      counts-called x (Some f) e ds s =
          counts-choice app types at old s (length ds == length f.parameters) (in_order go level (bind_parameters f.parameters ds) (shape_trees_of f.body) s)
          (opens_none (trap 1))
          (counts-order (bind_parameters f.parameters ds) (shape_trees_of f.body) (λ w h. display-declared app x f e w h) s at old k)
          (counts-trap app types at old s 1)

  module _ (texts : AreTexts app types.presents) (sees : SeesReads app types.presents) (covered : AreCovered app) (apart : AreApart app) (left : ℕ)
      (below : (allowed : Allowance) (level : ℕ) → AllCount level (draws left allowed (scene_on app slots types))) where
    counts-bodies : (env : Env) (body : ShapeTrees) → AllOwn app slots types body → (inner : Allowance) (s : DrawingAt) → drawn_in s ≡ 0
        → BodyCounts app types ((bodies_on left (scene_on app slots types)).draw inner env body s)
    counts-bodies env body of inner s empty at old k t n l p =
        let all = counts-order (draws left inner (scene_on app slots types)) 0 (below inner 0) env body of s at old k 0 0 t n l p in
        omega (arith, all, empty)

    module _ (allowed : Allowance) (level : ℕ) (at : Shift) (old : Trees Item) (k : AreFaithful app types old) where
      counts-update : (env : Env) (u : UpdateTree) (body : ShapeTrees) → Own app slots types (shape.Update u body) → (s : DrawingAt)
          → RunCounts at old s (draws_update allowed (means left allowed.budget app slots) (bodies_on left (scene_on app slots types)) level env u body s)
      counts-update env u body of s =
          let value = means left allowed.budget app slots in
          let bodies = bodies_on left (scene_on app slots types) in
          counts-value app types at old s (id_of value level env s.siblings u.site u.id) (draws_cached allowed value bodies level env u body s)
          (λ id. counts-come app types at old s (cache_of value level env u.cache) (λ cache. draws_keyed allowed bodies level env body s (key_at u id cache))
          (λ cache c d i j q. counts-keyed app types slots allowed left level env body (key_at u id cache)
          (ends-cached app slots types texts sees covered apart u env body of id cache u.cache refl
          (cache-holds app slots env left allowed.budget level u.cache c d cache i j q)
          (no-cache-comes app slots types left allowed.budget level env u.cache c d cache i j q))
          (counts-bodies env body (λ w h. of w (inr h))) at old k s i j))

      -- the meanings there
      abbrev value : Go
      value = means left allowed.budget app slots

      abbrev text : Texts
      text = texts_on types.presents slots allowed.budget left

      abbrev go : Draws
      go = draws left allowed (scene_on app slots types)

      g : AllCount level go
      g = below allowed level

      -- one row after another
      counts-rows : (env : Env) (f : ShapeTree) → Own app slots types f → (s : DrawingAt)
          → RunCounts at old s (shape_parts (scene_on app slots types) allowed value text (bodies_on left (scene_on app slots types)) go level env f s)
      counts-rows env (shape.WriteText t) of s =
          counts-value app types at old s (value level env t) (λ d. opens_none (lift (write_value allowed.weight s d)))
          (λ d. counts-lift app types at old s (write_value allowed.weight s d) (value-draws app types allowed.weight s d))
      counts-rows env shape.Newline of s = counts-lift app types at old s (newline s) (newline-draws app types s)
      counts-rows env (shape.Draw figure ts) of s =
          counts-value app types at old s (each value level env ts []) (λ ds. opens_none (lift (draw_figure allowed.weight figure ds s)))
          (λ ds. counts-lift app types at old s (draw_figure allowed.weight figure ds s) (figure-draws app types allowed.weight (figure_parts figure ds) s))
      counts-rows env (shape.Indent t body) of s =
          counts-value app types at old s (value level env t) (λ d. within go level env body (indent d s) (restore_margin s.ambient))
          (λ d. counts-within go level g at old k env body of s (indent d s) (restore_margin s.ambient) (indent-draws app types s d) (λ x. refl))
      counts-rows env (shape.Ink t body) of s =
          counts-value app types at old s (value level env t) (λ d. within go level env body (set_ink d s) (restore_ink s.ambient))
          (λ d. counts-within go level g at old k env body of s (set_ink d s) (restore_ink s.ambient) (ink-draws app types s d) (λ x. refl))
      counts-rows env (shape.Room body) of s =
          counts-to go level g at old k env body of s (enter_room s) (leave_room s.ambient s.part)
          (λ t more. let sum = count-behind s.part.marks t.part.marks in omega (arith, sum))
      counts-rows env (shape.Present t spec) of s =
          counts-value app types at old s (value level env t) (λ d. for_members types.holds spec d (presents_text allowed.weight text level spec s d))
          (λ d. counts-choice app types at old s (types.holds d spec) (presents_text allowed.weight text level spec s d) (opens_none (trap 1))
          (counts-value app types at old s (text level spec d) (λ x. opens_none (lift (present_text allowed.weight (label_of spec false d) s x)))
          (λ x. counts-lift app types at old s (present_text allowed.weight (label_of spec false d) s x)
          (present_text-draws app types allowed.weight (label_of spec false d) s x)))
          (counts-trap app types at old s 1))
      counts-rows env (shape.AsPresentation p body) of s =
          counts-value app types at old s (value level env p.object)
          (λ d. for_members types.holds p.spec d (presents_body allowed.weight go level env p body s d))
          (λ d. counts-choice app types at old s (types.holds d p.spec) (presents_body allowed.weight go level env p body s d) (opens_none (trap 1))
          (counts-presented go level g at old k env body of s (s.weight + label_weight d) (label_of p.spec p.single_box d)
          (nat_le (s.weight + label_weight d) allowed.weight))
          (counts-trap app types at old s 1))
      counts-rows env (shape.Update u body) of s = counts-update env u body of s
      counts-rows env (shape.If t e f) of s =
          counts-value app types at old s (truth_of value level env t) (λ holds. if holds then go level env e s else go level env f s)
          (λ holds. counts-choice app types at old s holds (go level env e s) (go level env f s) (g env e (λ w h. of w (inl h)) s at old k)
          (g env f (λ w h. of w (inr h)) s at old k))
      counts-rows env (shape.When t body) of s =
          counts-value app types at old s (truth_of value level env t) (λ holds. if holds then in_order go level env body s else opens_none (give s))
          (λ holds. counts-choice app types at old s holds (in_order go level env body s) (opens_none (give s)) (counts-order go level g env body of s at old k)
          (counts-give app types at old s))
      counts-rows env (shape.Let bs body) of s =
          counts-value app types at old s (bind_each value level bs env) (λ inner. in_order go level inner body s)
          (λ inner. counts-order go level g inner body of s at old k)
      counts-rows env (shape.Dolist x t body) of s =
          counts-value app types at old s (parts_of_list value level env t) (λ ds. for_each go level env x body ds s)
          (λ ds. counts-each go level g at old k env x body of ds s)
      counts-rows env (shape.Progn body) of s = counts-order go level g env body of s at old k
      counts-rows env (shape.Call f ts) of s =
          counts-value app types at old s (each value level env ts []) (λ ds. call_display go level (display_named f app) ds s)
          (λ ds. counts-called go level g at old k f (display_named f app) refl ds s)

  module _ (texts : AreTexts app types.presents) (sees : SeesReads app types.presents) (covered : AreCovered app) (apart : AreApart app) where
    counts-draws : (left : ℕ) (allowed : Allowance) (level : ℕ) → AllCount level (draws left allowed (scene_on app slots types))
    counts-draws zero allowed level env f of s at old k =
        counts-value app types at old s (entering 0 allowed.budget level) (λ _. opens_none (trap 6)) (λ _. counts-trap app types at old s 6)
    counts-draws (suc left) allowed level env f of s at old k =
        counts-value app types at old s (entering (suc left) allowed.budget level)
        (λ _. shape_parts (scene_on app slots types) allowed (means left allowed.budget app slots) (texts_on types.presents slots allowed.budget left)
        (bodies_on left (scene_on app slots types)) (draws left allowed (scene_on app slots types)) (level + 1) env f s)
        (λ _. counts-rows texts sees covered apart left (counts-draws left) allowed (level + 1) at old k env f of s)

pub new-bounds : (limits : Limits) (app : App) (types : TypeMeanings) (slots : Slots) (forms : List ShapeTree) (env : Env)
    → AreTexts app types.presents → SeesReads app types.presents → AreCovered app → AreApart app → AreOwn app (shape_trees_of forms)
    → (old : List (Tree Item)) → IsFaithfulHistory app types old
    → (s : DrawingAt) (cost reach : ℕ) → (fresh limits (scene_on app slots types) forms env).outcome ≡ Gives s cost reach
    → items_kept (kept old (fresh limits (scene_on app slots types) forms env)) ≤ count_of s.part.marks
unfolding fresh
new-bounds limits app types slots forms env texts sees covered apart own old f s cost reach p =
    let counts = counts-order app slots types (draws limits.depth (whole_allowance limits) (scene_on app slots types)) 0
    (counts-draws app slots types texts sees covered apart limits.depth (whole_allowance limits) 0) env (shape_trees_of forms) own blank_drawing still
    (trees_of old) f.all 0 0 s cost reach p in
    omega (arith, counts)
