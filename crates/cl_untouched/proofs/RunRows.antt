-- The rows of display forms over old records, as children that agree with these.
use Rattle.std.proofs.Common.{◌≡◌, ap, refl, subst, ℕ, zero, suc, ◌+◌, ◌==◌, nat_le, Bool, true, false, if◌then◌else◌, inl, inr, List, [], ◌∷◌, length}
use Rattle.std.proofs.Common.{Option, Some, None, Result, Ok, Err}
use Rattle.cl_value.specs.Data.{Data}
use Rattle.cl_region.specs.declared.rects.Shift.{Shift}
use Rattle.cl_syntax.specs.ShapeTree as shape
use Rattle.cl_syntax.specs.ShapeTree.{ShapeTree, ShapeTrees, none, form, shape_trees_of}
use Rattle.cl_syntax.specs.UpdateTree.{UpdateTree}
use Rattle.cl_application.specs.App.{display_named}
use Rattle.cl_application.specs.declared.applications.App.{App}
use Rattle.cl_application.specs.declared.declarations.DisplayDecl.{DisplayDecl}
use Rattle.cl_cover.specs.Updates.{AreCovered}
use Rattle.cl_eval.specs.Meaning.{Go, bind_each, each, entering, means, parts_of_list, truth_of}
use Rattle.cl_eval.specs.Outcome.{give, lift, trap}
use Rattle.cl_eval.specs.Slots.{Env, Slots, bind_parameters}
use Rattle.cl_eval.specs.TypeMeanings.{AreTexts, TypeMeanings}
use Rattle.cl_medium.specs.Items.{Item}
use Rattle.cl_record.specs.Labels.{LabelAt}
use Rattle.cl_record.specs.Trees.{Trees}
use Rattle.cl_display.specs.Drawings.{DrawingAt, PartAt, newline, start}
use Rattle.cl_display.specs.Figures.{draw_figure, figure_parts}
use Rattle.cl_display.specs.Fresh.{Allowance, Draws, bodies_on, call_display, draws, draws_cached, draws_keyed, draws_to, draws_update, for_each}
use Rattle.cl_display.specs.Fresh.{for_members, in_order, presents_body, presents_text, shape_parts, within}
use Rattle.cl_display.specs.Outcomes.{opens_none}
use Rattle.cl_display.specs.Presentations.{Texts, label_of, label_weight, leave_presentation, present_text, texts_on, write_value}
use Rattle.cl_display.specs.Settings.{enter_room, indent, leave_room, restore_ink, restore_margin, set_ink}
use Rattle.cl_display.specs.Updates.{cache_of, id_of, key_at}
use Rattle.cl_reuse.specs.ReadValues.{SeesReads, scene_on}
use Rattle.cl_reuse.specs.Recorded.{AreFaithful}
use Rattle.cl_reuse.specs.Sited.{AreApart}
use Rattle.cl_reuse.proofs.CacheLemmas.{cache-holds}
use Rattle.cl_reuse.proofs.DisplayNames.{display-declared}
use Rattle.cl_reuse.proofs.PayForms.{ends-cached}
use Rattle.cl_reuse.proofs.PayRows.{AllOwn, Own, no-cache-comes}
use Rattle.cl_record.specs.Marks.{Mark}
use Rattle.cl_display.specs.Walks.{Walk}
use Rattle.cl_reuse.specs.Once.{AreOnce, HoldOnce, names}
use Rattle.cl_untouched.proofs.RunForms.{Renews, RunRenews, StepRenews, figure-renews, indent-renews, ink-renews, newline-renews, present_text-renews}
use Rattle.cl_untouched.proofs.RunForms.{renews-choice, renews-come, renews-give, renews-joined, renews-leave, renews-lift, renews-over, renews-presented}
use Rattle.cl_untouched.proofs.RunForms.{renews-sequence, renews-set, renews-trap, renews-value, value-renews}
use Rattle.cl_untouched.proofs.UpdateForms.{BodyRenews, renews-keyed}

module _ (app : App) (slots : Slots) (types : TypeMeanings) where
  -- faithful, and no level has a name twice
  abbrev pub AreSound : Trees Item → Type 0
  AreSound old = AreFaithful app types old × (AreOnce (names old) × HoldOnce old)

  -- each form renews over all such records
  abbrev pub AllRenew : ℕ → Draws → Type 0
  AllRenew level go = (env : Env) (f : ShapeTree) → Own app slots types f → (s : DrawingAt) (at : Shift) (old : Trees Item) → AreSound old
      → RunRenews at old s (go level env f s)

  module _ (go : Draws) (level : ℕ) (g : AllRenew level go) where
    pub renews-order : (env : Env) (fs : ShapeTrees) → AllOwn app slots types fs → (s : DrawingAt) (at : Shift) (old : Trees Item) → AreSound old
        → RunRenews at old s (in_order go level env fs s)
    renews-order env none of s at old k = renews-give at old s
    renews-order env (form f fs) of s at old k =
        renews-sequence at old s (go level env f s) (in_order go level env fs) (g env f (λ w h. of w (inl h)) s at old k)
        (λ t. renews-order env fs (λ w h. of w (inr h)) t at old k)

    module _ (at : Shift) (old : Trees Item) (k : AreSound old) where
      renews-each : (env : Env) (x : List ℕ) (body : ShapeTrees) → AllOwn app slots types body → (ds : List Data) (s : DrawingAt)
          → RunRenews at old s (for_each go level env x body ds s)
      renews-each env x body of [] s = renews-give at old s
      renews-each env x body of (d ∷ ds) s =
          renews-sequence at old s (in_order go level ((x, d) ∷ env) body s) (for_each go level env x body ds)
          (renews-order ((x, d) ∷ env) body of s at old k) (renews-each env x body of ds)

      -- a body that is drawn from u
      renews-to : (env : Env) (body : ShapeTrees) → AllOwn app slots types body → (s u : DrawingAt) (leave : DrawingAt → DrawingAt)
          → ((t : DrawingAt) (w : Walk) → Renews at old u.part.marks t.part.marks w → Renews at old s.part.marks (leave t).part.marks w)
          → RunRenews at old s (draws_to go level env body leave u)
      renews-to env body of s u leave h = renews-leave at old s u (in_order go level env body u) leave (renews-order env body of u at old k) h

      -- a body behind what was set, which draws nothing
      renews-within : (env : Env) (body : ShapeTrees) → AllOwn app slots types body → (s : DrawingAt) (r : Result DrawingAt ℕ) (leave : DrawingAt → DrawingAt)
          → StepRenews at old s r → ((t : DrawingAt) → (leave t).part ≡ t.part) → RunRenews at old s (within go level env body r leave)
      renews-within env body of s r leave h e =
          renews-set at old s r (draws_to go level env body leave) h
          (λ u. renews-to env body of u u leave (λ t w q. renews-over at old u.part.marks t.part.marks (leave t).part.marks w q (ap (λ (p : PartAt). p.marks) (e t))))

      renews-in_presentation : (env : Env) (body : ShapeTrees) → AllOwn app slots types body → (s : DrawingAt) (weight : ℕ) (label : LabelAt) (b : Bool)
          → RunRenews at old s (within go level env body (if b then Ok (start (record s { weight = weight })) else Err 10) (leave_presentation label s.part))
      renews-in_presentation env body of s weight label true =
          renews-to env body of s (start (record s { weight = weight })) (leave_presentation label s.part)
          (λ t w q. renews-presented at old label s.part.marks t.part.marks w q)
      renews-in_presentation env body of s weight label false = renews-trap at old s 10

      renews-called : (x : List ℕ) (f : Option DisplayDecl) → display_named x app ≡ f → (ds : List Data) (s : DrawingAt)
          → RunRenews at old s (call_display go level f ds s)
      renews-called x None e ds s = renews-trap at old s 1
      renews-called x (Some f) e ds s =
          renews-choice at old s (length ds == length f.parameters) (in_order go level (bind_parameters f.parameters ds) (shape_trees_of f.body) s)
          (opens_none (trap 1))
          (renews-order (bind_parameters f.parameters ds) (shape_trees_of f.body) (λ w h. display-declared app x f e w h) s at old k)
          (renews-trap at old s 1)

  module _ (texts : AreTexts app types.presents) (sees : SeesReads app types.presents) (covered : AreCovered app) (apart : AreApart app) (left : ℕ)
      (below : (allowed : Allowance) (level : ℕ) → AllRenew level (draws left allowed (scene_on app slots types))) where
    renews-bodies : (env : Env) (body : ShapeTrees) → AllOwn app slots types body → (inner : Allowance) (s : DrawingAt) → s.part.marks ≡ []
        → BodyRenews app types ((bodies_on left (scene_on app slots types)).draw inner env body s)
    renews-bodies env body of inner s empty at old k once t n l p =
        subst (λ (ms : List (Mark Item)). Renews at old ms t.part.marks ((bodies_on left (scene_on app slots types)).draw inner env body s).walk) empty
        (renews-order (draws left inner (scene_on app slots types)) 0 (below inner 0) env body of s at old (k, once) 0 0 t n l p)

    module _ (allowed : Allowance) (level : ℕ) (at : Shift) (old : Trees Item) (k : AreSound old) where
      renews-update : (env : Env) (u : UpdateTree) (body : ShapeTrees) → Own app slots types (shape.Update u body) → (s : DrawingAt)
          → RunRenews at old s (draws_update allowed (means left allowed.budget app slots) (bodies_on left (scene_on app slots types)) level env u body s)
      renews-update env u body of s =
          let value = means left allowed.budget app slots in
          let bodies = bodies_on left (scene_on app slots types) in
          renews-value at old s (id_of value level env s.siblings u.site u.id) (draws_cached allowed value bodies level env u body s)
          (λ id. renews-come at old s (cache_of value level env u.cache) (λ cache. draws_keyed allowed bodies level env body s (key_at u id cache))
          (λ cache c d i j q. renews-keyed app types slots allowed left level env body (key_at u id cache)
          (ends-cached app slots types texts sees covered apart u env body of id cache u.cache refl
          (cache-holds app slots env left allowed.budget level u.cache c d cache i j q)
          (no-cache-comes app slots types left allowed.budget level env u.cache c d cache i j q))
          (renews-bodies env body (λ w h. of w (inr h))) at old k.0 k.1 s i j))

      -- the meanings there
      abbrev value : Go
      value = means left allowed.budget app slots

      abbrev text : Texts
      text = texts_on types.presents slots allowed.budget left

      abbrev go : Draws
      go = draws left allowed (scene_on app slots types)

      g : AllRenew level go
      g = below allowed level

      -- one row after another
      renews-rows : (env : Env) (f : ShapeTree) → Own app slots types f → (s : DrawingAt)
          → RunRenews at old s (shape_parts (scene_on app slots types) allowed value text (bodies_on left (scene_on app slots types)) go level env f s)
      renews-rows env (shape.WriteText t) of s =
          renews-value at old s (value level env t) (λ d. opens_none (lift (write_value allowed.weight s d)))
          (λ d. renews-lift at old s (write_value allowed.weight s d) (value-renews at old allowed.weight s d))
      renews-rows env shape.Newline of s = renews-lift at old s (newline s) (newline-renews at old s)
      renews-rows env (shape.Draw figure ts) of s =
          renews-value at old s (each value level env ts []) (λ ds. opens_none (lift (draw_figure allowed.weight figure ds s)))
          (λ ds. renews-lift at old s (draw_figure allowed.weight figure ds s) (figure-renews at old allowed.weight (figure_parts figure ds) s))
      renews-rows env (shape.Indent t body) of s =
          renews-value at old s (value level env t) (λ d. within go level env body (indent d s) (restore_margin s.ambient))
          (λ d. renews-within go level g at old k env body of s (indent d s) (restore_margin s.ambient) (indent-renews at old s d) (λ x. refl))
      renews-rows env (shape.Ink t body) of s =
          renews-value at old s (value level env t) (λ d. within go level env body (set_ink d s) (restore_ink s.ambient))
          (λ d. renews-within go level g at old k env body of s (set_ink d s) (restore_ink s.ambient) (ink-renews at old s d) (λ x. refl))
      renews-rows env (shape.Room body) of s =
          renews-to go level g at old k env body of s (enter_room s) (leave_room s.ambient s.part)
          (λ t w q. renews-joined at old s.part.marks t.part.marks w q)
      renews-rows env (shape.Present t spec) of s =
          renews-value at old s (value level env t) (λ d. for_members types.holds spec d (presents_text allowed.weight text level spec s d))
          (λ d. renews-choice at old s (types.holds d spec) (presents_text allowed.weight text level spec s d) (opens_none (trap 1))
          (renews-value at old s (text level spec d) (λ x. opens_none (lift (present_text allowed.weight (label_of spec false d) s x)))
          (λ x. renews-lift at old s (present_text allowed.weight (label_of spec false d) s x)
          (present_text-renews at old allowed.weight (label_of spec false d) s x)))
          (renews-trap at old s 1))
      renews-rows env (shape.AsPresentation p body) of s =
          renews-value at old s (value level env p.object)
          (λ d. for_members types.holds p.spec d (presents_body allowed.weight go level env p body s d))
          (λ d. renews-choice at old s (types.holds d p.spec) (presents_body allowed.weight go level env p body s d) (opens_none (trap 1))
          (renews-in_presentation go level g at old k env body of s (s.weight + label_weight d) (label_of p.spec p.single_box d)
          (nat_le (s.weight + label_weight d) allowed.weight))
          (renews-trap at old s 1))
      renews-rows env (shape.Update u body) of s = renews-update env u body of s
      renews-rows env (shape.If t e f) of s =
          renews-value at old s (truth_of value level env t) (λ holds. if holds then go level env e s else go level env f s)
          (λ holds. renews-choice at old s holds (go level env e s) (go level env f s) (g env e (λ w h. of w (inl h)) s at old k)
          (g env f (λ w h. of w (inr h)) s at old k))
      renews-rows env (shape.When t body) of s =
          renews-value at old s (truth_of value level env t) (λ holds. if holds then in_order go level env body s else opens_none (give s))
          (λ holds. renews-choice at old s holds (in_order go level env body s) (opens_none (give s)) (renews-order go level g env body of s at old k)
          (renews-give at old s))
      renews-rows env (shape.Let bs body) of s =
          renews-value at old s (bind_each value level bs env) (λ inner. in_order go level inner body s)
          (λ inner. renews-order go level g inner body of s at old k)
      renews-rows env (shape.Dolist x t body) of s =
          renews-value at old s (parts_of_list value level env t) (λ ds. for_each go level env x body ds s)
          (λ ds. renews-each go level g at old k env x body of ds s)
      renews-rows env (shape.Progn body) of s = renews-order go level g env body of s at old k
      renews-rows env (shape.Call f ts) of s =
          renews-value at old s (each value level env ts []) (λ ds. call_display go level (display_named f app) ds s)
          (λ ds. renews-called go level g at old k f (display_named f app) refl ds s)

  module _ (texts : AreTexts app types.presents) (sees : SeesReads app types.presents) (covered : AreCovered app) (apart : AreApart app) where
    pub renews-draws : (left : ℕ) (allowed : Allowance) (level : ℕ) → AllRenew level (draws left allowed (scene_on app slots types))
    renews-draws zero allowed level env f of s at old k =
        renews-value at old s (entering 0 allowed.budget level) (λ _. opens_none (trap 6)) (λ _. renews-trap at old s 6)
    renews-draws (suc left) allowed level env f of s at old k =
        renews-value at old s (entering (suc left) allowed.budget level)
        (λ _. shape_parts (scene_on app slots types) allowed (means left allowed.budget app slots) (texts_on types.presents slots allowed.budget left)
        (bodies_on left (scene_on app slots types)) (draws left allowed (scene_on app slots types)) (level + 1) env f s)
        (λ _. renews-rows texts sees covered apart left (renews-draws left) allowed (level + 1) at old k env f of s)
