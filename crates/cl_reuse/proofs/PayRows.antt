-- The rows of display forms, and what is kept of faithful records.
use Rattle.std.proofs.Common.{◌≡◌, refl, sym, ℕ, zero, suc, ◌+◌, ◌-◌, ◌==◌, false, if◌then◌else◌, inl, inr, List, [], ◌∷◌, length, Option, Some, None}
use Rattle.std.proofs.Common.{Result, arith}
use Rattle.std.specs.Prelude.{pos}
use Rattle.cl_value.specs.Data.{Data, int}
use Rattle.cl_region.specs.declared.rects.Shift.{Shift}
use Rattle.cl_syntax.specs.ExprTree.{ExprTree, ExprTrees}
use Rattle.cl_syntax.specs.ShapeTree as shape
use Rattle.cl_syntax.specs.ShapeTree.{ShapeTree, ShapeTrees, none, form, shape_trees_of}
use Rattle.cl_syntax.specs.TypeSpecTree.{TypeSpecTree}
use Rattle.cl_syntax.specs.UpdateTree.{UpdateTree}
use Rattle.cl_syntax.specs.declared.sites.Site.{Site}
use Rattle.cl_application.specs.App.{display_named}
use Rattle.cl_application.specs.declared.applications.App.{App}
use Rattle.cl_application.specs.declared.declarations.DisplayDecl.{DisplayDecl}
use Rattle.cl_cover.specs.Updates.{AreCovered}
use Rattle.cl_eval.specs.Meaning.{Go, bind_each, each, entering, means, parts_of_list, truth_of}
use Rattle.cl_eval.specs.Outcome.{Gives, Outcome, Traps, give, lift, trap}
use Rattle.cl_eval.specs.Slots.{Env, Slots, bind_parameters}
use Rattle.cl_eval.specs.TypeMeanings.{AreTexts, Presents, TypeMeanings}
use Rattle.cl_eval.specs.declared.metering.Limits.{Limits}
use Rattle.cl_eval.proofs.CostLemmas.{GoGrows, Grows, grows-bound, grows-each, grows-entering, grows-give, grows-lift, grows-listed, grows-means}
use Rattle.cl_eval.proofs.CostLemmas.{grows-tested, grows-then}
use Rattle.cl_medium.specs.Items.{Item}
use Rattle.cl_record.specs.Trees.{Trees}
use Rattle.cl_display.specs.Drawings.{DrawingAt, newline}
use Rattle.cl_display.specs.Figures.{draw_figure}
use Rattle.cl_display.specs.Fresh.{Allowance, Draws, bodies_on, call_display, draws, draws_cached, draws_keyed, draws_to, draws_update, for_each}
use Rattle.cl_display.specs.Fresh.{for_members, in_order, presents_body, presents_text, shape_parts, within}
use Rattle.cl_display.specs.Outcomes.{opens_none}
use Rattle.cl_display.specs.Presentations.{Texts, count_in, enter_presentation, label_of, leave_presentation, present_text, texts_on, write_value}
use Rattle.cl_display.specs.Settings.{enter_room, indent, leave_room, restore_ink, restore_margin, set_ink}
use Rattle.cl_display.specs.Siblings.{Siblings, count_at}
use Rattle.cl_display.specs.Updates.{cache_of, id_of, key_at}
use Rattle.cl_reuse.specs.ReadValues.{SeesReads, scene_on}
use Rattle.cl_reuse.specs.Recorded.{AreFaithful}
use Rattle.cl_reuse.specs.Sited.{AreApart, Has, HaveIt, IsUpdateOf, Sited}
use Rattle.cl_reuse.proofs.CacheLemmas.{cache-holds}
use Rattle.cl_reuse.proofs.DisplayNames.{display-declared}
use Rattle.cl_reuse.proofs.PayForms.{BodyPays, keeps-cached, pays-keyed}
use Rattle.cl_reuse.proofs.PayLemmas.{Pays, pays-choice, pays-come, pays-give, pays-lift, pays-then, pays-trap, pays-value}

grows-counted : {A : Type 0} (level : ℕ) (o : Outcome A) → Grows (count_in level o)
grows-counted level (Gives x n r) c d = omega arith
grows-counted level (Traps k n r) c d = omega arith

grows-text : (presents : Presents) (slots : Slots) (budget left level : ℕ) (spec : TypeSpecTree) (e : Data)
    → Grows (texts_on presents slots budget left level spec e)
grows-text presents slots budget left level spec e c d =
    let limits : Limits = record { budget = budget - c; depth = left } in
    grows-counted level (presents limits slots spec e) c d

module _ (app : App) (slots : Slots) (types : TypeMeanings) where
  -- forms all of whose updates stand in the application
  abbrev pub Own : ShapeTree → Type 0
  Own f = (w : Sited) → Has w f → IsUpdateOf app w

  abbrev pub AllOwn : ShapeTrees → Type 0
  AllOwn fs = (w : Sited) → HaveIt w fs → IsUpdateOf app w

  abbrev pub AllPay : ℕ → Draws → Type 0
  AllPay level go = (env : Env) (f : ShapeTree) → Own f → (s : DrawingAt) (at : Shift) (old : Trees Item) → AreFaithful app types old
      → Pays at old (go level env f s)

  module _ (go : Draws) (level : ℕ) (g : AllPay level go) where
    pays-order : (env : Env) (fs : ShapeTrees) → AllOwn fs → (s : DrawingAt) (at : Shift) (old : Trees Item) → AreFaithful app types old
        → Pays at old (in_order go level env fs s)
    pays-order env none of s at old k = pays-give at old s
    pays-order env (form f fs) of s at old k =
        pays-then at old (go level env f s) (in_order go level env fs) (g env f (λ w h. of w (inl h)) s at old k)
        (λ t. pays-order env fs (λ w h. of w (inr h)) t at old k)

    module _ (at : Shift) (old : Trees Item) (k : AreFaithful app types old) where
      pays-each : (env : Env) (x : List ℕ) (body : ShapeTrees) → AllOwn body → (ds : List Data) (s : DrawingAt)
          → Pays at old (for_each go level env x body ds s)
      pays-each env x body of [] s = pays-give at old s
      pays-each env x body of (d ∷ ds) s =
          pays-then at old (in_order go level ((x, d) ∷ env) body s) (for_each go level env x body ds) (pays-order ((x, d) ∷ env) body of s at old k)
          (pays-each env x body of ds)

      pays-to : (env : Env) (body : ShapeTrees) → AllOwn body → (leave : DrawingAt → DrawingAt) (s : DrawingAt)
          → Pays at old (draws_to go level env body leave s)
      pays-to env body of leave s =
          pays-then at old (in_order go level env body s) (λ end. opens_none (give (leave end))) (pays-order env body of s at old k)
          (λ t. pays-give at old (leave t))

      pays-within : (env : Env) (body : ShapeTrees) → AllOwn body → (r : Result DrawingAt ℕ) (leave : DrawingAt → DrawingAt)
          → Pays at old (within go level env body r leave)
      pays-within env body of r leave = pays-value at old (lift r) (draws_to go level env body leave) (grows-lift r) (pays-to env body of leave)

      pays-called : (x : List ℕ) (f : Option DisplayDecl) → display_named x app ≡ f → (ds : List Data) (s : DrawingAt)
          → Pays at old (call_display go level f ds s)
      pays-called x None e ds s = pays-trap at old 1
      pays-called x (Some f) e ds s =
          pays-choice at old (length ds == length f.parameters) (in_order go level (bind_parameters f.parameters ds) (shape_trees_of f.body) s)
          (opens_none (trap 1))
          (pays-order (bind_parameters f.parameters ds) (shape_trees_of f.body) (λ w h. display-declared app x f e w h) s at old k) (pays-trap at old 1)

  grows-id : (value : Go) → ((level : ℕ) (e : Env) (t : ExprTree) → Grows (value level e t))
      → (level : ℕ) (env : Env) (siblings : Siblings) (site : Site) (t : Option ExprTree)
      → Grows (id_of value level env siblings site t)
  grows-id value v level env siblings site None = grows-give (int (pos (count_at site siblings)))
  grows-id value v level env siblings site (Some t) = v level env t

  grows-cache : (left budget level : ℕ) (env : Env) (ts : Option ExprTrees) → Grows (cache_of (means left budget app slots) level env ts)
  grows-cache left budget level env None = grows-give {A = Option (List Data)} None
  grows-cache left budget level env (Some ts) =
      grows-then (each (means left budget app slots) level env ts []) (λ ds. give (Some ds))
      (grows-each (means left budget app slots) (grows-means left budget app slots) level env ts []) (λ ds. grows-give (Some ds))

  pub no-cache-comes : (left budget level : ℕ) (env : Env) (ts : Option ExprTrees) (c d : ℕ) (cache : Option (List Data)) (i j : ℕ)
      → cache_of (means left budget app slots) level env ts c d ≡ Gives cache i j → ts ≡ None → cache ≡ None
  no-cache-comes left budget level env None c d cache i j q e =
      let same : None ≡ cache = cc in
      sym same
  no-cache-comes left budget level env (Some ts) c d cache i j q e = cc

  module _ (texts : AreTexts app types.presents) (sees : SeesReads app types.presents) (covered : AreCovered app) (apart : AreApart app) (left : ℕ)
      (below : (allowed : Allowance) (level : ℕ) → AllPay level (draws left allowed (scene_on app slots types))) where
    pays-bodies : (env : Env) (body : ShapeTrees) → AllOwn body → (inner : Allowance) (s : DrawingAt)
        → BodyPays app slots types ((bodies_on left (scene_on app slots types)).draw inner env body s)
    pays-bodies env body of inner s at old k =
        pays-order (draws left inner (scene_on app slots types)) 0 (below inner 0) env body of s at old k 0 0

    module _ (allowed : Allowance) (level : ℕ) (at : Shift) (old : Trees Item) (k : AreFaithful app types old) where
      pays-update : (env : Env) (u : UpdateTree) (body : ShapeTrees) → Own (shape.Update u body) → (s : DrawingAt)
          → Pays at old (draws_update allowed (means left allowed.budget app slots) (bodies_on left (scene_on app slots types)) level env u body s)
      pays-update env u body of s =
          let value = means left allowed.budget app slots in
          let bodies = bodies_on left (scene_on app slots types) in
          pays-value at old (id_of value level env s.siblings u.site u.id) (draws_cached allowed value bodies level env u body s)
          (grows-id value (grows-means left allowed.budget app slots) level env s.siblings u.site u.id)
          (λ id. pays-come at old (cache_of value level env u.cache) (λ cache. draws_keyed allowed bodies level env body s (key_at u id cache))
          (grows-cache left allowed.budget level env u.cache)
          (λ cache c d i j q. pays-keyed app slots types allowed left level env body (key_at u id cache)
          (keeps-cached app slots types texts sees covered apart u env body of id cache u.cache refl
          (cache-holds app slots env left allowed.budget level u.cache c d cache i j q) (no-cache-comes left allowed.budget level env u.cache c d cache i j q))
          (pays-bodies env body (λ w h. of w (inr h))) s at old k i j))

      -- the meanings there
      abbrev value : Go
      value = means left allowed.budget app slots

      abbrev text : Texts
      text = texts_on types.presents slots allowed.budget left

      abbrev go : Draws
      go = draws left allowed (scene_on app slots types)

      v : GoGrows value
      v = grows-means left allowed.budget app slots

      g : AllPay level go
      g = below allowed level

      -- one row after another
      pays-rows : (env : Env) (f : ShapeTree) → Own f → (s : DrawingAt)
          → Pays at old (shape_parts (scene_on app slots types) allowed (means left allowed.budget app slots)
          (texts_on types.presents slots allowed.budget left)
          (bodies_on left (scene_on app slots types)) (draws left allowed (scene_on app slots types)) level env f s)
      pays-rows env (shape.WriteText t) of s =
          pays-value at old (value level env t) (λ d. opens_none (lift (write_value allowed.weight s d))) (v level env t)
          (λ d. pays-lift at old (write_value allowed.weight s d))
      pays-rows env shape.Newline of s = pays-lift at old (newline s)
      pays-rows env (shape.Draw figure ts) of s =
          pays-value at old (each value level env ts []) (λ ds. opens_none (lift (draw_figure allowed.weight figure ds s))) (grows-each value v level env ts [])
          (λ ds. pays-lift at old (draw_figure allowed.weight figure ds s))
      pays-rows env (shape.Indent t body) of s =
          pays-value at old (value level env t) (λ d. within go level env body (indent d s) (restore_margin s.ambient)) (v level env t)
          (λ d. pays-within go level g at old k env body of (indent d s) (restore_margin s.ambient))
      pays-rows env (shape.Ink t body) of s =
          pays-value at old (value level env t) (λ d. within go level env body (set_ink d s) (restore_ink s.ambient)) (v level env t)
          (λ d. pays-within go level g at old k env body of (set_ink d s) (restore_ink s.ambient))
      pays-rows env (shape.Room body) of s = pays-to go level g at old k env body of (leave_room s.ambient s.part) (enter_room s)
      pays-rows env (shape.Present t spec) of s =
          pays-value at old (value level env t) (λ d. for_members types.holds spec d (presents_text allowed.weight text level spec s d)) (v level env t)
          (λ d. pays-choice at old (types.holds d spec) (presents_text allowed.weight text level spec s d) (opens_none (trap 1))
          (pays-value at old (text level spec d) (λ x. opens_none (lift (present_text allowed.weight (label_of spec false d) s x)))
          (grows-text types.presents slots allowed.budget left level spec d) (λ x. pays-lift at old (present_text allowed.weight (label_of spec false d) s x)))
          (pays-trap at old 1))
      pays-rows env (shape.AsPresentation p body) of s =
          pays-value at old (value level env p.object) (λ d. for_members types.holds p.spec d (presents_body allowed.weight go level env p body s d))
          (v level env p.object)
          (λ d. pays-choice at old (types.holds d p.spec) (presents_body allowed.weight go level env p body s d) (opens_none (trap 1))
          (pays-within go level g at old k env body of (enter_presentation allowed.weight d s) (leave_presentation (label_of p.spec p.single_box d) s.part))
          (pays-trap at old 1))
      pays-rows env (shape.Update u body) of s = pays-update env u body of s
      pays-rows env (shape.If t e f) of s =
          pays-value at old (truth_of value level env t) (λ holds. if holds then go level env e s else go level env f s) (grows-tested value v level env t)
          (λ holds. pays-choice at old holds (go level env e s) (go level env f s) (g env e (λ w h. of w (inl h)) s at old k)
          (g env f (λ w h. of w (inr h)) s at old k))
      pays-rows env (shape.When t body) of s =
          pays-value at old (truth_of value level env t) (λ holds. if holds then in_order go level env body s else opens_none (give s))
          (grows-tested value v level env t)
          (λ holds. pays-choice at old holds (in_order go level env body s) (opens_none (give s)) (pays-order go level g env body of s at old k)
          (pays-give at old s))
      pays-rows env (shape.Let bs body) of s =
          pays-value at old (bind_each value level bs env) (λ inner. in_order go level inner body s) (grows-bound value v level bs env)
          (λ inner. pays-order go level g inner body of s at old k)
      pays-rows env (shape.Dolist x t body) of s =
          pays-value at old (parts_of_list value level env t) (λ ds. for_each go level env x body ds s) (grows-listed value v level env t)
          (λ ds. pays-each go level g at old k env x body of ds s)
      pays-rows env (shape.Progn body) of s = pays-order go level g env body of s at old k
      pays-rows env (shape.Call f ts) of s =
          pays-value at old (each value level env ts []) (λ ds. call_display go level (display_named f app) ds s) (grows-each value v level env ts [])
          (λ ds. pays-called go level g at old k f (display_named f app) refl ds s)

  module _ (texts : AreTexts app types.presents) (sees : SeesReads app types.presents) (covered : AreCovered app) (apart : AreApart app) where
    pays-draws : (left : ℕ) (allowed : Allowance) (level : ℕ) → AllPay level (draws left allowed (scene_on app slots types))
    pays-draws zero allowed level env f of s at old k =
        pays-value at old (entering 0 allowed.budget level) (λ _. opens_none (trap 6)) (grows-entering 0 allowed.budget level) (λ _. pays-trap at old 6)
    pays-draws (suc left) allowed level env f of s at old k =
        pays-value at old (entering (suc left) allowed.budget level)
        (λ _. shape_parts (scene_on app slots types) allowed (means left allowed.budget app slots) (texts_on types.presents slots allowed.budget left)
        (bodies_on left (scene_on app slots types)) (draws left allowed (scene_on app slots types)) (level + 1) env f s)
        (grows-entering (suc left) allowed.budget level)
        (λ _. pays-rows texts sees covered apart left (pays-draws left) allowed (level + 1) at old k env f of s)

    pub pays-forms : (left : ℕ) (allowed : Allowance) (level : ℕ) (env : Env) (forms : ShapeTrees) → AllOwn forms
        → (s : DrawingAt) (at : Shift) (old : Trees Item)
        → AreFaithful app types old → Pays at old (in_order (draws left allowed (scene_on app slots types)) level env forms s)
    pays-forms left allowed level env forms of s at old k =
        pays-order (draws left allowed (scene_on app slots types)) level (pays-draws left allowed level) env forms of s at old k
