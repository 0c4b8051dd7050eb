-- Display forms draw the same where the paths that they read have the same values.
use Rattle.std.proofs.Common.{◌≡◌, ℕ, zero, suc, ◌+◌, ◌-◌, ◌==◌, false, if◌then◌else◌, inl, inr, List, [], ◌∷◌, length, Option, Some, None, Result}
use Rattle.std.proofs.Common.{refl, sym, ◌∙◌}
use Rattle.cl_value.specs.Data.{Data}
use Rattle.cl_syntax.specs.ExprTree.{Bindings, ExprTree, unbound, binding}
use Rattle.cl_syntax.specs.ShapeTree as shape
use Rattle.cl_syntax.specs.ShapeTree.{ShapeTree, ShapeTrees, none, form, shape_trees_of}
use Rattle.cl_syntax.specs.TypeSpecTree.{TypeSpecTree}
use Rattle.cl_syntax.specs.UpdateTree.{UpdateTree}
use Rattle.cl_application.specs.App.{display_named}
use Rattle.cl_application.specs.declared.applications.App.{App}
use Rattle.cl_application.specs.declared.declarations.DisplayDecl.{DisplayDecl}
use Rattle.cl_eval.specs.Meaning.{Go, bind_each, entering, means}
use Rattle.cl_eval.specs.Outcome.{Outcome, Gives, Traps, Run, after, give, lift, trap}
use Rattle.cl_eval.specs.ReadPaths.{Apart, ApartAll, InDisplay, ReadsBound, ReadsForm, ReadsForms, ReadsSpec, Within}
use Rattle.cl_eval.specs.Slots.{Env, Slots, bind_parameters}
use Rattle.cl_eval.specs.TypeMeanings.{TypeMeanings}
use Rattle.cl_display.specs.Drawings.{DrawingAt}
use Rattle.cl_display.specs.Figures.{draw_figure}
use Rattle.cl_display.specs.Fresh.{Allowance, Draws, bodies_by, call_display, closes, draws, draws_in, draws_keyed, draws_to, draws_update, for_each}
use Rattle.cl_display.specs.Fresh.{for_members, in_order, left_over, shape_parts, within}
use Rattle.cl_display.specs.Outcomes.{Draw, opens_none, run_of, walk_after, ◌>->◌, ◌>>=◌}
use Rattle.cl_display.specs.Presentations.{Texts, enter_presentation, label_of, leave_presentation, present_text, texts_on, write_value}
use Rattle.cl_display.specs.Settings.{enter_room, indent, leave_room, restore_ink, restore_margin, set_ink}
use Rattle.cl_display.specs.Updates.{KeyAt, enter_body, enter_update, key_at, opening_at}
use Rattle.cl_reuse.specs.ReadValues.{AgreeOnForms, SeesReads, scene_on}
use Rattle.cl_reuse.proofs.ValueLemmas.{On, SameValues, behind, inside, same-cache, same-each, same-id, same-listed, same-tested, same-texts, same-values}

-- the walk behind one outcome
walk-after : {A B : Type 0} (o : Outcome A) (f : A → Run B) (h : B → Draw) → walk_after (after o f) h ≡ walk_after o (λ x. f x >-> h)
walk-after (Gives x c d) f h = refl
walk-after (Traps k c d) f h = refl

outcome-after : {A B : Type 0} (o : Outcome A) (f : A → Run B) (h : B → Draw)
    → after (after o f) (λ x. run_of (h x)) ≡ after o (λ x. run_of (f x >-> h))
outcome-after (Gives x c d) f h = refl
outcome-after (Traps k c d) f h = refl

-- the first binding, and the rest behind its value
draws-binding : (value : Go) (go : Draws) (level : ℕ) (x : List ℕ) (t : ExprTree) (bs : Bindings) (body : ShapeTrees) (e : Env) (s : DrawingAt)
    → draws_in value go level (binding x t bs) body e s ≡ (value level e t >-> λ d. draws_in value go level bs body ((x, d) ∷ e) s)
draws-binding value go level x t bs body e s = λ i c d. record {
  outcome = outcome-after (value level e t c d) (λ v. bind_each value level bs ((x, v) ∷ e)) (λ inner. in_order go level inner body s) i;
  walk = walk-after (value level e t c d) (λ v. bind_each value level bs ((x, v) ∷ e)) (λ inner. in_order go level inner body s) i;
}

module _ (app : App) (slots other : Slots) where
  abbrev pub SameDraws : Draws → Draws → ℕ → Type 0
  SameDraws go go' level =
      (e e' : Env) (f : ShapeTree) → On app slots other (λ p n. ReadsForm (Within n app p) p f) e e' → (s : DrawingAt) → go level e f s ≡ go' level e' f s

  module _ (go go' : Draws) (level : ℕ) (g : SameDraws go go' level) where
    same-order : (e e' : Env) (fs : ShapeTrees) → On app slots other (λ p n. ReadsForms (Within n app p) p fs) e e' → (s : DrawingAt)
        → in_order go level e fs s ≡ in_order go' level e' fs s
    same-order e e' none a s = refl
    same-order e e' (form f fs) a s = λ i. g e e' f (λ p n h. a p n (inl h)) s i >>= λ t. same-order e e' fs (λ p n h. a p n (inr h)) t i

    same-for_each : (e e' : Env) (x : List ℕ) (body : ShapeTrees)
        → On app slots other (λ p n. Apart x p.root × ReadsForms (Within n app p) p body) e e' → (ds : List Data) (s : DrawingAt)
        → for_each go level e x body ds s ≡ for_each go' level e' x body ds s
    same-for_each e e' x body a [] s = refl
    same-for_each e e' x body a (d ∷ ds) s = λ i.
        same-order ((x, d) ∷ e) ((x, d) ∷ e') body (behind app slots other (λ p n. ReadsForms (Within n app p) p body) x d e e' a) s i
        >>= λ t. same-for_each e e' x body a ds t i

    same-to : (e e' : Env) (body : ShapeTrees) → On app slots other (λ p n. ReadsForms (Within n app p) p body) e e' → (leave : DrawingAt → DrawingAt)
        (s : DrawingAt) → draws_to go level e body leave s ≡ draws_to go' level e' body leave s
    same-to e e' body a leave s = λ i. same-order e e' body a s i >>= λ end. opens_none (give (leave end))

    same-within : (e e' : Env) (body : ShapeTrees) → On app slots other (λ p n. ReadsForms (Within n app p) p body) e e' → (entered : Result DrawingAt ℕ)
        (leave : DrawingAt → DrawingAt) → within go level e body entered leave ≡ within go' level e' body entered leave
    same-within e e' body a entered leave = λ i. lift entered >-> λ s. same-to e e' body a leave s i

    same-called : (f : Option DisplayDecl) (e e' : Env) → On app slots other (λ p n. InDisplay (Within n app p) p f) e e' → (ds : List Data) (s : DrawingAt)
        → call_display go level f ds s ≡ call_display go' level f ds s
    same-called None e e' a ds s = refl
    same-called (Some f) e e' a ds s = λ i.
        if length ds == length f.parameters
        then same-order (bind_parameters f.parameters ds) (bind_parameters f.parameters ds) (shape_trees_of f.body)
        (inside app slots other (λ p n. ReadsForms (Within n app p) p (shape_trees_of f.body)) (bind_parameters f.parameters ds) e e'
        (λ p n slot h. a p n (slot, h))) s i
        else opens_none (trap 1)

  -- bodies whose forms draw the same
  same-bodies : (left : ℕ) (inner inner' : Allowance → Draws) → ((allowed : Allowance) → SameDraws (inner allowed) (inner' allowed) 0)
      → (allowed : Allowance) (e e' : Env) (body : ShapeTrees) → On app slots other (λ p n. ReadsForms (Within n app p) p body) e e' → (s : DrawingAt)
      → (bodies_by left inner).draw allowed e body s ≡ (bodies_by left inner').draw allowed e' body s
  same-bodies left inner inner' b allowed e e' body a s = λ i. same-order (inner allowed) (inner' allowed) 0 (b allowed) e e' body a s i 0 0

  module _ (value value' : Go) (go go' : Draws) (level : ℕ) (v : SameValues app slots other value value' level) (g : SameDraws go go' level) where
    same-let : (bs : Bindings) (body : ShapeTrees) (e e' : Env) → On app slots other (λ p n. ReadsBound (Within n app p) p bs) e e'
        → On app slots other (λ p n. ApartAll bs p.root × ReadsForms (Within n app p) p body) e e' → (s : DrawingAt)
        → draws_in value go level bs body e s ≡ draws_in value' go' level bs body e' s
    same-let unbound body e e' a b s = same-order go go' level g e e' body (λ p n h. b p n (tt, h)) s
    same-let (binding x t bs) body e e' a b s =
        draws-binding value go level x t bs body e s
        ∙ (λ i. v e e' t (λ p n h. a p n (inl h)) i
        >-> λ d. same-let bs body ((x, d) ∷ e) ((x, d) ∷ e')
        (behind app slots other (λ p n. ReadsBound (Within n app p) p bs) x d e e' (λ p n h. a p n (inr h)))
        (behind app slots other (λ p n. ApartAll bs p.root × ReadsForms (Within n app p) p body) x d e e' (λ p n h. b p n ((h.0, h.1.0), h.1.1))) s i)
        ∙ sym (draws-binding value' go' level x t bs body e' s)

    module _ (left : ℕ) (inner inner' : Allowance → Draws) (b : (allowed : Allowance) → SameDraws (inner allowed) (inner' allowed) 0)
        (allowed : Allowance) where
      same-keyed : (e e' : Env) (body : ShapeTrees) → On app slots other (λ p n. ReadsForms (Within n app p) p body) e e' → (s : DrawingAt) (key : KeyAt)
          → draws_keyed allowed (bodies_by left inner) level e body s key ≡ draws_keyed allowed (bodies_by left inner') level e' body s key
      same-keyed e e' body a s key = λ i. lift (enter_update allowed.weight key s) >-> λ t cost deepest.
          closes key level t (opening_at key t (allowed.budget - cost) (allowed.weight - t.weight) left)
          (same-bodies left inner inner' b (left_over allowed cost t.weight) e e' body a (enter_body t) i) cost deepest

      same-update : (e e' : Env) (u : UpdateTree) (body : ShapeTrees) → On app slots other (λ p n. ReadsForm (Within n app p) p (shape.Update u body)) e e'
          → (s : DrawingAt) → draws_update allowed value (bodies_by left inner) level e u body s ≡ draws_update allowed value'
          (bodies_by left inner') level e' u body s
      same-update e e' u body a s = λ i. same-id app slots other value value' level v e e' s.siblings u.site u.id (λ p n h. a p n (inl h)) i
          >-> λ id. same-cache app slots other value value' level v e e' u.cache (λ p n h. a p n (inr (inl h))) i
          >-> λ cache. same-keyed e e' body (λ p n h. a p n (inr (inr h))) s (key_at u id cache) i

      -- one row after another
      same-rows : (types : TypeMeanings) (text text' : Texts)
          → ((spec : TypeSpecTree) (e e' : Env) → On app slots other (λ p n. ReadsSpec (Within n app p) spec) e e' → (d : Data)
          → text level spec d ≡ text' level spec d)
          → (e e' : Env) (f : ShapeTree) → On app slots other (λ p n. ReadsForm (Within n app p) p f) e e' → (s : DrawingAt)
          → shape_parts (scene_on app slots types) allowed value text (bodies_by left inner) go level e f s
          ≡ shape_parts (scene_on app other types) allowed value' text' (bodies_by left inner') go' level e' f s
      same-rows types text text' h e e' (shape.WriteText t) a s = λ i. v e e' t a i >-> λ d. opens_none (lift (write_value allowed.weight s d))
      same-rows types text text' h e e' shape.Newline a s = refl
      same-rows types text text' h e e' (shape.Draw figure ts) a s = λ i.
          same-each app slots other value value' level v e e' ts a [] i >-> λ ds. opens_none (lift (draw_figure allowed.weight figure ds s))
      same-rows types text text' h e e' (shape.Indent t body) a s = λ i. v e e' t (λ p n r. a p n (inl r)) i
          >-> λ d. same-within go go' level g e e' body (λ p n r. a p n (inr r)) (indent d s) (restore_margin s.ambient) i
      same-rows types text text' h e e' (shape.Ink t body) a s = λ i. v e e' t (λ p n r. a p n (inl r)) i
          >-> λ d. same-within go go' level g e e' body (λ p n r. a p n (inr r)) (set_ink d s) (restore_ink s.ambient) i
      same-rows types text text' h e e' (shape.Room body) a s = same-to go go' level g e e' body a (leave_room s.ambient s.part) (enter_room s)
      same-rows types text text' h e e' (shape.Present t spec) a s = λ i. v e e' t (λ p n r. a p n (inl r)) i
          >-> λ d. for_members types.holds spec d (h spec e e' (λ p n r. a p n (inr r)) d i
          >-> λ x. opens_none (lift (present_text allowed.weight (label_of spec false d) s x)))
      same-rows types text text' h e e' (shape.AsPresentation p body) a s = λ i. v e e' p.object (λ q n r. a q n (inl r)) i
          >-> λ d. for_members types.holds p.spec d (same-within go go' level g e e' body (λ q n r. a q n (inr r))
          (enter_presentation allowed.weight d s) (leave_presentation (label_of p.spec p.single_box d) s.part) i)
      same-rows types text text' h e e' (shape.Update u body) a s = same-update e e' u body a s
      same-rows types text text' h e e' (shape.If t f k) a s = λ i. same-tested app slots other value value' level v e e' t (λ p n r. a p n (inl r)) i
          >-> λ holds. if holds then g e e' f (λ p n r. a p n (inr (inl r))) s i else g e e' k (λ p n r. a p n (inr (inr r))) s i
      same-rows types text text' h e e' (shape.When t body) a s = λ i. same-tested app slots other value value' level v e e' t (λ p n r. a p n (inl r)) i
          >-> λ holds. if holds then same-order go go' level g e e' body (λ p n r. a p n (inr r)) s i else opens_none (give s)
      same-rows types text text' h e e' (shape.Let bs body) a s = same-let bs body e e' (λ p n r. a p n (inl r)) (λ p n r. a p n (inr r)) s
      same-rows types text text' h e e' (shape.Dolist x t body) a s = λ i. same-listed app slots other value value' level v e e' t (λ p n r. a p n (inl r)) i
          >-> λ ds. same-for_each go go' level g e e' x body (λ p n r. a p n (inr r)) ds s i
      same-rows types text text' h e e' (shape.Progn body) a s = same-order go go' level g e e' body a s
      same-rows types text text' h e e' (shape.Call f ts) a s = λ i. same-each app slots other value value' level v e e' ts (λ p n r. a p n (inl r)) [] i
          >-> λ ds. same-called go go' level g (display_named f app) e e' (λ p n r. a p (suc n) (inr r)) ds s i

  module _ (types : TypeMeanings) (sees : SeesReads app types.presents) where
    pub same-draws : (left : ℕ) (allowed : Allowance) (level : ℕ)
        → SameDraws (draws left allowed (scene_on app slots types)) (draws left allowed (scene_on app other types)) level
    same-draws zero allowed level e e' f a s = refl
    same-draws (suc left) allowed level e e' f a s = λ i. entering (suc left) allowed.budget level
        >-> λ _. same-rows (means left allowed.budget app slots) (means left allowed.budget app other) (draws left allowed (scene_on app slots types))
        (draws left allowed (scene_on app other types)) (level + 1) (same-values app slots other left allowed.budget (level + 1))
        (same-draws left allowed (level + 1)) left (λ inner. draws left inner (scene_on app slots types)) (λ inner. draws left inner (scene_on app other types))
        (λ inner. same-draws left inner 0) allowed types (texts_on types.presents slots allowed.budget left) (texts_on types.presents other allowed.budget left)
        (same-texts app slots other types.presents sees allowed.budget left (level + 1)) e e' f a s i

    pub same-forms : (left : ℕ) (allowed : Allowance) (level : ℕ) (e e' : Env) (forms : ShapeTrees) → AgreeOnForms app forms slots e other e' → (s : DrawingAt)
        → in_order (draws left allowed (scene_on app slots types)) level e forms s ≡ in_order (draws left allowed (scene_on app other types)) level e' forms s
    same-forms left allowed level e e' forms a s =
        same-order (draws left allowed (scene_on app slots types)) (draws left allowed (scene_on app other types)) level (same-draws left allowed level) e e'
        forms (λ p n h. a p (record { calls = n; reads = h })) s
