-- The rows of display forms draw faithful records.
use Rattle.std.proofs.Common.{◌≡◌, ap, subst, refl, ℕ, zero, suc, ◌+◌, ◌==◌, Bool, true, false, if◌then◌else◌, nat_le, inl, inr, List, [], ◌∷◌}
use Rattle.std.proofs.Common.{length, Option, Some, None, Result, Ok, Err}
use Rattle.std.specs.Prelude.{IfSome}
use Rattle.cl_value.specs.Data.{Data}
use Rattle.cl_syntax.specs.ExprTree.{ExprTrees}
use Rattle.cl_syntax.specs.ShapeTree as shape
use Rattle.cl_syntax.specs.ShapeTree.{ShapeTree, ShapeTrees, none, form, shape_trees_of}
use Rattle.cl_syntax.specs.UpdateTree.{UpdateTree}
use Rattle.cl_application.specs.App.{display_named}
use Rattle.cl_application.specs.declared.applications.App.{App}
use Rattle.cl_application.specs.declared.declarations.DisplayDecl.{DisplayDecl}
use Rattle.cl_eval.specs.Meaning.{Go, bind_each, each, entering, means, parts_of_list, truth_of}
use Rattle.cl_eval.specs.Outcome.{Gives, Outcome, Run, Traps, after, give, lift, trap}
use Rattle.cl_eval.specs.Slots.{Env, Slots, bind_parameters}
use Rattle.cl_eval.specs.TypeMeanings.{TypeMeanings}
use Rattle.cl_eval.proofs.LimitLemmas.{no_value}
use Rattle.cl_record.specs.Labels.{LabelAt}
use Rattle.cl_display.specs.Drawings.{DrawingAt, newline, start}
use Rattle.cl_display.specs.Figures.{draw_figure, figure_parts}
use Rattle.cl_display.specs.Fresh.{Allowance, Draws as Meaning, bodies_on, call_display, draws, draws_body, draws_cached, draws_keyed, draws_to}
use Rattle.cl_display.specs.Fresh.{draws_update, for_each}
use Rattle.cl_display.specs.Fresh.{for_members, in_order, left_over, presents_body, presents_text, shape_parts, within}
use Rattle.cl_display.specs.Outcomes.{Draw, opens_none, run_of, ◌>->◌, ◌>>=◌}
use Rattle.cl_display.specs.Presentations.{Texts, label_of, label_weight, leave_presentation, present_text, texts_on, write_value}
use Rattle.cl_display.specs.Settings.{enter_room, indent, leave_room, restore_ink, restore_margin, set_ink}
use Rattle.cl_display.specs.Siblings.{is_taken, note}
use Rattle.cl_display.specs.Updates.{KeyAt, cache_of, end_update, enter_body, head_at, id_of, key_at, key_weight}
use Rattle.cl_reuse.specs.ReadValues.{scene_on}
use Rattle.cl_reuse.specs.Recorded.{IsRecorded}
use Rattle.cl_reuse.specs.Sited.{HoldCache}
use Rattle.cl_reuse.proofs.CacheLemmas.{cache-holds}
use Rattle.cl_reuse.proofs.DisplayNames.{display-declared}
use Rattle.cl_reuse.proofs.FaithForms.{Draws, DrawsTo, StepDraws, draws-joined, draws-none, draws-presented, draws-then, draws-updated, figure-draws}
use Rattle.cl_reuse.proofs.FaithForms.{indent-draws, ink-draws}
use Rattle.cl_reuse.proofs.FaithForms.{newline-draws, present_text-draws, value-draws}
use Rattle.cl_reuse.proofs.PayRows.{AllOwn, Own, no-cache-comes}

-- the drawing at an end
abbrev end_of : DrawingAt → Outcome DrawingAt → DrawingAt
end_of s (Gives t cost deepest) = t
end_of s (Traps kind cost deepest) = s

module _ (app : App) (types : TypeMeanings) where
  -- where the draw ends, faithful records were drawn
  abbrev pub RunDraws : DrawingAt → Draw → Type 0
  RunDraws s m = (c d : ℕ) (t : DrawingAt) (n l : ℕ) → (m c d).outcome ≡ Gives t n l → DrawsTo app types s t

  lift-run : (s : DrawingAt) (r : Result DrawingAt ℕ) → StepDraws app types s r → RunDraws s (opens_none (lift r))
  lift-run s (Ok u) h c d t n l p = subst (λ (x : DrawingAt). DrawsTo app types s x) (ap (end_of s) p) h
  lift-run s (Err k) h c d t n l p = absurd (no_value k c d t n l p)

  give-run : (s : DrawingAt) → RunDraws s (opens_none (give s))
  give-run s = lift-run s (Ok s) (draws-none app types s.siblings s.siblings s.part.marks s.part.marks refl refl)

  trap-run : (s : DrawingAt) (k : ℕ) → RunDraws s (opens_none (trap k))
  trap-run s k c d t n l p = absurd (no_value k c d t n l p)

  choice-run : (s : DrawingAt) (b : Bool) (m n : Draw) → RunDraws s m → RunDraws s n → RunDraws s (if b then m else n)
  choice-run s true m n g h = g
  choice-run s false m n g h = h

  behind-run : (s : DrawingAt) (m : Draw) (f : DrawingAt → Draw) → RunDraws s m → ((u : DrawingAt) → RunDraws u (f u)) → (c d : ℕ) (o : Outcome DrawingAt)
      → (m c d).outcome ≡ o → (t : DrawingAt) (n l : ℕ) → after o (λ x. run_of (f x)) ≡ Gives t n l → DrawsTo app types s t
  behind-run s m f g h c d (Gives u i j) q t n l p =
      draws-then app types s.siblings u.siblings t.siblings s.part.marks u.part.marks t.part.marks (g c d u i j q) (h u i j t n l p)
  behind-run s m f g h c d (Traps k i j) q t n l p = absurd (no_value k i j t n l p)

  then-run : (s : DrawingAt) (m : Draw) (f : DrawingAt → Draw) → RunDraws s m → ((u : DrawingAt) → RunDraws u (f u)) → RunDraws s (m >>= f)
  then-run s m f g h c d t n l p = behind-run s m f g h c d (m c d).outcome refl t n l p

  given-run : {A : Type 0} (s : DrawingAt) (m : Run A) (f : A → Draw) (c d : ℕ)
      → ((x : A) (i j : ℕ) → m c d ≡ Gives x i j → (t : DrawingAt) (n l : ℕ) → (f x i j).outcome ≡ Gives t n l → DrawsTo app types s t)
      → (o : Outcome A) → m c d ≡ o → (t : DrawingAt) (n l : ℕ) → after o (λ x. run_of (f x)) ≡ Gives t n l → DrawsTo app types s t
  given-run s m f c d h (Gives x i j) q t n l p = h x i j q t n l p
  given-run s m f c d h (Traps k i j) q t n l p = absurd (no_value k i j t n l p)

  value-run : {A : Type 0} (s : DrawingAt) (m : Run A) (f : A → Draw) → ((x : A) → RunDraws s (f x)) → RunDraws s (m >-> f)
  value-run s m f h c d t n l p = given-run s m f c d (λ x i j q. h x i j) (m c d) refl t n l p

  -- the same where it counts how the value came
  come-run : {A : Type 0} (s : DrawingAt) (m : Run A) (f : A → Draw)
      → ((x : A) (c d i j : ℕ) → m c d ≡ Gives x i j → (t : DrawingAt) (n l : ℕ) → (f x i j).outcome ≡ Gives t n l → DrawsTo app types s t)
      → RunDraws s (m >-> f)
  come-run s m f h c d t n l p = given-run s m f c d (λ x i j q. h x c d i j q) (m c d) refl t n l p

  -- a body that is drawn from u, and left
  left-run : (s u : DrawingAt) (m : Draw) (leave : DrawingAt → DrawingAt) → RunDraws u m
      → ((t : DrawingAt) → DrawsTo app types u t → DrawsTo app types s (leave t))
      → (c d : ℕ) (o : Outcome DrawingAt) → (m c d).outcome ≡ o → (t : DrawingAt) (n l : ℕ) → after o (λ x. run_of (opens_none (give (leave x)))) ≡ Gives t n l
      → DrawsTo app types s t
  left-run s u m leave g h c d (Gives x i j) q t n l p =
      subst (λ (y : DrawingAt). DrawsTo app types s y) (ap (end_of s) p) (h x (g c d x i j q))
  left-run s u m leave g h c d (Traps k i j) q t n l p = absurd (no_value k i j t n l p)

  -- ---- updates

  -- the drawing behind the opening of an update
  abbrev opened : KeyAt → DrawingAt → DrawingAt
  opened key s = record s { weight = s.weight + key_weight key; siblings = note key.site key.id s.siblings }

  updated-run : (key : KeyAt) (level : ℕ) (s : DrawingAt) → is_taken key.site key.id s.siblings ≡ false → (o : Outcome DrawingAt) (c d : ℕ)
      → (t : DrawingAt) (n l : ℕ) → end_update key level (opened key s) o c d ≡ Gives t n l
      → ((u : DrawingAt) (i r : ℕ) → o ≡ Gives u i r
      → Draws app types [] u.siblings [] u.part.marks × IfSome key.cache (IsRecorded app types (head_at key s.ambient u i r) u.part.marks))
      → DrawsTo app types s t
  updated-run key level s free (Gives u i r) c d t n l p h =
      let body = h u i r refl in
      subst (λ (y : DrawingAt). DrawsTo app types s y) (ap (end_of s) p)
      (draws-updated app types (head_at key s.ambient u i r) s.siblings u.siblings s.part.marks u.part.marks body.0 body.1 free)
  updated-run key level s free (Traps k i r) c d t n l p h = absurd (no_value k (c + i) d t n l p)

  recorded : (slots : Slots) (env : Env) (u : UpdateTree) (body : ShapeTrees) → Own app slots types (shape.Update u body)
      → (id : Data) (cache : Option (List Data))
      → ((ws : ExprTrees) → u.cache ≡ Some ws → IfSome cache (HoldCache app slots env ws)) → (u.cache ≡ None → cache ≡ None)
      → (left : ℕ) (allowed : Allowance) (s end : DrawingAt) (i r : ℕ)
      → ((bodies_on left (scene_on app slots types)).draw allowed env body (enter_body s)).outcome ≡ Gives end i r
      → IfSome cache (IsRecorded app types (head_at (key_at u id cache) s.ambient end i r) end.part.marks)
  recorded slots env u body of id cache holds without left allowed s end i r p = by-cache u.cache refl cache holds without
    where
      by-cache : (ts : Option ExprTrees) → u.cache ≡ ts → (vs : Option (List Data))
          → ((ws : ExprTrees) → u.cache ≡ Some ws → IfSome vs (HoldCache app slots env ws))
          → (u.cache ≡ None → vs ≡ None) → IfSome vs (IsRecorded app types (head_at (key_at u id cache) s.ambient end i r) end.part.marks)
      by-cache ts e None h w = tt
      by-cache (Some ws) e (Some vs) h w = record {
        update = record { site = u.site; cache = ws; body = body };
        declared = of (record { site = u.site; cache = ws; body = body }) (inl (refl, (e, refl)));
        site = refl;
        slots = slots;
        env = env;
        cached = h ws e;
        depth = left;
        allowed = allowed;
        start = s.ambient;
        end = end;
        drawn = p;
        measured = refl;
        marks = refl;
      }
      by-cache None e (Some vs) h w = let wrong : ◌≡◌ {A = Option (List Data)} (Some vs) None = w e in cc

  module _ (slots : Slots) where
    abbrev pub AllDraw : ℕ → Meaning → Type 0
    AllDraw level go = (env : Env) (f : ShapeTree) → Own app slots types f → (s : DrawingAt) → RunDraws s (go level env f s)

    module _ (go : Meaning) (level : ℕ) (g : AllDraw level go) where
      order-run : (env : Env) (fs : ShapeTrees) → AllOwn app slots types fs → (s : DrawingAt) → RunDraws s (in_order go level env fs s)
      order-run env none of s = give-run s
      order-run env (form f fs) of s =
          then-run s (go level env f s) (in_order go level env fs) (g env f (λ w h. of w (inl h)) s) (order-run env fs (λ w h. of w (inr h)))

      each-run : (env : Env) (x : List ℕ) (body : ShapeTrees) → AllOwn app slots types body → (ds : List Data) (s : DrawingAt)
          → RunDraws s (for_each go level env x body ds s)
      each-run env x body of [] s = give-run s
      each-run env x body of (d ∷ ds) s =
          then-run s (in_order go level ((x, d) ∷ env) body s) (for_each go level env x body ds) (order-run ((x, d) ∷ env) body of s)
          (each-run env x body of ds)

      to-run : (env : Env) (body : ShapeTrees) → AllOwn app slots types body → (s u : DrawingAt) (leave : DrawingAt → DrawingAt)
          → ((t : DrawingAt) → DrawsTo app types u t → DrawsTo app types s (leave t))
          → RunDraws s (draws_to go level env body leave u)
      to-run env body of s u leave h c d t n l p =
          left-run s u (in_order go level env body u) leave (order-run env body of u) h c d (in_order go level env body u c d).outcome refl t n l p

      -- a body behind what was set, which draws nothing
      within-run : (env : Env) (body : ShapeTrees) → AllOwn app slots types body → (s : DrawingAt) (r : Result DrawingAt ℕ) (leave : DrawingAt → DrawingAt)
          → StepDraws app types s r → ((t : DrawingAt) → DrawsTo app types t (leave t)) → RunDraws s (within go level env body r leave)
      within-run env body of s (Ok u) leave h e c d t n l p =
          to-run env body of s u leave (λ x q. draws-then app types s.siblings x.siblings (leave x).siblings s.part.marks x.part.marks (leave x).part.marks
          (draws-then app types s.siblings u.siblings x.siblings s.part.marks u.part.marks x.part.marks h q) (e x)) c d t n l p
      within-run env body of s (Err k) leave h e c d t n l p = absurd (no_value k c d t n l p)

      presented-run : (env : Env) (body : ShapeTrees) → AllOwn app slots types body → (s : DrawingAt) (weight : ℕ) (label : LabelAt) (b : Bool)
          → RunDraws s (within go level env body (if b then Ok (start (record s { weight = weight })) else Err 10) (leave_presentation label s.part))
      presented-run env body of s weight label true c d t n l p =
          to-run env body of s (start (record s { weight = weight })) (leave_presentation label s.part)
          (λ x q. draws-presented app types label s.siblings x.siblings s.part.marks x.part.marks q) c d t n l p
      presented-run env body of s weight label false c d t n l p = absurd (no_value 10 c d t n l p)

      called-run : (x : List ℕ) (f : Option DisplayDecl) → display_named x app ≡ f → (ds : List Data) (s : DrawingAt)
          → RunDraws s (call_display go level f ds s)
      called-run x None e ds s = trap-run s 1
      called-run x (Some f) e ds s =
          choice-run s (length ds == length f.parameters) (in_order go level (bind_parameters f.parameters ds) (shape_trees_of f.body) s) (opens_none (trap 1))
          (order-run (bind_parameters f.parameters ds) (shape_trees_of f.body) (λ w h. display-declared app x f e w h) s) (trap-run s 1)

    module _ (left : ℕ) (below : (allowed : Allowance) (level : ℕ) → AllDraw level (draws left allowed (scene_on app slots types)))
        (allowed : Allowance) (level : ℕ) where
      -- the meanings there
      abbrev value : Go
      value = means left allowed.budget app slots

      abbrev text : Texts
      text = texts_on types.presents slots allowed.budget left

      abbrev go : Meaning
      go = draws left allowed (scene_on app slots types)

      g : AllDraw level go
      g = below allowed level

      keyed-run : (env : Env) (u : UpdateTree) (body : ShapeTrees) → Own app slots types (shape.Update u body)
          → (s : DrawingAt) (id : Data) (cache : Option (List Data))
          → ((ws : ExprTrees) → u.cache ≡ Some ws → IfSome cache (HoldCache app slots env ws)) → (u.cache ≡ None → cache ≡ None)
          → RunDraws s (draws_keyed allowed (bodies_on left (scene_on app slots types)) level env body s (key_at u id cache))
      keyed-run env u body of s id cache holds without =
          entered-run (is_taken u.site id s.siblings) (nat_le (s.weight + key_weight (key_at u id cache)) allowed.weight) refl
        where
          entered-run : (taken fits : Bool) → is_taken u.site id s.siblings ≡ taken
              → RunDraws s (lift (if taken then Err 8 else (if fits then Ok (opened (key_at u id cache) s) else Err 10))
              >-> draws_body allowed (bodies_on left (scene_on app slots types)) level env body (key_at u id cache))
          entered-run true fits e c d t n l p = absurd (no_value 8 c d t n l p)
          entered-run false false e c d t n l p = absurd (no_value 10 c d t n l p)
          entered-run false true e c d t n l p =
              let inner = left_over allowed c (opened (key_at u id cache) s).weight in
              let from = enter_body (opened (key_at u id cache) s) in
              updated-run (key_at u id cache) level s e ((bodies_on left (scene_on app slots types)).draw inner env body from).outcome c d t n l p
              (λ end i r q. (
                order-run (draws left inner (scene_on app slots types)) 0 (below inner 0) env body (λ w h. of w (inr h)) from 0 0 end i r q,
                recorded slots env u body of id cache holds without left inner (opened (key_at u id cache) s) end i r q,
              ))

      update-run : (env : Env) (u : UpdateTree) (body : ShapeTrees) → Own app slots types (shape.Update u body) → (s : DrawingAt)
          → RunDraws s (draws_update allowed value (bodies_on left (scene_on app slots types)) level env u body s)
      update-run env u body of s =
          value-run s (id_of value level env s.siblings u.site u.id) (draws_cached allowed value (bodies_on left (scene_on app slots types)) level env u body s)
          (λ id. come-run s (cache_of value level env u.cache)
          (λ cache. draws_keyed allowed (bodies_on left (scene_on app slots types)) level env body s (key_at u id cache))
          (λ cache c d i j q. keyed-run env u body of s id cache (cache-holds app slots env left allowed.budget level u.cache c d cache i j q)
          (no-cache-comes app slots types left allowed.budget level env u.cache c d cache i j q) i j))

      -- one row after another
      rows-run : (env : Env) (f : ShapeTree) → Own app slots types f → (s : DrawingAt)
          → RunDraws s (shape_parts (scene_on app slots types) allowed value text (bodies_on left (scene_on app slots types)) go level env f s)
      rows-run env (shape.WriteText t) of s =
          value-run s (value level env t) (λ d. opens_none (lift (write_value allowed.weight s d)))
          (λ d. lift-run s (write_value allowed.weight s d) (value-draws app types allowed.weight s d))
      rows-run env shape.Newline of s = lift-run s (newline s) (newline-draws app types s)
      rows-run env (shape.Draw figure ts) of s =
          value-run s (each value level env ts []) (λ ds. opens_none (lift (draw_figure allowed.weight figure ds s)))
          (λ ds. lift-run s (draw_figure allowed.weight figure ds s) (figure-draws app types allowed.weight (figure_parts figure ds) s))
      rows-run env (shape.Indent t body) of s =
          value-run s (value level env t) (λ d. within go level env body (indent d s) (restore_margin s.ambient))
          (λ d. within-run go level g env body of s (indent d s) (restore_margin s.ambient) (indent-draws app types s d)
          (λ x. draws-none app types x.siblings x.siblings x.part.marks x.part.marks refl refl))
      rows-run env (shape.Ink t body) of s =
          value-run s (value level env t) (λ d. within go level env body (set_ink d s) (restore_ink s.ambient))
          (λ d. within-run go level g env body of s (set_ink d s) (restore_ink s.ambient) (ink-draws app types s d)
          (λ x. draws-none app types x.siblings x.siblings x.part.marks x.part.marks refl refl))
      rows-run env (shape.Room body) of s =
          to-run go level g env body of s (enter_room s) (leave_room s.ambient s.part) (λ x q. draws-joined app types s.siblings x.siblings s.part.marks x.part.marks q)
      rows-run env (shape.Present t spec) of s =
          value-run s (value level env t) (λ d. for_members types.holds spec d (presents_text allowed.weight text level spec s d))
          (λ d. choice-run s (types.holds d spec) (presents_text allowed.weight text level spec s d) (opens_none (trap 1))
          (value-run s (text level spec d) (λ x. opens_none (lift (present_text allowed.weight (label_of spec false d) s x)))
          (λ x. lift-run s (present_text allowed.weight (label_of spec false d) s x) (present_text-draws app types allowed.weight (label_of spec false d) s x)))
          (trap-run s 1))
      rows-run env (shape.AsPresentation p body) of s =
          value-run s (value level env p.object) (λ d. for_members types.holds p.spec d (presents_body allowed.weight go level env p body s d))
          (λ d. choice-run s (types.holds d p.spec) (presents_body allowed.weight go level env p body s d) (opens_none (trap 1))
          (presented-run go level g env body of s (s.weight + label_weight d) (label_of p.spec p.single_box d)
          (nat_le (s.weight + label_weight d) allowed.weight))
          (trap-run s 1))
      rows-run env (shape.Update u body) of s = update-run env u body of s
      rows-run env (shape.If t e f) of s =
          value-run s (truth_of value level env t) (λ holds. if holds then go level env e s else go level env f s)
          (λ holds. choice-run s holds (go level env e s) (go level env f s) (g env e (λ w h. of w (inl h)) s) (g env f (λ w h. of w (inr h)) s))
      rows-run env (shape.When t body) of s =
          value-run s (truth_of value level env t) (λ holds. if holds then in_order go level env body s else opens_none (give s))
          (λ holds. choice-run s holds (in_order go level env body s) (opens_none (give s)) (order-run go level g env body of s) (give-run s))
      rows-run env (shape.Let bs body) of s =
          value-run s (bind_each value level bs env) (λ inner. in_order go level inner body s) (λ inner. order-run go level g inner body of s)
      rows-run env (shape.Dolist x t body) of s =
          value-run s (parts_of_list value level env t) (λ ds. for_each go level env x body ds s) (λ ds. each-run go level g env x body of ds s)
      rows-run env (shape.Progn body) of s = order-run go level g env body of s
      rows-run env (shape.Call f ts) of s =
          value-run s (each value level env ts []) (λ ds. call_display go level (display_named f app) ds s)
          (λ ds. called-run go level g f (display_named f app) refl ds s)

    draws-run : (left : ℕ) (allowed : Allowance) (level : ℕ) → AllDraw level (draws left allowed (scene_on app slots types))
    draws-run zero allowed level env f of s =
        value-run s (entering 0 allowed.budget level) (λ _. opens_none (trap 6)) (λ _. trap-run s 6)
    draws-run (suc left) allowed level env f of s =
        value-run s (entering (suc left) allowed.budget level)
        (λ _. shape_parts (scene_on app slots types) allowed (means left allowed.budget app slots) (texts_on types.presents slots allowed.budget left)
        (bodies_on left (scene_on app slots types)) (draws left allowed (scene_on app slots types)) (level + 1) env f s)
        (λ _. rows-run left (draws-run left) allowed (level + 1) env f of s)

    pub forms-run : (left : ℕ) (allowed : Allowance) (level : ℕ) (env : Env) (forms : ShapeTrees) → AllOwn app slots types forms → (s : DrawingAt)
        → RunDraws s (in_order (draws left allowed (scene_on app slots types)) level env forms s)
    forms-run left allowed level env forms of s =
        order-run (draws left allowed (scene_on app slots types)) level (draws-run left allowed level) env forms of s
