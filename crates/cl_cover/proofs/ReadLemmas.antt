-- The list of paths and the relation say the same.
use Rattle.std.proofs.Common.{◌≡◌, ◌+◌, ◌++◌, ◌==◌, ℕ, zero, suc, Bool, true, false, cond, inl, inr, List, [], ◌∷◌, length, Option, Some, None}
use Rattle.std.proofs.Common.{refl, sym, ap, subst, ◌∙◌, length-append}
use Rattle.std.specs.Prelude.{◌↔◌, Contains, is_some}
use Rattle.std.specs.Cmp.Lexicographic.{pointwise}
use Rattle.std.proofs.lemmas.Slice.Eq.{bytes_eq-Decides}
use Rattle.cl_syntax.specs.ExprTree.{ExprTree}
use Rattle.cl_syntax.specs.ShapeTree.{ShapeTrees, shape_trees_of}
use Rattle.cl_table.specs.Names.{named}
use Rattle.cl_application.specs.App.{display_named, function_named, present_method}
use Rattle.cl_application.specs.declared.applications.App.{App}
use Rattle.cl_application.specs.declared.declarations.DisplayDecl.{DisplayDecl}
use Rattle.cl_application.specs.declared.declarations.FunctionDecl.{FunctionDecl}
use Rattle.cl_application.specs.declared.declarations.MethodDecl.{MethodDecl}
use Rattle.cl_syntax.specs.declared.type_decls.TypeDecl.{TypeDecl}
use Rattle.cl_eval.specs.ReadPaths.{AreRead, InDisplay, InFunction, InInherited, InMethod, IsRead, IsSlot, Within}
use Rattle.cl_cover.specs.Sights.{everything, slots}
use Rattle.cl_cover.specs.Steps.{body_steps, display_steps, function_steps, inherited_steps, method_steps, steps, steps_forms, steps_spec}
use Rattle.cl_cover.specs.Walk.{callees, expression_reads, is_among, nothing, paths_along, reads_of, walk}
use Rattle.cl_syntax.specs.declared.callees.Callee.{Callee}
use Rattle.cl_syntax.specs.declared.callees.Callee.TheVariants as callee
use Rattle.cl_syntax.specs.declared.paths.Path.{Path}
use Rattle.cl_syntax.specs.declared.paths.Root.{Root}
use Rattle.cl_syntax.specs.declared.paths.Root.TheVariants as root
use Rattle.cl_cover.specs.declared.steps.Step.{Step}
use Rattle.cl_cover.specs.declared.steps.Step.TheVariants as step
use Rattle.cl_cover.proofs.CalleeLemmas.{among_more, or_left, or_right, own_callee}
use Rattle.cl_cover.proofs.StepLemmas.{AnySource, Visible, of_forms, of_spec, of_term, slot_visible, stands, stands_forms, stands_spec}
use Rattle.cl_cover.proofs.WalkLemmas.{ReadIn, at_once, in_callee, later, walk_finds}

-- ---- the callees of an application

abbrev pub named_callees : {D : Type 0} → (List ℕ → Callee) → List (List ℕ × D) → List Callee
named_callees make [] = []
named_callees make (e ∷ es) = make e.0 ∷ named_callees make es

abbrev bodies : App → List Callee
bodies app = named_callees callee.Function app.functions ++ named_callees callee.Display app.displays

abbrev presenters : App → List Callee
presenters app = named_callees callee.PresentMethod app.present_methods ++ named_callees callee.Inherited app.types

abbrev known : App → List Callee
known app = bodies app ++ presenters app

as_many : {D : Type 0} (make : List ℕ → Callee) (es : List (List ℕ × D)) → length (named_callees make es) ≡ length es
as_many make [] = refl
as_many make (e ∷ es) = ap suc (as_many make es)

bodies_many : (app : App) → length (bodies app) ≡ length app.functions + length app.displays
bodies_many app =
    length-append (named_callees callee.Function app.functions) (named_callees callee.Display app.displays)
    ∙ (λ i. as_many callee.Function app.functions i + as_many callee.Display app.displays i)

presenters_many : (app : App) → length (presenters app) ≡ length app.present_methods + length app.types
presenters_many app =
    length-append (named_callees callee.PresentMethod app.present_methods) (named_callees callee.Inherited app.types)
    ∙ (λ i. as_many callee.PresentMethod app.present_methods i + as_many callee.Inherited app.types i)

known_many : (app : App) → length (known app) ≡ callees app
known_many app =
    length-append (bodies app) (presenters app)
    ∙ (λ i. bodies_many app i + presenters_many app i)

among_right : (c : Callee) (xs ys : List Callee) → is_among c ys ≡ true → is_among c (xs ++ ys) ≡ true
among_right c [] ys h = h
among_right c (x ∷ xs) ys h = or_right _ (is_among c (xs ++ ys)) (among_right c xs ys h)

named_by : {D : Type 0} (make : List ℕ → Callee) (x : List ℕ) (e : List ℕ × D) (es : List (List ℕ × D)) (b : Bool) → pointwise ◌==◌ x e.0 ≡ b
    → is_some (cond b (Some e.1) (named x es)) ≡ true → (is_some (named x es) ≡ true → is_among (make x) (named_callees make es) ≡ true)
    → is_among (make x) (make e.0 ∷ named_callees make es) ≡ true
named_by make x e es true same h rest =
    let equal : x ≡ e.0 = (bytes_eq-Decides x e.0).0 same in
    subst (λ (y : List ℕ). is_among (make x) (make y ∷ named_callees make es) ≡ true) equal
    (or_left _ (is_among (make x) (named_callees make es)) (own_callee (make x)))
named_by make x e es false same h rest = or_right _ (is_among (make x) (named_callees make es)) (rest h)

is_named : {D : Type 0} (make : List ℕ → Callee) (x : List ℕ) (es : List (List ℕ × D)) → is_some (named x es) ≡ true → is_among (make x) (named_callees make es) ≡ true
is_named make x [] h = cc
is_named make x (e ∷ es) h = named_by make x e es (pointwise ◌==◌ x e.0) refl h (λ k. is_named make x es k)

function_there : (o : Option FunctionDecl) (ss : List Step) → function_steps o ≡ Some ss → is_some o ≡ true
function_there None ss h = cc
function_there (Some d) ss h = refl

display_there : (o : Option DisplayDecl) (ss : List Step) → display_steps o ≡ Some ss → is_some o ≡ true
display_there None ss h = cc
display_there (Some d) ss h = refl

method_there : (o : Option MethodDecl) (ss : List Step) → method_steps o ≡ Some ss → is_some o ≡ true
method_there None ss h = cc
method_there (Some m) ss h = refl

type_there : (o : Option TypeDecl) (ss : List Step) → inherited_steps o ≡ Some ss → is_some o ≡ true
type_there None ss h = cc
type_there (Some d) ss h = refl

all_known : (app : App) (c : Callee) (ss : List Step) → body_steps app c ≡ Some ss → is_among c (known app) ≡ true
all_known app (callee.Function f) ss h =
    among_more (callee.Function f) (bodies app) (presenters app)
    (among_more (callee.Function f) (named_callees callee.Function app.functions) (named_callees callee.Display app.displays)
    (is_named callee.Function f app.functions (function_there (function_named f app) ss h)))
all_known app (callee.Display d) ss h =
    among_more (callee.Display d) (bodies app) (presenters app)
    (among_right (callee.Display d) (named_callees callee.Function app.functions) (named_callees callee.Display app.displays)
    (is_named callee.Display d app.displays (display_there (display_named d app) ss h)))
all_known app (callee.PresentMethod x) ss h =
    among_right (callee.PresentMethod x) (bodies app) (presenters app)
    (among_more (callee.PresentMethod x) (named_callees callee.PresentMethod app.present_methods) (named_callees callee.Inherited app.types)
    (is_named callee.PresentMethod x app.present_methods (method_there (present_method x app) ss h)))
all_known app (callee.Inherited x) ss h =
    among_right (callee.Inherited x) (bodies app) (presenters app)
    (among_right (callee.Inherited x) (named_callees callee.PresentMethod app.present_methods) (named_callees callee.Inherited app.types)
    (is_named callee.Inherited x app.types (type_there (named x app.types) ss h)))

-- ---- through calls

module _ (app : App) (p : Path) where
  function_slots : (n : ℕ) (o : Option FunctionDecl) → InFunction (Within n app p) p o → IsSlot p.root
  function_slots n None h = absurd h
  function_slots n (Some d) h = h.0

  display_slots : (n : ℕ) (o : Option DisplayDecl) → InDisplay (Within n app p) p o → IsSlot p.root
  display_slots n None h = absurd h
  display_slots n (Some d) h = h.0

  method_slots : (n : ℕ) (o : Option MethodDecl) → InMethod (Within n app p) p o → IsSlot p.root
  method_slots n None h = absurd h
  method_slots n (Some m) h = h.0

  inherited_slots : (n : ℕ) (o : Option TypeDecl) → InInherited (Within n app p) p o → IsSlot p.root
  inherited_slots n None h = absurd h
  inherited_slots n (Some d) h = h.0

  within_slots : (n : ℕ) (c : Callee) → Within n app p c → IsSlot p.root
  within_slots zero c h = absurd h
  within_slots (suc n) (callee.Function f) h = function_slots n (function_named f app) h
  within_slots (suc n) (callee.Display d) h = display_slots n (display_named d app) h
  within_slots (suc n) (callee.PresentMethod x) h = method_slots n (present_method x app) h
  within_slots (suc n) (callee.Inherited x) h = inherited_slots n (named x app.types) h

  abbrev Any : ℕ → List Step → Type 0
  Any n ss = AnySource (Within n app p) p ss

  -- from the steps of a body to what it reads
  slots_seen : (r : Root) → Visible slots r → IsSlot r
  slots_seen (root.Variable x) v = cc
  slots_seen (root.Slot x) v = tt

  function_reads : (n : ℕ) (o : Option FunctionDecl) (inner : List Step) → function_steps o ≡ Some inner → Any n inner → InFunction (Within n app p) p o
  function_reads n None inner e h = cc
  function_reads n (Some d) inner e h =
      let same : steps slots [] d.body ≡ inner = cc in
      let r = of_term (Within n app p) p (within_slots n) slots [] d.body (subst (Any n) (sym same) h) in
      (slots_seen p.root r.0, r.1)

  display_reads : (n : ℕ) (o : Option DisplayDecl) (inner : List Step) → display_steps o ≡ Some inner → Any n inner → InDisplay (Within n app p) p o
  display_reads n None inner e h = cc
  display_reads n (Some d) inner e h =
      let same : steps_forms slots (shape_trees_of d.body) ≡ inner = cc in
      let r = of_forms (Within n app p) p (within_slots n) slots (shape_trees_of d.body) (subst (Any n) (sym same) h) in
      (slots_seen p.root r.0, r.1)

  method_reads : (n : ℕ) (o : Option MethodDecl) (inner : List Step) → method_steps o ≡ Some inner → Any n inner → InMethod (Within n app p) p o
  method_reads n None inner e h = cc
  method_reads n (Some m) inner e h =
      let same : steps slots [] m.body ≡ inner = cc in
      let r = of_term (Within n app p) p (within_slots n) slots [] m.body (subst (Any n) (sym same) h) in
      (slots_seen p.root r.0, r.1)

  inherited_reads : (n : ℕ) (o : Option TypeDecl) (inner : List Step) → inherited_steps o ≡ Some inner → Any n inner → InInherited (Within n app p) p o
  inherited_reads n None inner e h = cc
  inherited_reads n (Some d) inner e h =
      let same : steps_spec d.inherit_from ≡ inner = cc in
      let r = of_spec (Within n app p) p (within_slots n) slots d.inherit_from (subst (Any n) (sym same) h) in
      (slots_seen p.root r.0, r.1)

  body_reads : (n : ℕ) (c : Callee) (inner : List Step) → body_steps app c ≡ Some inner → Any n inner → Within (suc n) app p c
  body_reads n (callee.Function f) inner e h = function_reads n (function_named f app) inner e h
  body_reads n (callee.Display d) inner e h = display_reads n (display_named d app) inner e h
  body_reads n (callee.PresentMethod x) inner e h = method_reads n (present_method x app) inner e h
  body_reads n (callee.Inherited x) inner e h = inherited_reads n (named x app.types) inner e h

  one_call : (c : Callee) (ss inner : List Step) → body_steps app c ≡ Some inner → (n : ℕ) × Any n inner → (n : ℕ) × Any n (step.Calls c ∷ ss)
  one_call c ss inner e r = (suc r.0, inl (body_reads r.0 c inner e r.1))

  pub read_within : (ss : List Step) → ReadIn (body_steps app) p ss → (n : ℕ) × Any n ss
  read_within _ (at_once q ss e) = (0, inl e)
  read_within _ (in_callee c ss inner e r) = one_call c ss inner e (read_within inner r)
  read_within _ (later s ss r) = let rest = read_within ss r in (rest.0, inr rest.1)

  -- from what a body reads to its steps
  abbrev Body : ℕ → Callee → Type 0
  Body n c = (inner : List Step) × ((body_steps app c ≡ Some inner) × Any n inner)

  function_body : (n : ℕ) (o : Option FunctionDecl) → InFunction (Within n app p) p o → (inner : List Step) × ((function_steps o ≡ Some inner) × Any n inner)
  function_body n None h = absurd h
  function_body n (Some d) h = (steps slots [] d.body, (refl, stands (Within n app p) p slots [] d.body (slot_visible slots p.root h.0) h.1))

  display_body : (n : ℕ) (o : Option DisplayDecl) → InDisplay (Within n app p) p o → (inner : List Step) × ((display_steps o ≡ Some inner) × Any n inner)
  display_body n None h = absurd h
  display_body n (Some d) h =
      (steps_forms slots (shape_trees_of d.body), (refl, stands_forms (Within n app p) p slots (shape_trees_of d.body) (slot_visible slots p.root h.0) h.1))

  method_body : (n : ℕ) (o : Option MethodDecl) → InMethod (Within n app p) p o → (inner : List Step) × ((method_steps o ≡ Some inner) × Any n inner)
  method_body n None h = absurd h
  method_body n (Some m) h = (steps slots [] m.body, (refl, stands (Within n app p) p slots [] m.body (slot_visible slots p.root h.0) h.1))

  inherited_body : (n : ℕ) (o : Option TypeDecl) → InInherited (Within n app p) p o → (inner : List Step) × ((inherited_steps o ≡ Some inner) × Any n inner)
  inherited_body n None h = absurd h
  inherited_body n (Some d) h = (steps_spec d.inherit_from, (refl, stands_spec (Within n app p) p d.inherit_from h.1))

  called_body : (n : ℕ) (c : Callee) → Within (suc n) app p c → Body n c
  called_body n (callee.Function f) h = function_body n (function_named f app) h
  called_body n (callee.Display d) h = display_body n (display_named d app) h
  called_body n (callee.PresentMethod x) h = method_body n (present_method x app) h
  called_body n (callee.Inherited x) h = inherited_body n (named x app.types) h

  -- in steps, by what is read in the body of what is called
  in_steps : (n : ℕ) → ((c : Callee) (ss : List Step) → Within n app p c → ReadIn (body_steps app) p (step.Calls c ∷ ss))
      → (ss : List Step) → Any n ss → ReadIn (body_steps app) p ss
  in_steps n calls [] h = absurd h
  in_steps n calls (step.Reads q ∷ ss) (inl e) = at_once q ss e
  in_steps n calls (step.Calls c ∷ ss) (inl k) = calls c ss k
  in_steps n calls (s ∷ ss) (inr h) = later s ss (in_steps n calls ss h)

  pub within_read : (n : ℕ) (ss : List Step) → Any n ss → ReadIn (body_steps app) p ss
  within_read zero ss h = in_steps zero (λ c more k. absurd k) ss h
  within_read (suc n) ss h =
      in_steps (suc n) (λ c more k. let b = called_body n c k in in_callee c more b.0 b.1.0 (within_read n b.0 b.1.1)) ss h

  all_seen : (r : Root) → Visible everything r
  all_seen (root.Variable x) = refl
  all_seen (root.Slot x) = tt

  found : (ss : List Step) → Contains (paths_along app ss) p ↔ ReadIn (body_steps app) p ss
  found ss =
      subst (λ (n : ℕ). Contains (walk (body_steps app) n ss nothing).paths p ↔ ReadIn (body_steps app) p ss) (known_many app)
      (walk_finds (body_steps app) (known app) (all_known app) ss p)

  pub forms_listed : (fs : ShapeTrees) → Contains (reads_of app fs) p ↔ AreRead app p fs
  forms_listed fs = (
    λ h.
        let r = read_within (steps_forms everything fs) ((found (steps_forms everything fs)).0 h) in
        record { calls = r.0; reads = (of_forms (Within r.0 app p) p (within_slots r.0) everything fs r.1).1 },
    λ r. (found (steps_forms everything fs)).1
        (within_read r.calls (steps_forms everything fs) (stands_forms (Within r.calls app p) p everything fs (all_seen p.root) r.reads)),
  )

  pub expression_listed : (t : ExprTree) → Contains (expression_reads app t) p ↔ IsRead app p t
  expression_listed t = (
    λ h.
        let r = read_within (steps everything [] t) ((found (steps everything [] t)).0 h) in
        record { calls = r.0; reads = (of_term (Within r.0 app p) p (within_slots r.0) everything [] t r.1).1 },
    λ r. (found (steps everything [] t)).1
        (within_read r.calls (steps everything [] t) (stands (Within r.calls app p) p everything [] t (all_seen p.root) r.reads)),
  )
