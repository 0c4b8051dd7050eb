-- The steps of a text say the same as what it reads, by what is read where it calls.
use Rattle.std.proofs.Common.{◌≡◌, ◌++◌, ℕ, Bool, true, false, if◌then◌else◌, inl, inr, List, [], ◌∷◌, Option, Some, None, refl, sym, ap, subst, ◌∙◌}
use Rattle.std.specs.Prelude.{◌⊎◌}
use Rattle.cl_syntax.specs.ExprTree as expr
use Rattle.cl_syntax.specs.ExprTree.{ExprTree, ExprTrees, Bindings, none, part, unbound, binding}
use Rattle.cl_syntax.specs.ShapeTree as shape
use Rattle.cl_syntax.specs.ShapeTree.{ShapeTree, ShapeTrees}
use Rattle.cl_syntax.specs.TypeSpecTree as type_spec
use Rattle.cl_syntax.specs.TypeSpecTree.{TypeSpecTree, specifier, TypeArgTree, Constant, Any, Param, Spec, Names, TypeArgTrees, argument}
use Rattle.cl_eval.specs.Slots.{is_name}
use Rattle.cl_syntax.specs.Paths.{Along}
use Rattle.cl_eval.specs.ReadPaths.{Apart, ApartAll, IsSlot, Reads, ReadsAmong, ReadsArg, ReadsArgs, ReadsBound, ReadsCache, ReadsForm, ReadsForms, ReadsId, ReadsSpec, operand_fields}
use Rattle.cl_cover.specs.Sights.{behind, behind_all, is_hidden, is_name_among}
use Rattle.cl_cover.specs.Steps.{steps, steps_among, steps_arg, steps_args, steps_bound, steps_cache, steps_form, steps_forms, steps_id, steps_spec}
use Rattle.cl_syntax.specs.declared.callees.Callee.{Callee}
use Rattle.cl_syntax.specs.declared.callees.Callee.TheVariants as callee
use Rattle.cl_syntax.specs.declared.paths.Path.{Path}
use Rattle.cl_syntax.specs.declared.paths.Root.{Root}
use Rattle.cl_syntax.specs.declared.paths.Root.TheVariants as root
use Rattle.cl_cover.specs.declared.sights.Sight.{Sight}
use Rattle.cl_cover.specs.declared.steps.Step.{Step}
use Rattle.cl_cover.specs.declared.steps.Step.TheVariants as step

-- ---- which roots count

abbrev pub Visible : Sight → Root → Type 0
Visible sight (root.Variable y) = is_hidden sight y ≡ false
Visible sight (root.Slot y) = Unit {0}

pub slot_visible : (sight : Sight) (r : Root) → IsSlot r → Visible sight r
slot_visible sight (root.Variable y) h = absurd h
slot_visible sight (root.Slot y) h = tt

-- a name that was added is among names, or it was before
push_by : (b : Bool) (x y : List ℕ) (xs : List (List ℕ)) → is_name_among y (xs ++ x ∷ []) ≡ (if is_name_among y xs then true else is_name x y)
    → (if b then true else is_name_among y (xs ++ x ∷ [])) ≡ (if (if b then true else is_name_among y xs) then true else is_name x y)
push_by true x y xs h = refl
push_by false x y xs h = h

alone : (b : Bool) → (if b then true else false) ≡ b
alone true = refl
alone false = refl

among_push : (x y : List ℕ) (xs : List (List ℕ)) → is_name_among y (xs ++ x ∷ []) ≡ (if is_name_among y xs then true else is_name x y)
among_push x y [] = alone (is_name x y)
among_push x y (z ∷ xs) = push_by (is_name z y) x y xs (among_push x y xs)

hidden_push : (s b c : Bool) → (if s then true else (if b then true else c)) ≡ false → ((if s then true else b) ≡ false) × (c ≡ false)
hidden_push true b c h = cc
hidden_push false true c h = cc
hidden_push false false c h = (refl, h)

hidden_both : (s b c : Bool) → (if s then true else b) ≡ false → c ≡ false → (if s then true else (if b then true else c)) ≡ false
hidden_both true b c h k = cc
hidden_both false true c h k = cc
hidden_both false false c h k = k

pub seen_behind : (x : List ℕ) (sight : Sight) (r : Root) → Visible sight r → Apart x r → Visible (behind x sight) r
seen_behind x sight (root.Variable y) v a =
    ap (λ (b : Bool). if sight.slots_alone then true else b) (among_push x y sight.hidden)
    ∙ hidden_both sight.slots_alone (is_name_among y sight.hidden) (is_name x y) v a
seen_behind x sight (root.Slot y) v a = tt

pub seen_before : (x : List ℕ) (sight : Sight) (r : Root) → Visible (behind x sight) r → Visible sight r × Apart x r
seen_before x sight (root.Variable y) v =
    hidden_push sight.slots_alone (is_name_among y sight.hidden) (is_name x y)
    (ap (λ (b : Bool). if sight.slots_alone then true else b) (sym (among_push x y sight.hidden)) ∙ v)
seen_before x sight (root.Slot y) v = (tt, tt)

pub seen_behind_all : (bs : Bindings) (sight : Sight) (r : Root) → Visible sight r → ApartAll bs r → Visible (behind_all bs sight) r
seen_behind_all unbound sight r v a = v
seen_behind_all (binding x t bs) sight r v a = seen_behind_all bs (behind x sight) r (seen_behind x sight r v a.0) a.1

pub seen_before_all : (bs : Bindings) (sight : Sight) (r : Root) → Visible (behind_all bs sight) r → Visible sight r × ApartAll bs r
seen_before_all unbound sight r v = (v, tt)
seen_before_all (binding x t bs) sight r v =
    let rest = seen_before_all bs (behind x sight) r v in
    let first = seen_before x sight r rest.0 in
    (first.0, (first.1, rest.1))

-- ---- rows

module _ (calls : Callee → Type 0) (p : Path) where
  -- a step reads the path, itself or where it calls
  abbrev pub Source : Step → Type 0
  Source (step.Reads q) = q ≡ p
  Source (step.Calls c) = calls c

  abbrev pub AnySource : List Step → Type 0
  AnySource [] = ⊥
  AnySource (s ∷ ss) = Source s ⊎ AnySource ss

  pub on_left : (xs ys : List Step) → AnySource xs → AnySource (xs ++ ys)
  on_left [] ys h = absurd h
  on_left (x ∷ xs) ys (inl h) = inl h
  on_left (x ∷ xs) ys (inr h) = inr (on_left xs ys h)

  pub on_right : (xs ys : List Step) → AnySource ys → AnySource (xs ++ ys)
  on_right [] ys h = h
  on_right (x ∷ xs) ys h = inr (on_right xs ys h)

  pub on_side : (xs ys : List Step) → AnySource (xs ++ ys) → AnySource xs ⊎ AnySource ys
  on_side [] ys h = inr h
  on_side (x ∷ xs) ys (inl h) = inl (inl h)
  on_side (x ∷ xs) ys (inr h) = elim (on_side xs ys h) [ inl k ↦ inl (inr k) | inr k ↦ inr k ]

  -- of the left steps, or of the right ones
  gives : {A B : Type 0} (xs ys : List Step) → (A → AnySource xs) → (B → AnySource ys) → A ⊎ B → AnySource (xs ++ ys)
  gives xs ys f g (inl a) = on_left xs ys (f a)
  gives xs ys f g (inr b) = on_right xs ys (g b)

  variable_stands : (b : Bool) (s : Step) → b ≡ false → Source s → AnySource (if b then [] else s ∷ [])
  variable_stands true s v h = cc
  variable_stands false s v h = inl h

  read_variable : (sight : Sight) (along : Along) (x : List ℕ) → Visible sight p.root → p ≡ record { root = root.Variable x; fields = along }
      → AnySource (if is_hidden sight x then [] else step.Reads (record { root = root.Variable x; fields = along }) ∷ [])
  read_variable sight along x v e =
      let seen : is_hidden sight x ≡ false = subst (λ (q : Path). Visible sight q.root) e v in
      variable_stands (is_hidden sight x) (step.Reads (record { root = root.Variable x; fields = along })) seen (sym e)

  mutual
    pub stands : (sight : Sight) (along : Along) (t : ExprTree) → Visible sight p.root → Reads calls p along t → AnySource (steps sight along t)
    stands sight along (expr.Constant d) v r = absurd r
    stands sight along (expr.Variable x) v r = read_variable sight along x v r
    stands sight along (expr.Slot x) v r = inl (sym r)
    stands sight along (expr.If t u w) v r =
        gives (steps sight [] t) (steps sight [] u ++ steps sight [] w) (λ k. stands sight [] t v k)
        (λ k. gives (steps sight [] u) (steps sight [] w) (λ l. stands sight [] u v l) (λ l. stands sight [] w v l) k) r
    stands sight along (expr.Let bs t) v r =
        gives (steps_bound sight bs) (steps (behind_all bs sight) [] t) (λ k. stands_bound sight bs v k)
        (λ k. stands (behind_all bs sight) [] t (seen_behind_all bs sight p.root v k.0) k.1) r
    stands sight along (expr.And ts) v r = stands_among sight [] ts v r
    stands sight along (expr.Or ts) v r = stands_among sight [] ts v r
    stands sight along (expr.Map x t body) v r =
        gives (steps sight [] t) (steps (behind x sight) [] body) (λ k. stands sight [] t v k)
        (λ k. stands (behind x sight) [] body (seen_behind x sight p.root v k.0) k.1) r
    stands sight along (expr.Filter x t body) v r =
        gives (steps sight [] t) (steps (behind x sight) [] body) (λ k. stands sight [] t v k)
        (λ k. stands (behind x sight) [] body (seen_behind x sight p.root v k.0) k.1) r
    stands sight along (expr.Fold x t a opening body) v r =
        gives (steps sight [] t) (steps sight [] opening ++ steps (behind a (behind x sight)) [] body) (λ k. stands sight [] t v k)
        (λ k. gives (steps sight [] opening) (steps (behind a (behind x sight)) [] body) (λ l. stands sight [] opening v l)
        (λ l. stands (behind a (behind x sight)) [] body (seen_behind a (behind x sight) p.root (seen_behind x sight p.root v l.0) l.1.0) l.1.1) k) r
    stands sight along (expr.Operation o ts) v r = stands_among sight (operand_fields o ts along) ts v r
    stands sight along (expr.Call f ts) v r =
        gives (steps_among sight [] ts) (step.Calls (callee.Function f) ∷ []) (λ k. stands_among sight [] ts v k) (λ k. inl k) r

    stands_among : (sight : Sight) (along : Along) (ts : ExprTrees) → Visible sight p.root → ReadsAmong calls p along ts → AnySource (steps_among sight along ts)
    stands_among sight along none v r = absurd r
    stands_among sight along (part t ts) v r =
        gives (steps sight along t) (steps_among sight along ts) (λ k. stands sight along t v k) (λ k. stands_among sight along ts v k) r

    stands_bound : (sight : Sight) (bs : Bindings) → Visible sight p.root → ReadsBound calls p bs → AnySource (steps_bound sight bs)
    stands_bound sight unbound v r = absurd r
    stands_bound sight (binding x t bs) v r =
        gives (steps sight [] t) (steps_bound (behind x sight) bs) (λ k. stands sight [] t v k)
        (λ k. stands_bound (behind x sight) bs (seen_behind x sight p.root v k.0) k.1) r

  mutual
    pub stands_spec : (s : TypeSpecTree) → ReadsSpec calls s → AnySource (steps_spec s)
    stands_spec (specifier x ts o) (inl k) = inl k
    stands_spec (specifier x ts o) (inr r) = inr (gives (steps_args ts) (step.Calls (callee.Inherited x) ∷ []) (λ k. stands_args ts k) (λ k. inl k) r)

    stands_args : (ts : TypeArgTrees) → ReadsArgs calls ts → AnySource (steps_args ts)
    stands_args type_spec.none r = absurd r
    stands_args (argument a ts) r = gives (steps_arg a) (steps_args ts) (λ k. stands_arg a k) (λ k. stands_args ts k) r

    stands_arg : (a : TypeArgTree) → ReadsArg calls a → AnySource (steps_arg a)
    stands_arg (Constant d) r = absurd r
    stands_arg Any r = absurd r
    stands_arg (Param x) r = absurd r
    stands_arg (Spec s) r = stands_spec s r
    stands_arg (Names xs) r = absurd r

  stands_id : (sight : Sight) (o : Option ExprTree) → Visible sight p.root → ReadsId calls p o → AnySource (steps_id sight o)
  stands_id sight None v r = absurd r
  stands_id sight (Some t) v r = stands sight [] t v r

  stands_cache : (sight : Sight) (o : Option ExprTrees) → Visible sight p.root → ReadsCache calls p o → AnySource (steps_cache sight o)
  stands_cache sight None v r = absurd r
  stands_cache sight (Some ts) v r = stands_among sight [] ts v r

  mutual
    pub stands_form : (sight : Sight) (f : ShapeTree) → Visible sight p.root → ReadsForm calls p f → AnySource (steps_form sight f)
    stands_form sight (shape.WriteText t) v r = stands sight [] t v r
    stands_form sight shape.Newline v r = absurd r
    stands_form sight (shape.Draw figure ts) v r = stands_among sight [] ts v r
    stands_form sight (shape.Indent t fs) v r =
        gives (steps sight [] t) (steps_forms sight fs) (λ k. stands sight [] t v k) (λ k. stands_forms sight fs v k) r
    stands_form sight (shape.Ink t fs) v r =
        gives (steps sight [] t) (steps_forms sight fs) (λ k. stands sight [] t v k) (λ k. stands_forms sight fs v k) r
    stands_form sight (shape.Room fs) v r = stands_forms sight fs v r
    stands_form sight (shape.Present t spec) v r = gives (steps sight [] t) (steps_spec spec) (λ k. stands sight [] t v k) (λ k. stands_spec spec k) r
    stands_form sight (shape.AsPresentation q fs) v r =
        gives (steps sight [] q.object) (steps_forms sight fs) (λ k. stands sight [] q.object v k) (λ k. stands_forms sight fs v k) r
    stands_form sight (shape.Update u fs) v r =
        gives (steps_id sight u.id) (steps_cache sight u.cache ++ steps_forms sight fs) (λ k. stands_id sight u.id v k)
        (λ k. gives (steps_cache sight u.cache) (steps_forms sight fs) (λ l. stands_cache sight u.cache v l) (λ l. stands_forms sight fs v l) k) r
    stands_form sight (shape.If t f g) v r =
        gives (steps sight [] t) (steps_form sight f ++ steps_form sight g) (λ k. stands sight [] t v k)
        (λ k. gives (steps_form sight f) (steps_form sight g) (λ l. stands_form sight f v l) (λ l. stands_form sight g v l) k) r
    stands_form sight (shape.When t fs) v r =
        gives (steps sight [] t) (steps_forms sight fs) (λ k. stands sight [] t v k) (λ k. stands_forms sight fs v k) r
    stands_form sight (shape.Let bs fs) v r =
        gives (steps_bound sight bs) (steps_forms (behind_all bs sight) fs) (λ k. stands_bound sight bs v k)
        (λ k. stands_forms (behind_all bs sight) fs (seen_behind_all bs sight p.root v k.0) k.1) r
    stands_form sight (shape.Dolist x t fs) v r =
        gives (steps sight [] t) (steps_forms (behind x sight) fs) (λ k. stands sight [] t v k)
        (λ k. stands_forms (behind x sight) fs (seen_behind x sight p.root v k.0) k.1) r
    stands_form sight (shape.Progn fs) v r = stands_forms sight fs v r
    stands_form sight (shape.Call d ts) v r =
        gives (steps_among sight [] ts) (step.Calls (callee.Display d) ∷ []) (λ k. stands_among sight [] ts v k) (λ k. inl k) r

    pub stands_forms : (sight : Sight) (fs : ShapeTrees) → Visible sight p.root → ReadsForms calls p fs → AnySource (steps_forms sight fs)
    stands_forms sight shape.none v r = absurd r
    stands_forms sight (shape.form f fs) v r =
        gives (steps_form sight f) (steps_forms sight fs) (λ k. stands_form sight f v k) (λ k. stands_forms sight fs v k) r

  -- ---- the other way, where what is called reads slots alone
  abbrev pub Read : Sight → Type 0 → Type 0
  Read sight A = Visible sight p.root × A

  to_left : {A B : Type 0} (sight : Sight) → Read sight A → Read sight (A ⊎ B)
  to_left sight r = (r.0, inl r.1)

  to_right : {A B : Type 0} (sight : Sight) → Read sight B → Read sight (A ⊎ B)
  to_right sight r = (r.0, inr r.1)

  both : {A B : Type 0} (sight : Sight) (xs ys : List Step) → (AnySource xs → Read sight A) → (AnySource ys → Read sight B) → AnySource (xs ++ ys) → Read sight (A ⊎ B)
  both {A = A} {B = B} sight xs ys f g h =
      elim (on_side xs ys h) [ inl k ↦ to_left {A = A} {B = B} sight (f k) | inr k ↦ to_right {A = A} {B = B} sight (g k) ]

  under : {B : Type 0} (x : List ℕ) (sight : Sight) → Read (behind x sight) B → Read sight (Apart x p.root × B)
  under x sight r =
      let seen = seen_before x sight p.root r.0 in
      (seen.0, (seen.1, r.1))

  under_all : {B : Type 0} (bs : Bindings) (sight : Sight) → Read (behind_all bs sight) B → Read sight (ApartAll bs p.root × B)
  under_all bs sight r =
      let seen = seen_before_all bs sight p.root r.0 in
      (seen.0, (seen.1, r.1))

  variable_read : (sight : Sight) (along : Along) (x : List ℕ) (b : Bool) → is_hidden sight x ≡ b
      → AnySource (if b then [] else step.Reads (record { root = root.Variable x; fields = along }) ∷ [])
      → Read sight (p ≡ record { root = root.Variable x; fields = along })
  variable_read sight along x true h k = absurd k
  variable_read sight along x false h (inl e) = (subst (λ (q : Path). Visible sight q.root) e h, sym e)
  variable_read sight along x false h (inr k) = absurd k

  slot_read : (sight : Sight) (along : Along) (x : List ℕ) → AnySource (step.Reads (record { root = root.Slot x; fields = along }) ∷ [])
      → Read sight (p ≡ record { root = root.Slot x; fields = along })
  slot_read sight along x (inl e) = (subst (λ (q : Path). Visible sight q.root) e tt, sym e)
  slot_read sight along x (inr k) = absurd k

  module _ (slots_alone : (c : Callee) → calls c → IsSlot p.root) where
    call_read : (sight : Sight) (c : Callee) → AnySource (step.Calls c ∷ []) → Read sight (calls c)
    call_read sight c (inl k) = (slot_visible sight p.root (slots_alone c k), k)
    call_read sight c (inr k) = absurd k

    mutual
      pub of_term : (sight : Sight) (along : Along) (t : ExprTree) → AnySource (steps sight along t) → Read sight (Reads calls p along t)
      of_term sight along (expr.Constant d) h = absurd h
      of_term sight along (expr.Variable x) h = variable_read sight along x (is_hidden sight x) refl h
      of_term sight along (expr.Slot x) h = slot_read sight along x h
      of_term sight along (expr.If t u w) h =
          both sight (steps sight [] t) (steps sight [] u ++ steps sight [] w) (λ k. of_term sight [] t k)
          (λ k. both sight (steps sight [] u) (steps sight [] w) (λ l. of_term sight [] u l) (λ l. of_term sight [] w l) k) h
      of_term sight along (expr.Let bs t) h =
          both sight (steps_bound sight bs) (steps (behind_all bs sight) [] t) (λ k. of_bound sight bs k)
          (λ k. under_all bs sight (of_term (behind_all bs sight) [] t k)) h
      of_term sight along (expr.And ts) h = of_among sight [] ts h
      of_term sight along (expr.Or ts) h = of_among sight [] ts h
      of_term sight along (expr.Map x t body) h =
          both sight (steps sight [] t) (steps (behind x sight) [] body) (λ k. of_term sight [] t k) (λ k. under x sight (of_term (behind x sight) [] body k)) h
      of_term sight along (expr.Filter x t body) h =
          both sight (steps sight [] t) (steps (behind x sight) [] body) (λ k. of_term sight [] t k) (λ k. under x sight (of_term (behind x sight) [] body k)) h
      of_term sight along (expr.Fold x t a opening body) h =
          both sight (steps sight [] t) (steps sight [] opening ++ steps (behind a (behind x sight)) [] body) (λ k. of_term sight [] t k)
          (λ k. both sight (steps sight [] opening) (steps (behind a (behind x sight)) [] body) (λ l. of_term sight [] opening l)
          (λ l. under x sight (under a (behind x sight) (of_term (behind a (behind x sight)) [] body l))) k) h
      of_term sight along (expr.Operation o ts) h = of_among sight (operand_fields o ts along) ts h
      of_term sight along (expr.Call f ts) h =
          both sight (steps_among sight [] ts) (step.Calls (callee.Function f) ∷ []) (λ k. of_among sight [] ts k) (λ k. call_read sight (callee.Function f) k) h

      of_among : (sight : Sight) (along : Along) (ts : ExprTrees) → AnySource (steps_among sight along ts) → Read sight (ReadsAmong calls p along ts)
      of_among sight along none h = absurd h
      of_among sight along (part t ts) h =
          both sight (steps sight along t) (steps_among sight along ts) (λ k. of_term sight along t k) (λ k. of_among sight along ts k) h

      of_bound : (sight : Sight) (bs : Bindings) → AnySource (steps_bound sight bs) → Read sight (ReadsBound calls p bs)
      of_bound sight unbound h = absurd h
      of_bound sight (binding x t bs) h =
          both sight (steps sight [] t) (steps_bound (behind x sight) bs) (λ k. of_term sight [] t k) (λ k. under x sight (of_bound (behind x sight) bs k)) h

    mutual
      pub of_spec : (sight : Sight) (s : TypeSpecTree) → AnySource (steps_spec s) → Read sight (ReadsSpec calls s)
      of_spec sight (specifier x ts o) (inl k) =
          to_left {A = calls (callee.PresentMethod x)} {B = ReadsArgs calls ts ⊎ calls (callee.Inherited x)} sight
          (slot_visible sight p.root (slots_alone (callee.PresentMethod x) k), k)
      of_spec sight (specifier x ts o) (inr h) =
          to_right {A = calls (callee.PresentMethod x)} {B = ReadsArgs calls ts ⊎ calls (callee.Inherited x)} sight
          (both sight (steps_args ts) (step.Calls (callee.Inherited x) ∷ []) (λ k. of_args sight ts k) (λ k. call_read sight (callee.Inherited x) k) h)

      of_args : (sight : Sight) (ts : TypeArgTrees) → AnySource (steps_args ts) → Read sight (ReadsArgs calls ts)
      of_args sight type_spec.none h = absurd h
      of_args sight (argument a ts) h = both sight (steps_arg a) (steps_args ts) (λ k. of_arg sight a k) (λ k. of_args sight ts k) h

      of_arg : (sight : Sight) (a : TypeArgTree) → AnySource (steps_arg a) → Read sight (ReadsArg calls a)
      of_arg sight (Constant d) h = absurd h
      of_arg sight Any h = absurd h
      of_arg sight (Param x) h = absurd h
      of_arg sight (Spec s) h = of_spec sight s h
      of_arg sight (Names xs) h = absurd h

    of_id : (sight : Sight) (o : Option ExprTree) → AnySource (steps_id sight o) → Read sight (ReadsId calls p o)
    of_id sight None h = absurd h
    of_id sight (Some t) h = of_term sight [] t h

    of_cache : (sight : Sight) (o : Option ExprTrees) → AnySource (steps_cache sight o) → Read sight (ReadsCache calls p o)
    of_cache sight None h = absurd h
    of_cache sight (Some ts) h = of_among sight [] ts h

    mutual
      pub of_form : (sight : Sight) (f : ShapeTree) → AnySource (steps_form sight f) → Read sight (ReadsForm calls p f)
      of_form sight (shape.WriteText t) h = of_term sight [] t h
      of_form sight shape.Newline h = absurd h
      of_form sight (shape.Draw figure ts) h = of_among sight [] ts h
      of_form sight (shape.Indent t fs) h = both sight (steps sight [] t) (steps_forms sight fs) (λ k. of_term sight [] t k) (λ k. of_forms sight fs k) h
      of_form sight (shape.Ink t fs) h = both sight (steps sight [] t) (steps_forms sight fs) (λ k. of_term sight [] t k) (λ k. of_forms sight fs k) h
      of_form sight (shape.Room fs) h = of_forms sight fs h
      of_form sight (shape.Present t spec) h = both sight (steps sight [] t) (steps_spec spec) (λ k. of_term sight [] t k) (λ k. of_spec sight spec k) h
      of_form sight (shape.AsPresentation q fs) h =
          both sight (steps sight [] q.object) (steps_forms sight fs) (λ k. of_term sight [] q.object k) (λ k. of_forms sight fs k) h
      of_form sight (shape.Update u fs) h =
          both sight (steps_id sight u.id) (steps_cache sight u.cache ++ steps_forms sight fs) (λ k. of_id sight u.id k)
          (λ k. both sight (steps_cache sight u.cache) (steps_forms sight fs) (λ l. of_cache sight u.cache l) (λ l. of_forms sight fs l) k) h
      of_form sight (shape.If t f g) h =
          both sight (steps sight [] t) (steps_form sight f ++ steps_form sight g) (λ k. of_term sight [] t k)
          (λ k. both sight (steps_form sight f) (steps_form sight g) (λ l. of_form sight f l) (λ l. of_form sight g l) k) h
      of_form sight (shape.When t fs) h = both sight (steps sight [] t) (steps_forms sight fs) (λ k. of_term sight [] t k) (λ k. of_forms sight fs k) h
      of_form sight (shape.Let bs fs) h =
          both sight (steps_bound sight bs) (steps_forms (behind_all bs sight) fs) (λ k. of_bound sight bs k)
          (λ k. under_all bs sight (of_forms (behind_all bs sight) fs k)) h
      of_form sight (shape.Dolist x t fs) h =
          both sight (steps sight [] t) (steps_forms (behind x sight) fs) (λ k. of_term sight [] t k) (λ k. under x sight (of_forms (behind x sight) fs k)) h
      of_form sight (shape.Progn fs) h = of_forms sight fs h
      of_form sight (shape.Call d ts) h =
          both sight (steps_among sight [] ts) (step.Calls (callee.Display d) ∷ []) (λ k. of_among sight [] ts k) (λ k. call_read sight (callee.Display d) k) h

      pub of_forms : (sight : Sight) (fs : ShapeTrees) → AnySource (steps_forms sight fs) → Read sight (ReadsForms calls p fs)
      of_forms sight shape.none h = absurd h
      of_forms sight (shape.form f fs) h =
          both sight (steps_form sight f) (steps_forms sight fs) (λ k. of_form sight f k) (λ k. of_forms sight fs k) h
