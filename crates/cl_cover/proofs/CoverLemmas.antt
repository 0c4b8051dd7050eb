-- What it says that no path is uncovered, and what follows for values.
use Rattle.std.proofs.Common.{◌≡◌, ℕ, Bool, true, false, if◌then◌else◌, inl, inr, List, [], ◌∷◌, Option, Some, None, refl, ap, subst, arith}
use Rattle.std.specs.Prelude.{◌⊎◌, ◌↔◌, All, Contains}
use Rattle.std.proofs.lemmas.List.Elements.{All-head, All-tail, Contains-append_cases, Contains-append_left, Contains-append_right, Contains-push, Contains-push_cases}
use Rattle.std.proofs.lemmas.Slice.Eq.{bytes_eq-Decides}
use Rattle.cl_value.specs.Data.{Data}
use Rattle.cl_syntax.specs.ShapeTree.{ShapeTrees}
use Rattle.cl_application.specs.declared.applications.App.{App}
use Rattle.cl_eval.specs.Slots.{Slots, Env, is_name}
use Rattle.cl_syntax.specs.Paths.{Along, begins, first_uncovered, has_prefix, is_prefix, same_root}
use Rattle.cl_eval.specs.PathValues.{dig, field_at, root_value, value_at}
use Rattle.cl_eval.specs.ReadPaths.{AreRead}
use Rattle.cl_cover.specs.Walk.{reads_of}
use Rattle.cl_syntax.specs.declared.paths.Path.{Path}
use Rattle.cl_syntax.specs.declared.paths.Root.{Root}
use Rattle.cl_syntax.specs.declared.paths.Root.TheVariants as root
use Rattle.cl_cover.proofs.ReadLemmas.{forms_listed}

both_true : (a b : Bool) → (if a then b else false) ≡ true → (a ≡ true) × (b ≡ true)
both_true true b h = (refl, h)
both_true false b h = cc

same_by : (r q : Root) → same_root r q ≡ true → r ≡ q
same_by (root.Variable x) (root.Variable y) h = ap root.Variable ((bytes_eq-Decides x y).0 h)
same_by (root.Slot x) (root.Slot y) h = ap root.Slot ((bytes_eq-Decides x y).0 h)
same_by (root.Variable x) (root.Slot y) h = cc
same_by (root.Slot x) (root.Variable y) h = cc

-- what begins alike ends alike
dig_on : (app : App) (fs gs : Along) (o o' : Option Data) → begins fs gs ≡ true → dig app fs o ≡ dig app fs o' → dig app gs o ≡ dig app gs o'
dig_on app [] gs o o' b e = ap (dig app gs) e
dig_on app (f ∷ fs) [] o o' b e = cc
dig_on app (f ∷ fs) (g ∷ gs) o o' b e =
    let t = both_true (is_name f g) (begins fs gs) b in
    let same : f ≡ g = (bytes_eq-Decides f g).0 t.0 in
    subst (λ (h : List ℕ). dig app gs (field_at app h o) ≡ dig app gs (field_at app h o')) same (dig_on app fs gs (field_at app f o) (field_at app f o') t.1 e)

prefix_on : (app : App) (q p : Path) (s : Slots) (e : Env) (s' : Slots) (e' : Env) → is_prefix q p ≡ true
    → value_at app q s e ≡ value_at app q s' e' → value_at app p s e ≡ value_at app p s' e'
prefix_on app q p s e s' e' h same =
    let t = both_true (same_root q.root p.root) (begins q.fields p.fields) h in
    let roots : q.root ≡ p.root = same_by q.root p.root t.0 in
    dig_on app q.fields p.fields (root_value p.root s e) (root_value p.root s' e') t.1
    (subst (λ (r : Root). dig app q.fields (root_value r s e) ≡ dig app q.fields (root_value r s' e')) roots same)

prefix_by : (app : App) (q p : Path) (qs : List Path) (s : Slots) (e : Env) (s' : Slots) (e' : Env) (b : Bool) → is_prefix q p ≡ b → (if b then true else has_prefix qs p) ≡ true
    → value_at app q s e ≡ value_at app q s' e' → (has_prefix qs p ≡ true → value_at app p s e ≡ value_at app p s' e') → value_at app p s e ≡ value_at app p s' e'
prefix_by app q p qs s e s' e' true is h same rest = prefix_on app q p s e s' e' is same
prefix_by app q p qs s e s' e' false is h same rest = rest h

-- the same value, where one of these begins it and all have the same
pub covered_value : (app : App) (listed : List Path) (p : Path) (s : Slots) (e : Env) (s' : Slots) (e' : Env) → has_prefix listed p ≡ true
    → All (λ q. value_at app q s e ≡ value_at app q s' e') listed → value_at app p s e ≡ value_at app p s' e'
covered_value app [] p s e s' e' h all = cc
covered_value app (q ∷ qs) p s e s' e' h all =
    prefix_by app q p qs s e s' e' (is_prefix q p) refl h (All-head (λ x. value_at app x s e ≡ value_at app x s' e') q qs all)
    (λ k. covered_value app qs p s e s' e' k (All-tail (λ x. value_at app x s e ≡ value_at app x s' e') q qs all))

-- ---- the first that is uncovered

empty : (p : Path) → Contains [] p → ⊥
empty p h = omega (arith, h.1)

alone : (q p : Path) → Contains (q ∷ []) p → q ≡ p
alone q p k = elim (Contains-push_cases [] q p k) [ inl h ↦ absurd (empty p h) | inr e ↦ e ]

itself : (p : Path) → Contains (p ∷ []) p
itself p = Contains-push [] p

-- the first, or one of the rest
in_front : (q : Path) (ps : List Path) (p : Path) → Contains (q ∷ ps) p → (q ≡ p) ⊎ Contains ps p
in_front q ps p k = elim (Contains-append_cases (q ∷ []) ps p k) [ inl h ↦ inl (alone q p h) | inr h ↦ inr h ]

abbrev Covered : List Path → Path → Type 0
Covered listed p = has_prefix listed p ≡ true

covered_head : (listed : List Path) (q : Path) (ps : List Path) (p : Path) → (q ≡ p) ⊎ Contains ps p → has_prefix listed q ≡ true → (Contains ps p → has_prefix listed p ≡ true)
    → has_prefix listed p ≡ true
covered_head listed q ps p (inl e) h rest = subst (λ (x : Path). has_prefix listed x ≡ true) e h
covered_head listed q ps p (inr k) h rest = rest k

none_by : (listed ps : List Path) (p : Path) (b : Bool) → has_prefix listed p ≡ b → (if b then first_uncovered listed ps else Some p) ≡ None
    → (has_prefix listed p ≡ true) × (first_uncovered listed ps ≡ None)
none_by listed ps p true h e = (h, e)
none_by listed ps p false h e = cc

all_covered : (listed ps : List Path) → first_uncovered listed ps ≡ None → (p : Path) → Contains ps p → Covered listed p
all_covered listed [] e p k = absurd (empty p k)
all_covered listed (q ∷ ps) e p k =
    let t = none_by listed ps q (has_prefix listed q) refl e in
    covered_head listed q ps p (in_front q ps p k) t.0 (λ r. all_covered listed ps t.1 p r)

none_if : (listed ps : List Path) (p : Path) (b : Bool) → b ≡ true → first_uncovered listed ps ≡ None → (if b then first_uncovered listed ps else Some p) ≡ None
none_if listed ps p true h e = e
none_if listed ps p false h e = cc

none_uncovered : (listed ps : List Path) → ((p : Path) → Contains ps p → Covered listed p) → first_uncovered listed ps ≡ None
none_uncovered listed [] h = refl
none_uncovered listed (q ∷ ps) h =
    none_if listed ps q (has_prefix listed q) (h q (Contains-append_left (q ∷ []) ps q (itself q)))
    (none_uncovered listed ps (λ p k. h p (Contains-append_right (q ∷ []) ps p k)))

some_by : (listed ps : List Path) (q p : Path) (b : Bool) → has_prefix listed q ≡ b → (if b then first_uncovered listed ps else Some q) ≡ Some p
    → ((q ≡ p) × (has_prefix listed p ≡ false)) ⊎ (first_uncovered listed ps ≡ Some p)
some_by listed ps q p true h e = inr e
some_by listed ps q p false h e =
    let same : q ≡ p = cc in
    inl (same, subst (λ (x : Path). has_prefix listed x ≡ false) same h)

one_uncovered : (listed ps : List Path) (p : Path) → first_uncovered listed ps ≡ Some p → Contains ps p × (has_prefix listed p ≡ false)
one_uncovered listed [] p e = cc
one_uncovered listed (q ∷ ps) p e =
    elim (some_by listed ps q p (has_prefix listed q) refl e) [
      | inl t ↦ (subst (λ (x : Path). Contains (q ∷ ps) x) t.0 (Contains-append_left (q ∷ []) ps q (itself q)), t.1)
      | inr r ↦ let rest = one_uncovered listed ps p r in (Contains-append_right (q ∷ []) ps p rest.0, rest.1)
    ]

-- ---- of forms

pub none_is_all : (app : App) (listed : List Path) (fs : ShapeTrees)
    → (first_uncovered listed (reads_of app fs) ≡ None) ↔ ((p : Path) → AreRead app p fs → has_prefix listed p ≡ true)
none_is_all app listed fs = (
  λ e p r. all_covered listed (reads_of app fs) e p ((forms_listed app p fs).1 r),
  λ h. none_uncovered listed (reads_of app fs) (λ p k. h p ((forms_listed app p fs).0 k)),
)

pub some_is_read : (app : App) (listed : List Path) (fs : ShapeTrees) (p : Path) → first_uncovered listed (reads_of app fs) ≡ Some p
    → AreRead app p fs × (has_prefix listed p ≡ false)
some_is_read app listed fs p e =
    let t = one_uncovered listed (reads_of app fs) p e in
    ((forms_listed app p fs).0 t.0, t.1)

pub covered_values : (app : App) (listed : List Path) (fs : ShapeTrees) (s : Slots) (e : Env) (s' : Slots) (e' : Env) → first_uncovered listed (reads_of app fs) ≡ None
    → All (λ q. value_at app q s e ≡ value_at app q s' e') listed → (p : Path) → AreRead app p fs → value_at app p s e ≡ value_at app p s' e'
covered_values app listed fs s e s' e' none all p r = covered_value app listed p s e s' e' ((none_is_all app listed fs).0 none p r) all
