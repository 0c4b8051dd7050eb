-- What the cache of a body lists begins each path that the body reads.
use Rattle.std.proofs.Common.{◌≡◌, ◌++◌, ◌∙◌, Bool, true, false, if◌then◌else◌, inl, inr, List, [], ◌∷◌, map, Option, Some}
use Rattle.std.proofs.Common.{refl, sym, ap, subst, append-nil, arith}
use Rattle.std.specs.Prelude.{◌⊎◌, Contains}
use Rattle.std.proofs.lemmas.List.Elements.{Contains-append_cases, Contains-push_cases}
use Rattle.std.proofs.lemmas.Slice.Eq.{bytes_eq-Decides}
use Rattle.cl_application.specs.declared.applications.App.{App}
use Rattle.cl_cover.specs.Listed.{one_or_none, path_along, paths_of}
use Rattle.cl_cover.specs.Walk.{reads_of}
use Rattle.cl_cover.proofs.CalleeLemmas.{either}
use Rattle.cl_cover.proofs.ReadLemmas.{forms_listed}
use Rattle.cl_dialog_forms.specs.Caches.{cache_of, is_among, is_same, once_behind, paths_once, with_path}
use Rattle.cl_dialog_forms.specs.Caches.{field_taken, fields_taken, path_expression, root_expression}
use Rattle.cl_eval.specs.ReadPaths.{AreRead}
use Rattle.cl_syntax.specs.ExprTree.{ExprTree, expr_trees_of}
use Rattle.cl_syntax.specs.Paths.{Along, begins, has_prefix, is_prefix, same_root}
use Rattle.cl_syntax.specs.ShapeTree.{ShapeTrees}
use Rattle.cl_syntax.specs.declared.paths.Path.{Path}
use Rattle.cl_syntax.specs.declared.paths.Root.{Root}
use Rattle.cl_syntax.specs.declared.paths.Root.TheVariants as root

-- ---- as expressions and back

root_again : (along : Along) (r : Root)
    → ◌≡◌ {A = Option Path} (path_along along (root_expression r)) (Some (record { root = r; fields = along }))
root_again along (root.Variable x) = refl
root_again along (root.Slot x) = refl

-- fields that are taken of an expression stand before those that are taken of it then
along_fields : (fs gs : Along) (t : ExprTree) → path_along gs (fields_taken t fs) ≡ path_along (fs ++ gs) t
along_fields [] gs t = refl
along_fields (f ∷ fs) gs t = along_fields fs gs (field_taken t f)

path_again : (p : Path) → path_along [] (path_expression p) ≡ Some p
path_again p =
    along_fields p.fields [] (root_expression p.root)
    ∙ ap (λ (fs : Along). path_along fs (root_expression p.root)) (append-nil p.fields)
    ∙ root_again p.fields p.root

paths_again : (ps : List Path) → paths_of (expr_trees_of (map path_expression ps)) ≡ ps
paths_again [] = refl
paths_again (p ∷ ps) =
    ap (λ (o : Option Path). one_or_none o ++ paths_of (expr_trees_of (map path_expression ps))) (path_again p)
    ∙ ap (λ (qs : List Path). p ∷ qs) (paths_again ps)

-- ---- what begins a path

first_true : (a b : Bool) → (if a then b else false) ≡ true → a ≡ true
first_true true b h = refl
first_true false b h = cc

both : (a b : Bool) → a ≡ true → b ≡ true → (if a then b else false) ≡ true
both true b h k = k
both false b h k = cc

or_first : (a b : Bool) → a ≡ true → (if a then true else b) ≡ true
or_first true b h = refl
or_first false b h = cc

or_second : (a b : Bool) → b ≡ true → (if a then true else b) ≡ true
or_second true b h = refl
or_second false b h = h

same_itself : (r : Root) → same_root r r ≡ true
same_itself (root.Variable x) = (bytes_eq-Decides x x).1 refl
same_itself (root.Slot x) = (bytes_eq-Decides x x).1 refl

begins_itself : (fs : Along) → begins fs fs ≡ true
begins_itself [] = refl
begins_itself (f ∷ fs) = both _ (begins fs fs) ((bytes_eq-Decides f f).1 refl) (begins_itself fs)

prefix_itself : (p : Path) → is_prefix p p ≡ true
prefix_itself p = both (same_root p.root p.root) (begins p.fields p.fields) (same_itself p.root) (begins_itself p.fields)

begun_by : (qs more : List Path) (p : Path) (b : Bool) → (if b then true else has_prefix qs p) ≡ true
    → (has_prefix qs p ≡ true → has_prefix (qs ++ more) p ≡ true) → (if b then true else has_prefix (qs ++ more) p) ≡ true
begun_by qs more p true h rest = refl
begun_by qs more p false h rest = rest h

-- what is begun by one of the paths is begun by one of more
begun_before : (qs more : List Path) (p : Path) → has_prefix qs p ≡ true → has_prefix (qs ++ more) p ≡ true
begun_before [] more p h = cc
begun_before (q ∷ qs) more p h = begun_by qs more p (is_prefix q p) h (begun_before qs more p)

begun_behind : (qs more : List Path) (p : Path) → has_prefix more p ≡ true → has_prefix (qs ++ more) p ≡ true
begun_behind [] more p h = h
begun_behind (q ∷ qs) more p h = or_second (is_prefix q p) (has_prefix (qs ++ more) p) (begun_behind qs more p h)

-- ---- each path once

-- a path that is among paths is begun by one
among_begun : (p : Path) (qs : List Path) → is_among p qs ≡ true → has_prefix qs p ≡ true
among_begun p [] h = cc
among_begun p (q ∷ qs) h =
    elim (either (is_same q p) (is_among p qs) h) [
      | inl e ↦ or_first (is_prefix q p) (has_prefix qs p) (first_true (is_prefix q p) (is_prefix p q) e)
      | inr r ↦ or_second (is_prefix q p) (has_prefix qs p) (among_begun p qs r)
    ]

added_by : (earlier : List Path) (p : Path) (b : Bool) → is_among p earlier ≡ b
    → has_prefix (if b then earlier else earlier ++ p ∷ []) p ≡ true
added_by earlier p true h = among_begun p earlier h
added_by earlier p false h = begun_behind earlier (p ∷ []) p (or_first (is_prefix p p) false (prefix_itself p))

kept_by : (earlier : List Path) (q p : Path) (b : Bool) → has_prefix earlier p ≡ true
    → has_prefix (if b then earlier else earlier ++ q ∷ []) p ≡ true
kept_by earlier q p true h = h
kept_by earlier q p false h = begun_before earlier (q ∷ []) p h

-- what is begun by an earlier path stays so
kept_once : (ps earlier : List Path) (p : Path) → has_prefix earlier p ≡ true → has_prefix (once_behind earlier ps) p ≡ true
kept_once [] earlier p h = h
kept_once (q ∷ ps) earlier p h = kept_once ps (with_path earlier q) p (kept_by earlier q p (is_among q earlier) h)

empty : (p : Path) → Contains [] p → ⊥
empty p h = omega (arith, h.1)

alone : (q p : Path) → Contains (q ∷ []) p → q ≡ p
alone q p k = elim (Contains-push_cases [] q p k) [ inl h ↦ absurd (empty p h) | inr e ↦ e ]

in_front : (q : Path) (ps : List Path) (p : Path) → Contains (q ∷ ps) p → (q ≡ p) ⊎ Contains ps p
in_front q ps p k = elim (Contains-append_cases (q ∷ []) ps p k) [ inl h ↦ inl (alone q p h) | inr h ↦ inr h ]

-- each of the paths is begun by one of those that stay
begun_once : (ps earlier : List Path) (p : Path) → Contains ps p → has_prefix (once_behind earlier ps) p ≡ true
begun_once [] earlier p k = absurd (empty p k)
begun_once (q ∷ ps) earlier p k =
    elim (in_front q ps p k) [
      | inl e ↦
          subst (λ (x : Path). has_prefix (once_behind (with_path earlier q) ps) x ≡ true) e
          (kept_once ps (with_path earlier q) q (added_by earlier q (is_among q earlier) refl))
      | inr r ↦ begun_once ps (with_path earlier q) p r
    ]

-- ---- of forms

pub cache_begins : (app : App) (fs : ShapeTrees) (p : Path) → AreRead app p fs → has_prefix (paths_of (cache_of app fs)) p ≡ true
cache_begins app fs p r =
    subst (λ (qs : List Path). has_prefix qs p ≡ true) (sym (paths_again (paths_once app fs)))
    (begun_once (reads_of app fs) [] p ((forms_listed app p fs).1 r))
