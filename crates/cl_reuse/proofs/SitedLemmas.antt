-- Updates in displays: what is covered, and equal caches.
use Rattle.std.proofs.Common.{◌≡◌, ◌∙◌, sym, subst, refl, ℕ, true, inl, inr, List, [], ◌∷◌, ◌++◌, Option, Some, None}
use Rattle.std.specs.Prelude.{All}
use Rattle.std.specs.Ordering.{is_eq}
use Rattle.std.specs.declared.cmp.Ordering.{Ordering}
use Rattle.std.specs.declared.cmp.Ordering.TheVariants.{Less, Equal, Greater}
use Rattle.std.proofs.lemmas.List.Elements.{All-cons, All-head, All-nil, All-tail}
use Rattle.cl_value.specs.Data.{Data, order_of}
use Rattle.cl_value.specs.OrderLaws.{same_data}
use Rattle.cl_region.proofs.Corners.{and_left, and_right}
use Rattle.cl_syntax.specs.ExprTree.{ExprTrees, none, part}
use Rattle.cl_syntax.specs.Paths.{has_prefix}
use Rattle.cl_syntax.specs.ShapeTree as shape
use Rattle.cl_syntax.specs.ShapeTree.{ShapeTree, ShapeTrees, shape_trees_of}
use Rattle.cl_syntax.specs.UpdateTree.{UpdateTree}
use Rattle.cl_syntax.specs.declared.paths.Path.{Path}
use Rattle.cl_application.specs.declared.applications.App.{App}
use Rattle.cl_application.specs.declared.declarations.DisplayDecl.{DisplayDecl}
use Rattle.cl_cover.specs.Listed.{one_or_none, path_along, paths_of}
use Rattle.cl_cover.specs.Updates.{AreCovered, CachedUpdate, IsCovered, cached, updates_among, updates_in, updates_of}
use Rattle.cl_cover.proofs.CoverLemmas.{covered_value}
use Rattle.cl_eval.specs.PathValues.{value_at}
use Rattle.cl_eval.specs.ReadPaths.{AreRead}
use Rattle.cl_eval.specs.Slots.{Env, Slots}
use Rattle.cl_reuse.specs.Keeping.{same_values}
use Rattle.cl_reuse.specs.ReadValues.{AgreeOnForms}
use Rattle.cl_reuse.specs.Sited.{Has, HaveIt, HoldCache, HoldsValue, InDisplays, IsThat, IsUpdateOf, Sited}

-- ---- what is covered

-- the update as coverage sees it
abbrev cached_of : Sited → CachedUpdate
cached_of u = record { form = u.site.form; listed = paths_of u.cache; body = u.body }

module _ (P : CachedUpdate → Type 0) where
  all-left : (us ws : List CachedUpdate) → All P (us ++ ws) → All P us
  all-left [] ws h = All-nil P
  all-left (u ∷ us) ws h = All-cons P u us (All-head P u (us ++ ws) h) (all-left us ws (All-tail P u (us ++ ws) h))

  all-right : (us ws : List CachedUpdate) → All P (us ++ ws) → All P ws
  all-right [] ws h = h
  all-right (u ∷ us) ws h = all-right us ws (All-tail P u (us ++ ws) h)

  that-one : (u : Sited) (w : UpdateTree) (fs : ShapeTrees) → IsThat u w fs → All P (cached w.site w.cache fs) → P (cached_of u)
  that-one u w fs h all =
      let same : cached w.site w.cache fs ≡ cached_of u ∷ [] = λ i. cached (h.0 i) (h.1.0 i) (h.1.1 i) in
      All-head P (cached_of u) [] (subst (All P) same all)

  mutual
    in-form : (u : Sited) (f : ShapeTree) → All P (updates_in f) → Has u f → P (cached_of u)
    in-form u (shape.WriteText t) all h = absurd h
    in-form u shape.Newline all h = absurd h
    in-form u (shape.Draw figure ts) all h = absurd h
    in-form u (shape.Indent t fs) all h = in-forms u fs all h
    in-form u (shape.Ink t fs) all h = in-forms u fs all h
    in-form u (shape.Room fs) all h = in-forms u fs all h
    in-form u (shape.Present t spec) all h = absurd h
    in-form u (shape.AsPresentation q fs) all h = in-forms u fs all h
    in-form u (shape.Update w fs) all (inl h) = that-one u w fs h (all-left (cached w.site w.cache fs) (updates_among fs) all)
    in-form u (shape.Update w fs) all (inr h) = in-forms u fs (all-right (cached w.site w.cache fs) (updates_among fs) all) h
    in-form u (shape.If t f g) all (inl h) = in-form u f (all-left (updates_in f) (updates_in g) all) h
    in-form u (shape.If t f g) all (inr h) = in-form u g (all-right (updates_in f) (updates_in g) all) h
    in-form u (shape.When t fs) all h = in-forms u fs all h
    in-form u (shape.Let bs fs) all h = in-forms u fs all h
    in-form u (shape.Dolist x t fs) all h = in-forms u fs all h
    in-form u (shape.Progn fs) all h = in-forms u fs all h
    in-form u (shape.Call d ts) all h = absurd h

    in-forms : (u : Sited) (fs : ShapeTrees) → All P (updates_among fs) → HaveIt u fs → P (cached_of u)
    in-forms u shape.none all h = absurd h
    in-forms u (shape.form f fs) all (inl h) = in-form u f (all-left (updates_in f) (updates_among fs) all) h
    in-forms u (shape.form f fs) all (inr h) = in-forms u fs (all-right (updates_in f) (updates_among fs) all) h

  in-displays : (u : Sited) (ds : List (List ℕ × DisplayDecl)) → All P (updates_of ds) → InDisplays u ds → P (cached_of u)
  in-displays u [] all h = absurd h
  in-displays u (d ∷ ds) all (inl h) = in-forms u (shape_trees_of d.1.body) (all-left (updates_among (shape_trees_of d.1.body)) (updates_of ds) all) h
  in-displays u (d ∷ ds) all (inr h) = in-displays u ds (all-right (updates_among (shape_trees_of d.1.body)) (updates_of ds) all) h

-- each path that the body of an update reads begins with one that its cache lists
sited-covered : (app : App) → AreCovered app → (u : Sited) → IsUpdateOf app u → (p : Path) → AreRead app p u.body → has_prefix (paths_of u.cache) p ≡ true
sited-covered app covered u declared = in-displays (IsCovered app) u app.displays covered declared

-- ---- equal caches

equal : (o : Ordering) → is_eq o ≡ true → o ≡ Equal
equal Less h = cc
equal Equal h = refl
equal Greater h = cc

pub values-same : (ds es : List Data) → same_values ds es ≡ true → ds ≡ es
values-same [] [] h = refl
values-same (d ∷ ds) (e ∷ es) h =
    let first : d ≡ e = same_data d e (equal (order_of d e) (and_left (is_eq (order_of d e)) (same_values ds es) h)) in
    let rest = values-same ds es (and_right (is_eq (order_of d e)) (same_values ds es) h) in
    λ i. first i ∷ rest i
values-same [] (e ∷ es) h = cc
values-same (d ∷ ds) [] h = cc

module _ (app : App) (s : Slots) (e : Env) (s' : Slots) (e' : Env) where
  abbrev SameAt : Path → Type 0
  SameAt p = value_at app p s e ≡ value_at app p s' e'

  one-same : (o : Option Path) (d : Data) (ps : List Path) → HoldsValue app s e o d → HoldsValue app s' e' o d → All SameAt ps
      → All SameAt (one_or_none o ++ ps)
  one-same None d ps h k all = all
  one-same (Some p) d ps h k all = All-cons SameAt p ps (h ∙ sym k) all

  -- what holds the same cache has the same values at its paths
  cached-same : (ts : ExprTrees) (ds : List Data) → HoldCache app s e ts ds → HoldCache app s' e' ts ds → All SameAt (paths_of ts)
  cached-same none [] h k = All-nil SameAt
  cached-same (part t ts) (d ∷ ds) h k = one-same (path_along [] t) d (paths_of ts) h.0 k.0 (cached-same ts ds h.1 k.1)
  cached-same none (d ∷ ds) h k = absurd h
  cached-same (part t ts) [] h k = absurd h

  -- and so at each path that the body reads
  pub bodies-agree : AreCovered app → (u : Sited) → IsUpdateOf app u → (ds : List Data) → HoldCache app s e u.cache ds → HoldCache app s' e' u.cache ds
      → AgreeOnForms app u.body s e s' e'
  bodies-agree covered u declared ds h k p r =
      covered_value app (paths_of u.cache) p s e s' e' (sited-covered app covered u declared p r) (cached-same u.cache ds h k)
