-- The updates of the form of a dialog are covered.
use Rattle.std.proofs.Common.{◌≡◌, ◌++◌, ◌+◌, ◌∙◌, ℕ, inl, inr, List, [], ◌∷◌, Option, Some, None, sym, refl, ap, append_assoc}
use Rattle.std.specs.Prelude.{All}
use Rattle.std.proofs.lemmas.List.Elements.{All-append, All-cons, All-nil, All-same}
use Rattle.cl_application.specs.declared.applications.App.{App}
use Rattle.cl_application.specs.declared.declarations.ArgumentDecl.{ArgumentDecl}
use Rattle.cl_application.specs.declared.declarations.ConditionDecl.{ConditionDecl}
use Rattle.cl_application.specs.declared.declarations.DialogDecl.{DialogDecl}
use Rattle.cl_application.specs.declared.declarations.QueryDecl.{QueryDecl}
use Rattle.cl_cover.specs.Listed.{paths_of}
use Rattle.cl_cover.specs.Updates.{CachedUpdate, IsCovered, updates_among, updates_in}
use Rattle.cl_dialog_forms.specs.Caches.{cache_of}
use Rattle.cl_dialog_forms.specs.Forms.{arguments_of, dialog_form, exit_forms, queries_of, query_form_if, query_forms}
use Rattle.cl_dialog_forms.specs.Forms.{query_line, under, updated_line, with_dialog_displays}
use Rattle.cl_dialog_laws.proofs.CalleeLemmas.{no_less, reads_spec}
use Rattle.cl_dialog_laws.proofs.PathLemmas.{cache_begins}
use Rattle.cl_eval.specs.ReadPaths.{ReadsForms, Within}
use Rattle.cl_syntax.specs.ShapeTree.{ShapeTree, ShapeTrees, shape_trees_of}
use Rattle.cl_syntax.specs.declared.paths.Path.{Path}
use Rattle.cl_table.specs.Names.{named}

-- each update with a cache in forms is so
abbrev pub EachUpdate : (CachedUpdate → Type 0) → List ShapeTree → Type 0
EachUpdate P fs = All P (updates_among (shape_trees_of fs))

-- ---- forms in a row

among_both : (fs gs : List ShapeTree)
    → updates_among (shape_trees_of (fs ++ gs)) ≡ updates_among (shape_trees_of fs) ++ updates_among (shape_trees_of gs)
among_both [] gs = refl
among_both (f ∷ fs) gs =
    ap (λ (us : List CachedUpdate). updates_in f ++ us) (among_both fs gs)
    ∙ sym (append_assoc (updates_in f) (updates_among (shape_trees_of fs)) (updates_among (shape_trees_of gs)))

each_both : (P : CachedUpdate → Type 0) (fs gs : List ShapeTree) → EachUpdate P fs → EachUpdate P gs → EachUpdate P (fs ++ gs)
each_both P fs gs h k =
    All-same P _ _ (among_both fs gs) (All-append P (updates_among (shape_trees_of fs)) (updates_among (shape_trees_of gs)) h k)

module _ (app : App) where
  -- ---- a line

  abbrev line_of : List ℕ → ArgumentDecl → ShapeTrees
  line_of x a = shape_trees_of (query_line x a)

  -- a line calls no display
  line_read : (x : List ℕ) (a : ArgumentDecl) (p : Path) (n : ℕ)
      → ReadsForms (Within n (with_dialog_displays app) p) p (line_of x a) → ReadsForms (Within n app p) p (line_of x a)
  line_read x a p n (inl (inl r)) = absurd r
  line_read x a p n (inl (inr (inl r))) = absurd r
  line_read x a p n (inl (inr (inr (inl (inl r))))) = inl (inr (inr (inl (inl r))))
  line_read x a p n (inl (inr (inr (inl (inr (inl (inl r))))))) = inl (inr (inr (inl (inr (inl (inl r))))))
  line_read x a p n (inl (inr (inr (inl (inr (inl (inr r))))))) =
      let again = reads_spec (Within n (with_dialog_displays app) p) (Within n app p) (no_less app p n) p a.spec r in
      inl (inr (inr (inl (inr (inl (inr again))))))
  line_read x a p n (inl (inr (inr (inl (inr (inr r)))))) = absurd r
  line_read x a p n (inl (inr (inr (inr r)))) = absurd r
  line_read x a p n (inr (inl r)) = absurd r
  line_read x a p n (inr (inr r)) = absurd r

  abbrev Covered : CachedUpdate → Type 0
  Covered = IsCovered (with_dialog_displays app)

  line_covered : (at : ℕ) (x : List ℕ) (a : ArgumentDecl)
      → Covered (record { form = at; listed = paths_of (cache_of app (line_of x a)); body = line_of x a })
  line_covered at x a = λ p r. cache_begins app (line_of x a) p (record { calls = r.calls; reads = line_read x a p r.calls r.reads })

  -- ---- the form

  query_covered : (d : DialogDecl) (k : ℕ) (x : List ℕ) (a : ArgumentDecl) (o : Option ConditionDecl)
      → EachUpdate Covered (under o (updated_line app d k x a) ∷ [])
  query_covered d k x a None = All-cons Covered _ [] (line_covered d.at x a) (All-nil Covered)
  query_covered d k x a (Some c) = All-cons Covered _ [] (line_covered d.at x a) (All-nil Covered)

  if_covered : (d : DialogDecl) (k : ℕ) (q : QueryDecl) (o : Option ArgumentDecl) → EachUpdate Covered (query_form_if app d k q o)
  if_covered d k q None = All-nil Covered
  if_covered d k q (Some a) = query_covered d k q.name a q.condition

  queries_covered : (d : DialogDecl) (k : ℕ) (qs : List QueryDecl) → EachUpdate Covered (query_forms app d k qs)
  queries_covered d k [] = All-nil Covered
  queries_covered d k (q ∷ qs) =
      each_both Covered (query_form_if app d k q (named q.name (arguments_of app d))) (query_forms app d (k + 1) qs)
      (if_covered d k q (named q.name (arguments_of app d))) (queries_covered d (k + 1) qs)

  pub form_covered : (d : DialogDecl) → EachUpdate Covered (dialog_form app d)
  form_covered d = each_both Covered (query_forms app d 1 (queries_of d)) exit_forms (queries_covered d 1 (queries_of d)) (All-nil Covered)
