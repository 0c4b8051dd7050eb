-- The updates of the form of a dialog have the site of its declaration, each with the number of its own query.
use Rattle.std.proofs.Common.{◌≡◌, ◌≤◌, ◌+◌, ◌⊎◌, inl, inr, ℕ, List, [], ◌∷◌, ◌++◌, refl, arith}
use Rattle.std.specs.Prelude.{Option, Some, None}
use Rattle.cl_syntax.specs.ShapeTree.{ShapeTree, shape_trees_of}
use Rattle.cl_syntax.specs.declared.sites.Site.{Site}
use Rattle.cl_table.specs.Names.{named}
use Rattle.cl_application.specs.declared.applications.App.{App}
use Rattle.cl_application.specs.declared.declarations.ArgumentDecl.{ArgumentDecl}
use Rattle.cl_application.specs.declared.declarations.ConditionDecl.{ConditionDecl}
use Rattle.cl_application.specs.declared.declarations.DialogDecl.{DialogDecl}
use Rattle.cl_application.specs.declared.declarations.QueryDecl.{QueryDecl}
use Rattle.cl_dialog_forms.specs.Forms.{arguments_of, dialog_form, exit_forms, line_update, queries_of, query_form_if, query_forms, query_line, under, updated_line}
use Rattle.cl_reuse.specs.Sited.{Has, HaveIt, IsThat, Sited}
use Rattle.cl_loaded.proofs.SitesLemmas.{Spaced, either, fewer, form_of, nothing, query_of, that_spaced}

-- an update is among these forms
abbrev Among : Sited → List ShapeTree → Type 0
Among u fs = HaveIt u (shape_trees_of fs)

joined : (u : Sited) (fs gs : List ShapeTree) → Among u (fs ++ gs) → Among u fs ⊎ Among u gs
joined u [] gs h = inr h
joined u (f ∷ fs) gs (inl h) = inl (inl h)
joined u (f ∷ fs) gs (inr h) = elim (joined u fs gs h) [ inl i ↦ inl (inr i) | inr i ↦ inr i ]

-- ---- a query

-- the declaration with the form stands here
abbrev IsDeclaredAt : ℕ → Site → Type 0
IsDeclaredAt at s = s.form ≡ at

-- the updates of forms have the numbers of queries from one up to another
abbrev Counted : (at from to : ℕ) → List ShapeTree → Type 0
Counted at from to fs = Spaced query_of (IsDeclaredAt at) from to (λ u. Among u fs)

-- no update stands in what a line shows
line_has_none : (u : Sited) (x : List ℕ) (a : ArgumentDecl) → Among u (query_line x a) → ⊥
line_has_none u x a (inl (inl h)) = absurd h
line_has_none u x a (inl (inr (inl (inl h)))) = absurd h
line_has_none u x a (inl (inr (inl (inr h)))) = absurd h
line_has_none u x a (inl (inr (inr h))) = absurd h
line_has_none u x a (inr (inl h)) = absurd h
line_has_none u x a (inr (inr h)) = absurd h

module _ (app : App) (d : DialogDecl) where
  -- the update of the line of this query
  abbrev IsLine : (k : ℕ) → List ℕ → ArgumentDecl → Sited → Type 0
  IsLine k x a u = IsThat u (line_update app d k x a) (shape_trees_of (query_line x a))

  line_is_that : (k : ℕ) (x : List ℕ) (a : ArgumentDecl) (u : Sited) → Has u (updated_line app d k x a) → IsLine k x a u
  line_is_that k x a u (inl h) = h
  line_is_that k x a u (inr h) = absurd (line_has_none u x a h)

  under_is_that : (k : ℕ) (x : List ℕ) (a : ArgumentDecl) (condition : Option ConditionDecl) (u : Sited)
      → Has u (under condition (updated_line app d k x a)) → IsLine k x a u
  under_is_that k x a None u h = line_is_that k x a u h
  under_is_that k x a (Some c) u (inl h) = line_is_that k x a u h
  under_is_that k x a (Some c) u (inr h) = absurd h

  form_is_that : (k : ℕ) (q : QueryDecl) (a : ArgumentDecl) (u : Sited) → Among u (query_form_if app d k q (Some a)) → IsLine k q.name a u
  form_is_that k q a u (inl h) = under_is_that k q.name a q.condition u h
  form_is_that k q a u (inr h) = absurd h

  query_counted : (k : ℕ) (q : QueryDecl) (o : Option ArgumentDecl) → Counted d.at k (k + 1) (query_form_if app d k q o)
  query_counted k q None = nothing k (k + 1)
  query_counted k q (Some a) =
      fewer k (k + 1) (form_is_that k q a)
      (that_spaced query_of (IsDeclaredAt d.at) k (line_update app d k q.name a) (shape_trees_of (query_line q.name a)) refl refl)

  -- ---- all queries

  -- the number behind those of queries that are numbered from here on
  abbrev behind : ℕ → List QueryDecl → ℕ
  behind k [] = k
  behind k (q ∷ qs) = behind (k + 1) qs

  behind_rises : (k : ℕ) (qs : List QueryDecl) → k ≤ behind k qs
  behind_rises k [] = omega arith
  behind_rises k (q ∷ qs) = omega (arith, behind_rises (k + 1) qs)

  queries_counted : (k : ℕ) (qs : List QueryDecl) → Counted d.at k (behind k qs) (query_forms app d k qs)
  queries_counted k [] = nothing k k
  queries_counted k (q ∷ qs) =
      let here : Option ArgumentDecl = named q.name (arguments_of app d) in
      fewer k (behind (k + 1) qs) (λ u. joined u (query_form_if app d k q here) (query_forms app d (k + 1) qs))
      (either k (k + 1) (behind (k + 1) qs) (query_counted k q here) (queries_counted (k + 1) qs) (omega arith) (behind_rises (k + 1) qs))

  -- ---- the form

  exits_have_none : (u : Sited) → Among u exit_forms → ⊥
  exits_have_none u (inl (inl h)) = absurd h
  exits_have_none u (inl (inr h)) = absurd h
  exits_have_none u (inr (inl h)) = absurd h
  exits_have_none u (inr (inr (inl (inl h)))) = absurd h
  exits_have_none u (inr (inr (inl (inr h)))) = absurd h
  exits_have_none u (inr (inr (inr h))) = absurd h

  in_queries : (u : Sited) → Among u (dialog_form app d) → Among u (query_forms app d 1 (queries_of d))
  in_queries u h =
      elim (joined u (query_forms app d 1 (queries_of d)) exit_forms h) [ inl i ↦ i | inr i ↦ absurd (exits_have_none u i) ]

  form_counted : Counted d.at 1 (behind 1 (queries_of d)) (dialog_form app d)
  form_counted = fewer 1 (behind 1 (queries_of d)) in_queries (queries_counted 1 (queries_of d))

-- ---- by places in the text

-- the update is that of a query
abbrev pub IsAsked : Site → Type 0
IsAsked s = 1 ≤ s.query

by_place : {P : Sited → Type 0} (at to : ℕ) → Spaced query_of (IsDeclaredAt at) 1 to P → Spaced form_of IsAsked at (at + 1) P
by_place at to h = record {
  within = λ u p. let place : u.site.form ≡ at = h.holds u p in (omega (arith, place), omega (arith, place));
  holds = λ u p. (h.within u p).0;
  same = h.same;
}

-- the updates of the form of a dialog stand at the declaration of the dialog
pub form_stands_at : (app : App) (d : DialogDecl) → Spaced form_of IsAsked d.at (d.at + 1) (λ u. HaveIt u (shape_trees_of (dialog_form app d)))
form_stands_at app d = by_place d.at (behind app d 1 (queries_of d)) (form_counted app d)
