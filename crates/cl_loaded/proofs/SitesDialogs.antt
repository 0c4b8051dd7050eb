-- The updates of an application with the forms of its dialogs stand each at its own site, where the declarations of the dialogs do.
use Rattle.std.proofs.Common.{◌≡◌, ◌≤◌, ◌<◌, ◌+◌, ◌⊎◌, inl, inr, ℕ, Bool, true, false, List, [], ◌∷◌, ◌++◌, map, refl, sym, ap, arith}
use Rattle.std.specs.Prelude.{Option, Some, None, is_some, if◌then◌else◌}
use Rattle.cl_syntax.specs.ShapeTree.{shape_trees_of}
use Rattle.cl_syntax.specs.declared.sites.Site.{Site}
use Rattle.cl_table.specs.Names.{named, with_first}
use Rattle.cl_forms.specs.Datum.{Datum, parts_of}
use Rattle.cl_forms.specs.Keys.{Keyed, keyed_pairs}
use Rattle.cl_words.specs.Arguments.{first_symbols}
use Rattle.cl_words.specs.declared.signatures.Signatures.{Signatures}
use Rattle.cl_expressions.specs.Scopes.{in_sight}
use Rattle.cl_application.specs.Panes.{declared_by}
use Rattle.cl_application.specs.declared.applications.App.{App}
use Rattle.cl_application.specs.declared.declarations.DialogDecl.{DialogDecl}
use Rattle.cl_application.specs.declared.declarations.DisplayDecl.{DisplayDecl}
use Rattle.cl_declare.specs.DialogShapes.{are_queries, dialog_keys, dialog_shape}
use Rattle.cl_declare.specs.Dialogs.{note_dialog_keys, parse_dialog, parse_keyed, parse_queries, parse_shaped}
use Rattle.cl_declare.specs.declared.dialog_shapes.DialogShape.{DialogShape}
use Rattle.cl_dialog_forms.specs.Forms.{dialog_display, dialog_displays, own_name, with_dialog_displays, with_displays}
use Rattle.cl_grammar.proofs.Endings.{Ends, gives, refuses, chooses, binds}
use Rattle.cl_reuse.specs.Sited.{AreApart, HaveIt, InDisplays, Sited}
use Rattle.cl_loaded.proofs.SitesForms.{IsWritten, anything}
use Rattle.cl_loaded.proofs.SitesLemmas.{Spaced, either, form_of, nothing, wider}
use Rattle.cl_loaded.proofs.SitesQueries.{IsAsked, form_stands_at}

-- ---- the declarations of dialogs

-- dialogs are declared one behind another, from one place up to another
abbrev pub Rise : ℕ → List (List ℕ × DialogDecl) → ℕ → Type 0
Rise from [] to = from ≤ to
Rise from (e ∷ es) to = (from ≤ e.1.at) × Rise (e.1.at + 1) es to

rises : (es : List (List ℕ × DialogDecl)) (from to : ℕ) → Rise from es to → from ≤ to
rises [] from to h = h
rises (e ∷ es) from to h = omega (arith, h.0, rises es (e.1.at + 1) to h.1)

pub rise_later : (es : List (List ℕ × DialogDecl)) (from to later : ℕ) → to ≤ later → Rise from es to → Rise from es later
rise_later [] from to later l h = omega (arith, l, h)
rise_later (e ∷ es) from to later l h = (h.0, rise_later es (e.1.at + 1) to later l h.1)

rise_behind : (es : List (List ℕ × DialogDecl)) (x : List ℕ) (d : DialogDecl) (from middle to : ℕ) → Rise from es middle → middle ≤ d.at → d.at < to
    → Rise from (es ++ (x, d) ∷ []) to
rise_behind [] x d from middle to h l r = (omega (arith, h, l), omega (arith, r))
rise_behind (e ∷ es) x d from middle to h l r = (h.0, rise_behind es x d (e.1.at + 1) middle to h.1 l r)

-- one more dialog
pub rise_more : (taken : Bool) (es : List (List ℕ × DialogDecl)) (x : List ℕ) (d : DialogDecl) (from middle to : ℕ) → Rise from es middle
    → middle ≤ d.at → d.at < to → Rise from (if taken then es else es ++ (x, d) ∷ []) to
rise_more true es x d from middle to h l r = rise_later es from middle to (omega (arith, l, r)) h
rise_more false es x d from middle to h l r = rise_behind es x d from middle to h l r

-- a dialog is declared at this place
abbrev pub IsDialogAt : ℕ → DialogDecl → Type 0
IsDialogAt at d = d.at ≡ at

shaped_at : (w : Signatures) (at : ℕ) (ks : List Keyed) (queries : List Datum) (o : Option DialogShape)
    → Ends (IsDialogAt at) (parse_shaped w at ks queries o)
shaped_at w at ks queries None = refuses
shaped_at w at ks queries (Some s) =
    binds (anything (note_dialog_keys w ks)) λ u x.
    binds (anything (parse_queries w (in_sight (first_symbols queries) []) queries [])) λ table y. gives refl

keyed_at : (w : Signatures) (at : ℕ) (n : Datum) (ks : Option (List Keyed)) (queries : List Datum)
    → Ends (IsDialogAt at) (parse_keyed w at n ks queries)
keyed_at w at n None queries = refuses
keyed_at w at n (Some ks) queries = shaped_at w at ks queries (dialog_shape w n ks queries)

pub dialog_at : (w : Signatures) (at : ℕ) (parts : List Datum) → Ends (IsDialogAt at) (parse_dialog w at parts)
dialog_at w at [] = refuses
dialog_at w at (n ∷ []) = refuses
dialog_at w at (n ∷ keys ∷ queries) =
    chooses (are_queries queries) (λ y. keyed_at w at n (keyed_pairs dialog_keys [] (parts_of keys)) queries) (λ y. refuses)

-- ---- the forms of dialogs

-- in one of these displays
abbrev InSome : Sited → List DisplayDecl → Type 0
InSome u [] = ⊥
InSome u (d ∷ ds) = HaveIt u (shape_trees_of d.body) ⊎ InSome u ds

dialogs_stand : (app : App) (es : List (List ℕ × DialogDecl)) (from to : ℕ) → Rise from es to
    → Spaced form_of IsAsked from to (λ u. InSome u (map (dialog_display app) (map declared_by es)))
dialogs_stand app [] from to h = nothing from to
dialogs_stand app (e ∷ es) from to h =
    let at : ℕ = e.1.at in
    either from (at + 1) to (wider from at (at + 1) (at + 1) h.0 (omega arith) (form_stands_at app e.1)) (dialogs_stand app es (at + 1) to h.1)
    (omega (arith, h.0)) (rises es (at + 1) to h.1)

-- ---- displays behind others

pub one_more : (u : Sited) (ds : List (List ℕ × DisplayDecl)) (x : List ℕ) (d : DisplayDecl) → InDisplays u (ds ++ (x, d) ∷ [])
    → InDisplays u ds ⊎ HaveIt u (shape_trees_of d.body)
one_more u [] x d (inl h) = inr h
one_more u [] x d (inr h) = absurd h
one_more u (e ∷ ds) x d (inl h) = inl (inl h)
one_more u (e ∷ ds) x d (inr h) = elim (one_more u ds x d h) [ inl i ↦ inl (inr i) | inr i ↦ inr i ]

one_first : (taken : Bool) (u : Sited) (ds : List (List ℕ × DisplayDecl)) (x : List ℕ) (d : DisplayDecl)
    → InDisplays u (if taken then ds else ds ++ (x, d) ∷ []) → InDisplays u ds ⊎ HaveIt u (shape_trees_of d.body)
one_first true u ds x d h = inl h
one_first false u ds x d h = one_more u ds x d h

extended : (u : Sited) (table : List (List ℕ × DisplayDecl)) (ds : List DisplayDecl) → InDisplays u (with_displays table ds)
    → InDisplays u table ⊎ InSome u ds
extended u table [] h = inl h
extended u table (d ∷ ds) h =
    elim (extended u (with_first own_name table d) ds h) [
      | inl i ↦ elim (one_first (is_some (named d.name table)) u table d.name d i) [ inl j ↦ inl j | inr j ↦ inr (inl j) ]
      | inr i ↦ inr (inr i)
    ]

-- ---- all updates

module _ {P Q : Sited → Type 0} (to : ℕ) (h : Spaced form_of IsWritten 0 to P) (k : Spaced form_of IsAsked 0 to Q) where
  -- an update of a text is none of a query
  unlike : (u w : Sited) → P u → Q w → u.site ≡ w.site → ⊥
  unlike u w p q e =
      let one : u.site.query ≡ w.site.query = ap (λ (s : Site). s.query) e in
      let none : u.site.query ≡ 0 = h.holds u p in
      let some : 1 ≤ w.site.query = k.holds w q in
      omega (arith, one, none, some)

  both_same : (u w : Sited) → P u ⊎ Q u → P w ⊎ Q w → u.site ≡ w.site → u ≡ w
  both_same u w (inl p) (inl q) e = h.same u w p q e
  both_same u w (inl p) (inr q) e = absurd (unlike u w p q e)
  both_same u w (inr p) (inl q) e = absurd (unlike w u q p (sym e))
  both_same u w (inr p) (inr q) e = k.same u w p q e

-- an application with the forms of its dialogs, where its own updates and its dialogs stand up to a place in the text
pub extended_apart : (app : App) (to : ℕ) → Spaced form_of IsWritten 0 to (λ u. InDisplays u app.displays) → Rise 0 app.dialogs to
    → AreApart (with_dialog_displays app)
extended_apart app to h r = record {
  same = λ u w p q e.
      both_same to h (dialogs_stand app app.dialogs 0 to r) u w (extended u app.displays (dialog_displays app) p)
      (extended w app.displays (dialog_displays app) q) e;
}
