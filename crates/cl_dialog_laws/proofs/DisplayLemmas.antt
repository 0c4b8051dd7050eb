-- The updates of an application with the forms of its dialogs are its own and those of the forms.
use Rattle.std.proofs.Common.{◌≡◌, ◌++◌, ◌∙◌, ℕ, Bool, true, false, if◌then◌else◌, List, [], ◌∷◌, get_or, map, Option, Some, None}
use Rattle.std.proofs.Common.{refl, sym, ap, append_assoc, append-nil}
use Rattle.std.specs.Prelude.{All, is_some}
use Rattle.std.proofs.lemmas.List.Elements.{All-append, All-head, All-map, All-nil, All-same, All-tail}
use Rattle.cl_application.specs.Panes.{declared_by}
use Rattle.cl_application.specs.declared.applications.App.{App}
use Rattle.cl_application.specs.declared.declarations.DisplayDecl.{DisplayDecl}
use Rattle.cl_cover.proofs.CoverLemmas.{none_is_all}
use Rattle.cl_cover.proofs.UpdateLemmas.{behind_others}
use Rattle.cl_cover.specs.Updates.{AreCovered, CachedUpdate, IsCovered, at_form, there_or, uncovered_among}
use Rattle.cl_cover.specs.Updates.{uncovered_of, updates_among, updates_of}
use Rattle.cl_cover.specs.declared.updates.Uncovered.{Uncovered}
use Rattle.cl_dialog_forms.specs.Forms.{dialog_display, dialog_displays, own_name, with_dialog_displays, with_displays}
use Rattle.cl_dialog_laws.proofs.FormLemmas.{EachUpdate, form_covered}
use Rattle.cl_syntax.specs.ShapeTree.{shape_trees_of}
use Rattle.cl_syntax.specs.declared.paths.Path.{Path}
use Rattle.cl_table.specs.Names.{named, with_first}

-- ---- displays behind others

abbrev Displays : Type 0
Displays = List (List ℕ × DisplayDecl)

updates_both : (table more : Displays) → updates_of (table ++ more) ≡ updates_of table ++ updates_of more
updates_both [] more = refl
updates_both (d ∷ ds) more =
    ap (λ (us : List CachedUpdate). updates_among (shape_trees_of d.1.body) ++ us) (updates_both ds more)
    ∙ sym (append_assoc (updates_among (shape_trees_of d.1.body)) (updates_of ds) (updates_of more))

-- some updates and more behind them, each of which is so
record IsLonger (P : CachedUpdate → Type 0) (us all : List CachedUpdate) : Type 0 where
  pub added : List CachedUpdate
  pub same : all ≡ us ++ added
  pub each : All P added

module _ (P : CachedUpdate → Type 0) where
  abbrev EachIn : DisplayDecl → Type 0
  EachIn d = EachUpdate P d.body

  no_longer : (us : List CachedUpdate) → IsLonger P us us
  no_longer us = record { added = []; same = sym (append-nil us); each = All-nil P }

  longer_by : (table : Displays) (d : DisplayDecl) (b : Bool) → EachIn d
      → IsLonger P (updates_of table) (updates_of (if b then table else table ++ (own_name d, d) ∷ []))
  longer_by table d true h = no_longer (updates_of table)
  longer_by table d false h = record {
    added = updates_of ((own_name d, d) ∷ []);
    same = updates_both table ((own_name d, d) ∷ []);
    each = All-append P (updates_among (shape_trees_of d.body)) [] h (All-nil P);
  }

  longer_in_turn : (us vs all : List CachedUpdate) → IsLonger P us vs → IsLonger P vs all → IsLonger P us all
  longer_in_turn us vs all a b = record {
    added = a.added ++ b.added;
    same = b.same ∙ ap (λ (ws : List CachedUpdate). ws ++ b.added) a.same ∙ append_assoc us a.added b.added;
    each = All-append P a.added b.added a.each b.each;
  }

  longer : (table : Displays) (ds : List DisplayDecl) → All EachIn ds → IsLonger P (updates_of table) (updates_of (with_displays table ds))
  longer table [] h = no_longer (updates_of table)
  longer table (d ∷ ds) h =
      let next = with_first own_name table d in
      longer_in_turn (updates_of table) (updates_of next) (updates_of (with_displays next ds))
      (longer_by table d (is_some (named (own_name d) table)) (All-head EachIn d ds h)) (longer next ds (All-tail EachIn d ds h))

-- ---- none is uncovered

none_among : (app : App) (us : List CachedUpdate) → All (IsCovered app) us → uncovered_among app us ≡ None
none_among app [] h = refl
none_among app (u ∷ us) h =
    let none = (none_is_all app u.listed u.body).1 (All-head (IsCovered app) u us h) in
    ap (λ (o : Option Path). there_or (at_form u.form o) (uncovered_among app us)) none
    ∙ none_among app us (All-tail (IsCovered app) u us h)

or_none : (o : Option Uncovered) → there_or o None ≡ o
or_none None = refl
or_none (Some u) = refl

-- ---- forms of dialogs

module _ (app : App) where
  abbrev extended : App
  extended = with_dialog_displays app

  pub displays_covered : All (λ (d : DisplayDecl). EachUpdate (IsCovered extended) d.body) (dialog_displays app)
  displays_covered =
      All-map (λ (d : DisplayDecl). EachUpdate (IsCovered extended) d.body) (dialog_display app) (map declared_by app.dialogs)
      (λ k d within. form_covered app (get_or (map declared_by app.dialogs) k d))

  all_updates : IsLonger (IsCovered extended) (updates_of app.displays) (updates_of extended.displays)
  all_updates = longer (IsCovered extended) app.displays (dialog_displays app) displays_covered

  -- all are covered where the application's own are
  pub others_covered : All (IsCovered extended) (updates_of app.displays) → AreCovered extended
  others_covered own =
      All-same (IsCovered extended) (updates_of extended.displays) (updates_of app.displays ++ all_updates.added) all_updates.same
      (All-append (IsCovered extended) (updates_of app.displays) all_updates.added own all_updates.each)

  -- the first that is not covered is the first of the application's own
  pub first_own : (found : Uncovered) → uncovered_of extended ≡ Some found → uncovered_among extended (updates_of app.displays) ≡ Some found
  first_own found h =
      let own = uncovered_among extended (updates_of app.displays) in
      let split : uncovered_of extended ≡ there_or own (uncovered_among extended all_updates.added) =
      ap (uncovered_among extended) all_updates.same ∙ behind_others extended (updates_of app.displays) all_updates.added in
      let alone : there_or own (uncovered_among extended all_updates.added) ≡ own =
      ap (there_or own) (none_among extended all_updates.added all_updates.each) ∙ or_none own in
      sym (split ∙ alone) ∙ h
