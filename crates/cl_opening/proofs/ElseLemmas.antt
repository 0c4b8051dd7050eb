-- The queries and the dialogs that are left at a place of their table.
use Rattle.std.proofs.Common.{◌≡◌, ◌+◌, ℕ, zero, suc, drop, List, [], ◌∷◌, sym, ap, ◌∙◌, arith}
use Rattle.std.specs.Prelude.{Option, Some, None}
use Rattle.cl_table.specs.Names.{declared_at}
use Rattle.cl_application.specs.declared.applications.App.{App}
use Rattle.cl_application.specs.declared.declarations.DialogDecl.{DialogDecl}
use Rattle.cl_application.specs.declared.declarations.QueryDecl.{QueryDecl}
use Rattle.cl_opening.specs.Opening.{Arguments, Holds, first_unfit_dialog, first_unfit_query, there_or, unfit_dialog, unfit_query}

pub query_next : (holds : Holds) (app : App) (arguments : Arguments) (t : List (List ℕ × QueryDecl)) (i : ℕ) (d : QueryDecl) → Some d ≡ declared_at i t
    → first_unfit_query holds app arguments (drop i t) ≡ there_or (unfit_query holds app arguments d) (first_unfit_query holds app arguments (drop (suc i) t))
query_next holds app arguments [] zero d h = cc
query_next holds app arguments [] (suc i) d h = cc
query_next holds app arguments (a ∷ t) zero d h = grind arith
query_next holds app arguments (a ∷ t) (suc i) d h = query_next holds app arguments t i d h

-- the query at a place is the first with one
pub query_told : (holds : Holds) (app : App) (arguments : Arguments) (t : List (List ℕ × QueryDecl)) (i : ℕ) (d : QueryDecl) (r : Option ℕ) (at : ℕ) → Some d ≡ declared_at i t
    → r ≡ unfit_query holds app arguments d → r ≡ Some at
    → first_unfit_query holds app arguments (drop i t) ≡ first_unfit_query holds app arguments t → Some at ≡ first_unfit_query holds app arguments t
query_told holds app arguments t i d r at h found some same =
    let unfit : unfit_query holds app arguments d ≡ Some at = sym found ∙ some in
    sym (ap (λ (o : Option ℕ). there_or o (first_unfit_query holds app arguments (drop (suc i) t))) unfit) ∙ sym (query_next holds app arguments t i d h) ∙ same

-- it has none
pub query_passed : (holds : Holds) (app : App) (arguments : Arguments) (t : List (List ℕ × QueryDecl)) (i : ℕ) (d : QueryDecl) (r : Option ℕ) → Some d ≡ declared_at i t
    → r ≡ unfit_query holds app arguments d → r ≡ None
    → first_unfit_query holds app arguments (drop i t) ≡ first_unfit_query holds app arguments t → first_unfit_query holds app arguments (drop (i + 1) t) ≡ first_unfit_query holds app arguments t
query_passed holds app arguments t i d r h found none same =
    let fit : unfit_query holds app arguments d ≡ None = sym found ∙ none in
    let next : i + 1 ≡ suc i = omega arith in
    rw next (sym (ap (λ (o : Option ℕ). there_or o (first_unfit_query holds app arguments (drop (suc i) t))) fit) ∙ sym (query_next holds app arguments t i d h) ∙ same)

pub dialog_next : (holds : Holds) (app : App) (t : List (List ℕ × DialogDecl)) (i : ℕ) (d : DialogDecl) → Some d ≡ declared_at i t
    → first_unfit_dialog holds app (drop i t) ≡ there_or (unfit_dialog holds app d) (first_unfit_dialog holds app (drop (suc i) t))
dialog_next holds app [] zero d h = cc
dialog_next holds app [] (suc i) d h = cc
dialog_next holds app (c ∷ t) zero d h = grind arith
dialog_next holds app (c ∷ t) (suc i) d h = dialog_next holds app t i d h

-- the dialog at a place is the first with one
pub dialog_told : (holds : Holds) (app : App) (t : List (List ℕ × DialogDecl)) (i : ℕ) (d : DialogDecl) (r : Option ℕ) (at : ℕ) → Some d ≡ declared_at i t
    → r ≡ unfit_dialog holds app d → r ≡ Some at
    → first_unfit_dialog holds app (drop i t) ≡ first_unfit_dialog holds app t → Some at ≡ first_unfit_dialog holds app t
dialog_told holds app t i d r at h found some same =
    let unfit : unfit_dialog holds app d ≡ Some at = sym found ∙ some in
    sym (ap (λ (o : Option ℕ). there_or o (first_unfit_dialog holds app (drop (suc i) t))) unfit) ∙ sym (dialog_next holds app t i d h) ∙ same

-- it has none
pub dialog_passed : (holds : Holds) (app : App) (t : List (List ℕ × DialogDecl)) (i : ℕ) (d : DialogDecl) (r : Option ℕ) → Some d ≡ declared_at i t
    → r ≡ unfit_dialog holds app d → r ≡ None
    → first_unfit_dialog holds app (drop i t) ≡ first_unfit_dialog holds app t → first_unfit_dialog holds app (drop (i + 1) t) ≡ first_unfit_dialog holds app t
dialog_passed holds app t i d r h found none same =
    let fit : unfit_dialog holds app d ≡ None = sym found ∙ none in
    let next : i + 1 ≡ suc i = omega arith in
    rw next (sym (ap (λ (o : Option ℕ). there_or o (first_unfit_dialog holds app (drop (suc i) t))) fit) ∙ sym (dialog_next holds app t i d h) ∙ same)
