-- The arguments and the commands that are left at a place of their table.
use Rattle.std.proofs.Common.{◌≡◌, ◌+◌, ℕ, zero, suc, drop, List, [], ◌∷◌, sym, ap, ◌∙◌, arith}
use Rattle.std.specs.Prelude.{Option, Some, None}
use Rattle.cl_table.specs.Names.{declared_at}
use Rattle.cl_application.specs.declared.applications.App.{App}
use Rattle.cl_application.specs.declared.declarations.ArgumentDecl.{ArgumentDecl}
use Rattle.cl_application.specs.declared.declarations.CommandDecl.{CommandDecl}
use Rattle.cl_opening.specs.Opening.{Holds, first_unfit_argument, first_unfit_command, there_or, unfit_argument}

pub argument_next : (holds : Holds) (app : App) (t : List (List ℕ × ArgumentDecl)) (i : ℕ) (d : ArgumentDecl) → Some d ≡ declared_at i t
    → first_unfit_argument holds app (drop i t) ≡ there_or (unfit_argument holds app d) (first_unfit_argument holds app (drop (suc i) t))
argument_next holds app [] zero d h = cc
argument_next holds app [] (suc i) d h = cc
argument_next holds app (a ∷ t) zero d h = grind arith
argument_next holds app (a ∷ t) (suc i) d h = argument_next holds app t i d h

pub command_next : (holds : Holds) (app : App) (t : List (List ℕ × CommandDecl)) (i : ℕ) (d : CommandDecl) → Some d ≡ declared_at i t
    → first_unfit_command holds app (drop i t) ≡ there_or (first_unfit_argument holds app d.arguments) (first_unfit_command holds app (drop (suc i) t))
command_next holds app [] zero d h = cc
command_next holds app [] (suc i) d h = cc
command_next holds app (c ∷ t) zero d h = grind arith
command_next holds app (c ∷ t) (suc i) d h = command_next holds app t i d h

-- the argument at a place is the first with one
pub argument_told : (holds : Holds) (app : App) (t : List (List ℕ × ArgumentDecl)) (i : ℕ) (d : ArgumentDecl) (r : Option ℕ) (at : ℕ) → Some d ≡ declared_at i t
    → r ≡ unfit_argument holds app d → r ≡ Some at → first_unfit_argument holds app (drop i t) ≡ first_unfit_argument holds app t → Some at ≡ first_unfit_argument holds app t
argument_told holds app t i d r at h found some same =
    let unfit : unfit_argument holds app d ≡ Some at = sym found ∙ some in
    sym (ap (λ (o : Option ℕ). there_or o (first_unfit_argument holds app (drop (suc i) t))) unfit) ∙ sym (argument_next holds app t i d h) ∙ same

-- it has none
pub argument_passed : (holds : Holds) (app : App) (t : List (List ℕ × ArgumentDecl)) (i : ℕ) (d : ArgumentDecl) (r : Option ℕ) → Some d ≡ declared_at i t
    → r ≡ unfit_argument holds app d → r ≡ None → first_unfit_argument holds app (drop i t) ≡ first_unfit_argument holds app t → first_unfit_argument holds app (drop (i + 1) t) ≡ first_unfit_argument holds app t
argument_passed holds app t i d r h found none same =
    let fit : unfit_argument holds app d ≡ None = sym found ∙ none in
    let next : i + 1 ≡ suc i = omega arith in
    rw next (sym (ap (λ (o : Option ℕ). there_or o (first_unfit_argument holds app (drop (suc i) t))) fit) ∙ sym (argument_next holds app t i d h) ∙ same)

-- the command at a place is the first with one
pub command_told : (holds : Holds) (app : App) (t : List (List ℕ × CommandDecl)) (i : ℕ) (d : CommandDecl) (r : Option ℕ) (at : ℕ) → Some d ≡ declared_at i t
    → r ≡ first_unfit_argument holds app d.arguments → r ≡ Some at → first_unfit_command holds app (drop i t) ≡ first_unfit_command holds app t → Some at ≡ first_unfit_command holds app t
command_told holds app t i d r at h found some same =
    let unfit : first_unfit_argument holds app d.arguments ≡ Some at = sym found ∙ some in
    sym (ap (λ (o : Option ℕ). there_or o (first_unfit_command holds app (drop (suc i) t))) unfit) ∙ sym (command_next holds app t i d h) ∙ same

-- it has none
pub command_passed : (holds : Holds) (app : App) (t : List (List ℕ × CommandDecl)) (i : ℕ) (d : CommandDecl) (r : Option ℕ) → Some d ≡ declared_at i t
    → r ≡ first_unfit_argument holds app d.arguments → r ≡ None → first_unfit_command holds app (drop i t) ≡ first_unfit_command holds app t → first_unfit_command holds app (drop (i + 1) t) ≡ first_unfit_command holds app t
command_passed holds app t i d r h found none same =
    let fit : first_unfit_argument holds app d.arguments ≡ None = sym found ∙ none in
    let next : i + 1 ≡ suc i = omega arith in
    rw next (sym (ap (λ (o : Option ℕ). there_or o (first_unfit_command holds app (drop (suc i) t))) fit) ∙ sym (command_next holds app t i d h) ∙ same)
