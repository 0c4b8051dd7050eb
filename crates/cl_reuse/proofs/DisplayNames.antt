-- The display of a name is one of the application's.
use Rattle.std.proofs.Common.{◌≡◌, refl, sym, subst, ℕ, ◌==◌, Bool, true, false, inl, inr, List, [], ◌∷◌, Option, Some, None}
use Rattle.std.specs.Prelude.{cond}
use Rattle.std.specs.Cmp.Lexicographic.{pointwise}
use Rattle.cl_syntax.specs.ShapeTree.{shape_trees_of}
use Rattle.cl_table.specs.Names.{named}
use Rattle.cl_application.specs.App.{body_of, display_named, forms_of}
use Rattle.cl_application.specs.declared.applications.App.{App}
use Rattle.cl_application.specs.declared.declarations.DisplayDecl.{DisplayDecl}
use Rattle.cl_application.specs.declared.declarations.PaneDecl.{PaneDecl}
use Rattle.cl_reuse.specs.Sited.{AreOwn, HaveIt, InDisplays, IsUpdateOf, Sited}

declared-first : (d : List ℕ × DisplayDecl) (ds : List (List ℕ × DisplayDecl)) (found : Option DisplayDecl) (f : DisplayDecl) (b : Bool)
    → cond b (Some d.1) found ≡ Some f → (u : Sited) → HaveIt u (shape_trees_of f.body) → (found ≡ Some f → InDisplays u ds) → InDisplays u (d ∷ ds)
declared-first d ds found f true e u h rest =
    let same : d.1 ≡ f = cc in
    inl (subst (λ (g : DisplayDecl). HaveIt u (shape_trees_of g.body)) (sym same) h)
declared-first d ds found f false e u h rest = inr (rest e)

declared-in : (x : List ℕ) (ds : List (List ℕ × DisplayDecl)) (f : DisplayDecl) → named x ds ≡ Some f → (u : Sited) → HaveIt u (shape_trees_of f.body)
    → InDisplays u ds
declared-in x [] f e u h = cc
declared-in x (d ∷ ds) f e u h = declared-first d ds (named x ds) f (pointwise ◌==◌ x d.0) e u h (λ k. declared-in x ds f k u h)

pub display-declared : (app : App) (x : List ℕ) (f : DisplayDecl) → display_named x app ≡ Some f → (u : Sited) → HaveIt u (shape_trees_of f.body)
    → IsUpdateOf app u
display-declared app x f e u h = declared-in x app.displays f e u h

pub forms-own : (app : App) (x : List ℕ) (f : Option DisplayDecl) → display_named x app ≡ f → AreOwn app (shape_trees_of (body_of f))
forms-own app x None e u h = absurd h
forms-own app x (Some f) e u h = display-declared app x f e u h

-- the updates of the forms of a pane
pub pane-own : (app : App) (pane : PaneDecl) → AreOwn app (shape_trees_of (forms_of pane app))
pane-own app pane = forms-own app pane.display (display_named pane.display app) refl
