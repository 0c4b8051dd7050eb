-- Which updates with a cache stand in the displays of an application, and what the values of a cache say.
use Rattle.std.specs.Prelude.{◌≡◌, ◌⊎◌, ℕ, List, [], ◌∷◌, Option, Some, None}
use Rattle.cl_value.specs.Data.{Data}
use Rattle.cl_syntax.specs.ExprTree.{ExprTrees, none, part}
use Rattle.cl_syntax.specs.ShapeTree as shape
use Rattle.cl_syntax.specs.ShapeTree.{ShapeTree, ShapeTrees, shape_trees_of}
use Rattle.cl_syntax.specs.UpdateTree.{UpdateTree}
use Rattle.cl_syntax.specs.declared.paths.Path.{Path}
use Rattle.cl_syntax.specs.declared.sites.Site.{Site}
use Rattle.cl_application.specs.declared.applications.App.{App}
use Rattle.cl_application.specs.declared.declarations.DisplayDecl.{DisplayDecl}
use Rattle.cl_cover.specs.Listed.{path_along}
use Rattle.cl_eval.specs.PathValues.{value_at}
use Rattle.cl_eval.specs.Slots.{Env, Slots}

-- an update with a cache: its site, what its cache lists, and its body
pub record Sited : Type 0 where
  pub site : Site
  pub cache : ExprTrees
  pub body : ShapeTrees

-- a form is that update
abbrev pub IsThat : Sited → UpdateTree → ShapeTrees → Type 0
IsThat u w fs = (w.site ≡ u.site) × ((w.cache ≡ Some u.cache) × (fs ≡ u.body))

-- it stands in a display form
abbrev mutual
  pub Has : Sited → ShapeTree → Type 0
  Has u (shape.WriteText t) = ⊥
  Has u shape.Newline = ⊥
  Has u (shape.Draw figure ts) = ⊥
  Has u (shape.Indent t fs) = HaveIt u fs
  Has u (shape.Ink t fs) = HaveIt u fs
  Has u (shape.Room fs) = HaveIt u fs
  Has u (shape.Present t spec) = ⊥
  Has u (shape.AsPresentation q fs) = HaveIt u fs
  Has u (shape.Update w fs) = IsThat u w fs ⊎ HaveIt u fs
  Has u (shape.If t f g) = Has u f ⊎ Has u g
  Has u (shape.When t fs) = HaveIt u fs
  Has u (shape.Let bs fs) = HaveIt u fs
  Has u (shape.Dolist x t fs) = HaveIt u fs
  Has u (shape.Progn fs) = HaveIt u fs
  Has u (shape.Call d ts) = ⊥

  -- in one of these
  pub HaveIt : Sited → ShapeTrees → Type 0
  HaveIt u shape.none = ⊥
  HaveIt u (shape.form f fs) = Has u f ⊎ HaveIt u fs

-- in one of these displays
abbrev pub InDisplays : Sited → List (List ℕ × DisplayDecl) → Type 0
InDisplays u [] = ⊥
InDisplays u (d ∷ ds) = HaveIt u (shape_trees_of d.1.body) ⊎ InDisplays u ds

-- in a display of the application
abbrev pub IsUpdateOf : App → Sited → Type 0
IsUpdateOf app u = InDisplays u app.displays

-- each update with a cache among these forms stands in a display of the application
abbrev pub AreOwn : App → ShapeTrees → Type 0
AreOwn app fs = (u : Sited) → HaveIt u fs → IsUpdateOf app u

-- no two updates of an application that have a cache have the same site
pub record AreApart (app : App) : Type 0 where
  pub same : (u w : Sited) → IsUpdateOf app u → IsUpdateOf app w → u.site ≡ w.site → u ≡ w

-- ---- caches

-- the value at a path, if it is there
abbrev pub HoldsValue : App → Slots → Env → Option Path → Data → Type 0
HoldsValue app slots env None d = Unit {0}
HoldsValue app slots env (Some p) d = value_at app p slots env ≡ Some d

-- the values of what a cache lists: that of each path is the value there
abbrev pub HoldCache : App → Slots → Env → ExprTrees → List Data → Type 0
HoldCache app slots env none [] = Unit {0}
HoldCache app slots env (part t ts) (d ∷ ds) = HoldsValue app slots env (path_along [] t) d × HoldCache app slots env ts ds
HoldCache app slots env ts ds = ⊥
