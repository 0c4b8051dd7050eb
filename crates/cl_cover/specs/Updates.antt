-- The updates with a cache, and the first of them whose listed paths do not cover what its body reads.
use Rattle.std.specs.Prelude.{◌≡◌, ℕ, true, false, All, List, [], ◌∷◌, ◌++◌, Option, Some, None}
use Rattle.cl_syntax.specs.ExprTree.{ExprTrees}
use Rattle.cl_syntax.specs.ShapeTree as shape
use Rattle.cl_syntax.specs.ShapeTree.{ShapeTree, ShapeTrees, shape_trees_of}
use Rattle.cl_syntax.specs.Paths.{first_uncovered, has_prefix}
use Rattle.cl_syntax.specs.declared.paths.Path.{Path}
use Rattle.cl_syntax.specs.declared.sites.Site.{Site}
use Rattle.cl_application.specs.declared.applications.App.{App}
use Rattle.cl_application.specs.declared.declarations.DisplayDecl.{DisplayDecl}
use Rattle.cl_eval.specs.ReadPaths.{AreRead}
use Rattle.cl_cover.specs.Listed.{paths_of}
use Rattle.cl_cover.specs.Walk.{reads_of}
use Rattle.cl_cover.specs.declared.updates.Uncovered.{Uncovered}

-- an update with a cache: the offset of its form, the paths that are listed, and its body
pub record CachedUpdate : Type 0 where
  pub form : ℕ
  pub listed : List Path
  pub body : ShapeTrees

-- an update, if it has a cache
abbrev pub cached : Site → Option ExprTrees → ShapeTrees → List CachedUpdate
cached site None fs = []
cached site (Some ts) fs = record { form = site.form; listed = paths_of ts; body = fs } ∷ []

-- the updates with a cache in a display form, in the order of the text
abbrev mutual
  pub updates_in : ShapeTree → List CachedUpdate
  updates_in (shape.WriteText t) = []
  updates_in shape.Newline = []
  updates_in (shape.Draw figure ts) = []
  updates_in (shape.Indent t fs) = updates_among fs
  updates_in (shape.Ink t fs) = updates_among fs
  updates_in (shape.Room fs) = updates_among fs
  updates_in (shape.Present t spec) = []
  updates_in (shape.AsPresentation q fs) = updates_among fs
  updates_in (shape.Update u fs) = cached u.site u.cache fs ++ updates_among fs
  updates_in (shape.If t f g) = updates_in f ++ updates_in g
  updates_in (shape.When t fs) = updates_among fs
  updates_in (shape.Let bs fs) = updates_among fs
  updates_in (shape.Dolist x t fs) = updates_among fs
  updates_in (shape.Progn fs) = updates_among fs
  updates_in (shape.Call d ts) = []

  -- those of forms in a row
  pub updates_among : ShapeTrees → List CachedUpdate
  updates_among shape.none = []
  updates_among (shape.form f fs) = updates_in f ++ updates_among fs

-- those of displays, in order of declaration
abbrev pub updates_of : List (List ℕ × DisplayDecl) → List CachedUpdate
updates_of [] = []
updates_of (d ∷ ds) = updates_among (shape_trees_of d.1.body) ++ updates_of ds

-- each path that its body reads is listed, or begins with one that is
abbrev pub IsCovered : App → CachedUpdate → Type 0
IsCovered app u = (p : Path) → AreRead app p u.body → has_prefix u.listed p ≡ true

-- each update with a cache is covered
abbrev pub AreCovered : App → Type 0
AreCovered app = All (IsCovered app) (updates_of app.displays)

-- one of these updates is not covered, those before it are, and this is its form with a path that its body reads and does not begin with a
-- listed one
pub record IsFirstUncovered (app : App) (us : List CachedUpdate) (found : Uncovered) : Type 0 where
  pub earlier : List CachedUpdate
  pub update : CachedUpdate
  pub later : List CachedUpdate
  pub among : us ≡ earlier ++ update ∷ later
  pub covered : All (IsCovered app) earlier
  pub form : found.form ≡ update.form
  pub read : AreRead app found.path update.body
  pub unlisted : has_prefix update.listed found.path ≡ false

-- ---- the first that is not

-- the offset of a form with a path, if that is there
abbrev pub at_form : ℕ → Option Path → Option Uncovered
at_form form None = None
at_form form (Some p) = Some (record { form = form; path = p })

-- one that is there, or the other
abbrev pub there_or : Option Uncovered → Option Uncovered → Option Uncovered
there_or None other = other
there_or (Some u) other = Some u

-- the first path that the body of an update reads and its listed paths do not cover
abbrev pub uncovered_in : App → CachedUpdate → Option Uncovered
uncovered_in app u = at_form u.form (first_uncovered u.listed (reads_of app u.body))

-- that of the first of the updates that has one
abbrev pub uncovered_among : App → List CachedUpdate → Option Uncovered
uncovered_among app [] = None
uncovered_among app (u ∷ us) = there_or (uncovered_in app u) (uncovered_among app us)

-- that of the first update in the displays of an application
abbrev pub uncovered_of : App → Option Uncovered
uncovered_of app = uncovered_among app (updates_of app.displays)
