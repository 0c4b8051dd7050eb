-- Where the panes of a frame lie.
use Rattle.std.specs.Prelude.{◌≡◌, ◌≤◌, ◌<◌, ◌+◌, ◌||◌, ℕ, Bool, true, nat_le, All, List, [], ◌∷◌, length, map}
use Rattle.cl_application.specs.declared.applications.App.{App}
use Rattle.cl_application.specs.declared.declarations.FrameDecl.{FrameDecl}
use Rattle.cl_application.specs.declared.declarations.PaneDecl.{PaneDecl}

-- what is declared in an entry of a table
abbrev pub declared_by : {D : Type 0} → List ℕ × D → D
declared_by e = e.1

-- the panes of a frame, in order of declaration
abbrev pub panes_in : FrameDecl → List PaneDecl
panes_in f = map declared_by f.panes

-- the panes of an application, in order of declaration
abbrev pub panes_of : App → List PaneDecl
panes_of app = panes_in app.frame

-- a stretch of so many cells ends before the other one begins, or begins behind its end
abbrev pub are_parted : (from count other other_count : ℕ) → Bool
are_parted from count other other_count = nat_le (from + count) other || nat_le (other + other_count) from

-- no cell lies in both panes: their columns or their rows are parted
abbrev pub lie_apart : PaneDecl → PaneDecl → Bool
lie_apart a b = are_parted a.x a.width b.x b.width || are_parted a.y a.height b.y b.height

-- each of the panes lies apart from all behind it
abbrev pub LieApart : List PaneDecl → Type 0
LieApart [] = Unit {0}
LieApart (p ∷ ps) = All (λ q. lie_apart p q ≡ true) ps × LieApart ps

-- the pane has cells, and lies in the frame
pub record LiesIn (f : FrameDecl) (p : PaneDecl) : Type 0 where
  pub columns : (1 ≤ p.width) × (p.x + p.width ≤ f.width)
  pub rows : (1 ≤ p.height) × (p.y + p.height ≤ f.height)

-- the frame has 1 to 512 columns, 1 to 256 rows and at least one pane, and its panes lie in it, each apart from the others
pub record IsPlaced (f : FrameDecl) : Type 0 where
  pub columns : (1 ≤ f.width) × (f.width ≤ 512)
  pub rows : (1 ≤ f.height) × (f.height ≤ 256)
  pub some : 0 < length f.panes
  pub lie : All (LiesIn f) (panes_in f)
  pub apart : LieApart (panes_in f)
