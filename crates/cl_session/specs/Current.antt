-- Panes that show their displays in the present state.
use Rattle.std.specs.Prelude.{◌≡◌, ◌⊎◌, List, [], ◌∷◌, None}
use Rattle.cl_application.specs.Panes.{panes_of}
use Rattle.cl_application.specs.declared.declarations.PaneDecl.{PaneDecl}
use Rattle.cl_frame.specs.Ground.{Ground}
use Rattle.cl_frame.specs.Panes.{PaneMarks}
use Rattle.cl_frame.specs.States.{StateAt}
use Rattle.cl_session.specs.World.{World, script_of, state_in}

-- a pane is blank, or has the script of its display in this state
abbrev pub IsPaneCurrent : Ground → StateAt → PaneDecl → PaneMarks → Type 0
IsPaneCurrent g state d marks = (marks ≡ None) ⊎ (marks ≡ script_of g state d)

-- there are as many panes as are declared, and each of them is so
abbrev pub AreCurrent : Ground → StateAt → List PaneDecl → List PaneMarks → Type 0
AreCurrent g state [] [] = Unit {0}
AreCurrent g state [] (m ∷ ms) = ⊥
AreCurrent g state (d ∷ ds) [] = ⊥
AreCurrent g state (d ∷ ds) (m ∷ ms) = IsPaneCurrent g state d m × AreCurrent g state ds ms

-- each pane of the world is blank, or has the script of its display in the world's state
abbrev pub IsCurrent : Ground → World → Type 0
IsCurrent g w = AreCurrent g (state_in g.app w) (panes_of g.app) w.panes
