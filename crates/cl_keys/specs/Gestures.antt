-- What a key does in an application.
use Rattle.std.specs.Prelude.{◌≡◌, ◌+◌, ◌-◌, ◌&&◌, ℕ, pos, Bool, true, nat_le, nat_lt, if◌then◌else◌}
use Rattle.std.specs.Prelude.{Contains, Option, Some, None, option_map, List, [], ◌∷◌, filter_map}
use Rattle.cl_application.specs.Panes.{LieApart, panes_of}
use Rattle.cl_application.specs.declared.applications.App.{App}
use Rattle.cl_application.specs.declared.declarations.PaneDecl.{PaneDecl}
use Rattle.cl_gesture.specs.declared.answers.Gesture.{Gesture}
use Rattle.cl_gesture.specs.declared.answers.Gesture.TheVariants as gesture
use Rattle.cl_gesture.specs.declared.answers.PointAt.{PointAt}
use Rattle.cl_keys.specs.declared.keys.Button.{Button}
use Rattle.cl_keys.specs.declared.keys.Button.TheVariants as button
use Rattle.cl_keys.specs.declared.keys.Key.{Key}
use Rattle.cl_keys.specs.declared.keys.Key.TheVariants as key
use Rattle.cl_keys.specs.declared.keys.Press.{Press}
use Rattle.cl_translators.specs.declared.declarations.GestureName.{GestureName}
use Rattle.cl_translators.specs.declared.declarations.GestureName.TheVariants as name

-- the gesture of the pointer that a button makes
abbrev pub name_of : Button → GestureName
name_of button.Left = name.Select
name_of button.Middle = name.Describe
name_of button.Right = name.Menu

-- a number lies among so many from a start on
abbrev pub lies_in : (start count number : ℕ) → Bool
lies_in start count number = nat_le start number && nat_lt number (start + count)

-- a cell of the screen lies in a pane
abbrev pub has_cell : (column row : ℕ) → PaneDecl → Bool
has_cell column row p = lies_in p.x p.width column && lies_in p.y p.height row

-- the first pane in which a cell lies
abbrev pub pane_at : (column row : ℕ) → List PaneDecl → Option PaneDecl
pane_at column row [] = None
pane_at column row (p ∷ ps) = if has_cell column row p then Some p else pane_at column row ps

-- the place of a press in a pane, counted from the pane's corner
abbrev pub place_in : Press → PaneDecl → PointAt
place_in press p = record { pane = p.name; gesture = name_of press.button; x = pos (press.column - p.x); y = pos (press.row - p.y) }

-- the gesture of a press; None outside of all panes
abbrev pub pointed : Press → List PaneDecl → Option Gesture
pointed press panes = option_map (λ p. gesture.Point (place_in press p)) (pane_at press.column press.row panes)

-- the gesture of a key in an application; the end is none
abbrev pub gesture_of : App → Key → Option Gesture
gesture_of app (key.Typed byte) = Some (gesture.«Type» (byte ∷ []))
gesture_of app key.Return = Some gesture.Return
gesture_of app key.Rubout = Some gesture.Rubout
gesture_of app key.Clear = Some gesture.Clear
gesture_of app key.Force = Some gesture.Force
gesture_of app (key.Stroke letter) = Some (gesture.Stroke (letter ∷ []))
gesture_of app (key.Press press) = pointed press (panes_of app)
gesture_of app key.End = None

-- the gestures of keys
abbrev pub gestures_of : App → List Key → List Gesture
gestures_of app keys = filter_map (gesture_of app) keys

-- ---- law

-- where panes lie apart, the pane that has the cell is the one that is pointed at, whatever their order
abbrev pub OnePaneIsPointedAt : Type 0
OnePaneIsPointedAt = (column row : ℕ) (panes : List PaneDecl) (p : PaneDecl)
    → LieApart panes → Contains panes p → has_cell column row p ≡ true → pane_at column row panes ≡ Some p
