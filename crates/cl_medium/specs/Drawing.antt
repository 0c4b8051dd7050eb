-- What the drawing calls answer. A text is drawn from the cursor, all else from the origin.
use Rattle.std.specs.Prelude.{◌≡◌, ℕ, ◌<◌, ℤ, pos, ◌+ℤ◌, ◌≤ℤ◌, ◌<ℤ◌, ◌⊎◌, List, length, Option, Some, None}
use Rattle.cl_region.specs.Places.{IsInRange, IsNear}
use Rattle.cl_medium.specs.Ambients.{AmbientAt}
use Rattle.cl_medium.specs.Items.{HasSize, IsArea, Item, bounds_of, columns_of}
use Rattle.cl_medium.specs.declared.areas.Area.{Area}
use Rattle.cl_medium.specs.declared.shapes.Direction.TheVariants.{Horizontal, Vertical}
use Rattle.cl_medium.specs.declared.shapes.LeafShape.TheVariants.{Fill, Line, Outline, Point, Text}
use Rattle.cl_medium.specs.declared.drawing.Drawn.{Drawn}
use Rattle.cl_medium.specs.declared.drawing.Drawn.TheVariants as drawn
use Rattle.cl_medium.specs.declared.placing.Fit.{Fit}
use Rattle.cl_medium.specs.declared.placing.Fit.TheVariants as fit

-- one row of so many cells from the cursor on
abbrev pub text_area : AmbientAt → ℕ → Area
text_area a count = record { x = a.x; y = a.y; width = pos count; height = pos 1; ink = a.ink }

-- a text at the cursor
abbrev pub text_leaf : AmbientAt → List ℕ → Item
text_leaf a text = record { area = text_area a (columns_of text); shape = Text text }

-- a rectangle so far from the origin
abbrev pub shape_area : AmbientAt → (x y width height : ℤ) → Area
shape_area a x y width height =
    record { x = a.origin_x +ℤ x; y = a.origin_y +ℤ y; width = width; height = height; ink = a.ink }

-- one byte in an area of one cell
abbrev pub point_leaf : Area → ℕ → Item
point_leaf area byte = record { area = area; shape = Point byte }

-- a line to the right
abbrev pub hline_leaf : Area → Item
hline_leaf area = record { area = area; shape = Line Horizontal }

-- a line down
abbrev pub vline_leaf : Area → Item
vline_leaf area = record { area = area; shape = Line Vertical }

-- an outline
abbrev pub box_leaf : Area → Item
box_leaf area = record { area = area; shape = Outline }

-- one byte all over an area
abbrev pub fill_leaf : Area → ℕ → Item
fill_leaf area byte = record { area = area; shape = Fill byte }

-- no size is negative and one is 0
pub record HasNoSize (a : Area) : Type 0 where
  pub width : pos 0 ≤ℤ a.width
  pub height : pos 0 ≤ℤ a.height
  pub one_is_0 : (a.width ≡ pos 0) ⊎ (a.height ≡ pos 0)

-- a size is negative, or both are positive and a corner lies too far out
abbrev pub IsOut : Area → Type 0
IsOut a = (a.width <ℤ pos 0) ⊎ ((a.height <ℤ pos 0) ⊎ (HasSize a × (IsInRange (bounds_of a) → ⊥)))

-- the area, where it is in the range
abbrev pub IsPlaced : Area → Option Area → Type 0
IsPlaced area None = IsInRange (bounds_of area) → ⊥
IsPlaced area (Some found) = (found ≡ area) × IsArea area

-- the first number of a side, where both its ends are near
abbrev pub IsStart : (first size : ℤ) → Option ℤ → Type 0
IsStart first size None = IsNear first → IsNear (first +ℤ size) → ⊥
IsStart first size (Some found) = (found ≡ first) × IsNear first × IsNear (first +ℤ size)

-- the area, where it has cells and is in the range
abbrev pub IsFit : Area → Fit → Type 0
IsFit area (fit.Within found) = (found ≡ area) × IsArea area × HasSize area
IsFit area fit.Nothing = HasNoSize area
IsFit area fit.Range = IsOut area

-- what is drawn, where its area is this one
abbrev pub IsDrawn : Item → Area → Drawn → Type 0
IsDrawn leaf area (drawn.Item found) = (found ≡ leaf) × IsArea area × HasSize area
IsDrawn leaf area drawn.Nothing = HasNoSize area
IsDrawn leaf area drawn.Range = IsOut area
IsDrawn leaf area drawn.Memory = ⊥

-- a text moves the cursor to its end; in every other case all stays
abbrev pub IsWritten : (before now : AmbientAt) → List ℕ → Drawn → Type 0
IsWritten before now text (drawn.Item found) =
    (found ≡ text_leaf before text) × (0 < length text) × IsArea (text_area before (columns_of text))
    × (now ≡ record before { x = before.x +ℤ pos (columns_of text) })
IsWritten before now text drawn.Nothing = (length text ≡ 0) × (now ≡ before)
IsWritten before now text drawn.Range = (0 < length text) × (IsInRange (bounds_of (text_area before (columns_of text))) → ⊥) × (now ≡ before)
IsWritten before now text drawn.Memory = (0 < length text) × IsInRange (bounds_of (text_area before (columns_of text))) × (now ≡ before)
