-- Figures, which are drawn from the origin and leave the cursor.
use Rattle.std.specs.Prelude.{ℕ, ℤ, pos, int_lt, int_le, true, ◌||◌, if◌then◌else◌, List, [], ◌∷◌, Option, Some, None, Result, Ok, Err}
use Rattle.std.specs.Option.{option_and_then}
use Rattle.cl_value.specs.Data as value
use Rattle.cl_value.specs.Data.{Data}
use Rattle.cl_syntax.specs.declared.figures.Figure.{Figure}
use Rattle.cl_syntax.specs.declared.figures.Figure.TheVariants as figure
use Rattle.cl_medium.specs.Ambients.{AmbientAt}
use Rattle.cl_medium.specs.Drawing.{shape_area, point_leaf, hline_leaf, vline_leaf, box_leaf, fill_leaf}
use Rattle.cl_medium.specs.Items.{bounds_of, Item}
use Rattle.cl_medium.specs.declared.areas.Area.{Area}
use Rattle.cl_display.specs.declared.figures.FigureItem.{FigureItem}
use Rattle.cl_display.specs.declared.figures.FigureItem.TheVariants as item
use Rattle.cl_display.specs.declared.figures.FigureParts.{FigureParts}
use Rattle.cl_display.specs.Drawings.{DrawingAt, add_item, is_in_range}

-- ---- the parts of a figure

-- the number that a value is
abbrev pub number_of : Data → Option ℤ
number_of (value.int z) = Some z
number_of d = None

-- the byte of a text that has one alone
abbrev pub byte_of : Data → Option ℕ
byte_of (value.text (byte ∷ [])) = Some byte
byte_of d = None

-- what is drawn so far from the origin
abbrev pub parts_at : Data → Data → FigureItem → Option FigureParts
parts_at a b i = option_and_then (λ x. option_and_then (λ y. Some (record { x = x; y = y; item = i })) (number_of b)) (number_of a)

-- the place of a figure and what it draws, by its values; none where there are values of other kinds, or more, or fewer
abbrev pub figure_parts : Figure → List Data → Option FigureParts
figure_parts figure.Point (a ∷ b ∷ c ∷ []) = option_and_then (λ byte. parts_at a b (item.Point byte)) (byte_of c)
figure_parts figure.HorizontalLine (a ∷ b ∷ c ∷ []) = option_and_then (λ length. parts_at a b (item.HorizontalLine length)) (number_of c)
figure_parts figure.VerticalLine (a ∷ b ∷ c ∷ []) = option_and_then (λ length. parts_at a b (item.VerticalLine length)) (number_of c)
figure_parts figure.Outline (a ∷ b ∷ c ∷ d ∷ []) =
    option_and_then (λ width. option_and_then (λ height. parts_at a b (item.Outline width height)) (number_of d)) (number_of c)
figure_parts figure.Filled (a ∷ b ∷ c ∷ d ∷ e ∷ []) =
    option_and_then (λ width. option_and_then (λ height. option_and_then (λ byte. parts_at a b (item.Filled width height byte)) (byte_of e))
    (number_of d)) (number_of c)
figure_parts f ds = None

-- ---- its drawing

-- the area of a figure: a point has one cell, and a line is one cell thick
abbrev pub item_area : AmbientAt → (x y : ℤ) → FigureItem → Area
item_area a x y (item.Point byte) = shape_area a x y (pos 1) (pos 1)
item_area a x y (item.HorizontalLine length) = shape_area a x y length (pos 1)
item_area a x y (item.VerticalLine length) = shape_area a x y (pos 1) length
item_area a x y (item.Outline width height) = shape_area a x y width height
item_area a x y (item.Filled width height byte) = shape_area a x y width height

-- where a figure is drawn
abbrev pub area_at : AmbientAt → FigureParts → Area
area_at a p = item_area a p.x p.y p.item

-- what is drawn in an area
abbrev pub leaf_in : Area → FigureItem → Item
leaf_in area (item.Point byte) = point_leaf area byte
leaf_in area (item.HorizontalLine length) = hline_leaf area
leaf_in area (item.VerticalLine length) = vline_leaf area
leaf_in area (item.Outline width height) = box_leaf area
leaf_in area (item.Filled width height byte) = fill_leaf area byte

-- a drawing whose part used the origin
abbrev pub with_origin_used : Result DrawingAt ℕ → Result DrawingAt ℕ
with_origin_used (Ok s) = Ok (record s { part = record s.part { origin_used = true } })
with_origin_used (Err k) = Err k

-- an item in an area: no negative size, nothing for a size of 0, the range, the weight of 1; it uses the origin
abbrev pub draw_shape : (most : ℕ) → Item → Area → DrawingAt → Result DrawingAt ℕ
draw_shape most leaf area s =
    if int_lt area.width (pos 0) || int_lt area.height (pos 0) then Err 9
    else (if int_le area.width (pos 0) || int_le area.height (pos 0) then Ok s
    else (if is_in_range (bounds_of area) then with_origin_used (add_item most leaf 1 s) else Err 9))

-- a figure by its parts
abbrev pub draw_parts : (most : ℕ) → Option FigureParts → DrawingAt → Result DrawingAt ℕ
draw_parts most None s = Err 1
draw_parts most (Some p) s = draw_shape most (leaf_in (area_at s.ambient p) p.item) (area_at s.ambient p) s

-- a figure by the values of its parts
abbrev pub draw_figure : (most : ℕ) → Figure → List Data → DrawingAt → Result DrawingAt ℕ
draw_figure most f ds s = draw_parts most (figure_parts f ds) s

-- ---- which values are right

-- a number
abbrev pub IsNumber : Data → Type 0
IsNumber (value.int z) = Unit {0}
IsNumber d = ⊥

-- a text of one byte
abbrev pub IsByte : Data → Type 0
IsByte (value.text (byte ∷ [])) = Unit {0}
IsByte d = ⊥

-- the kinds of the values that a figure asks for, and their number
abbrev pub IsFigure : Figure → List Data → Type 0
IsFigure figure.Point (a ∷ b ∷ c ∷ []) = IsNumber a × IsNumber b × IsByte c
IsFigure figure.HorizontalLine (a ∷ b ∷ c ∷ []) = IsNumber a × IsNumber b × IsNumber c
IsFigure figure.VerticalLine (a ∷ b ∷ c ∷ []) = IsNumber a × IsNumber b × IsNumber c
IsFigure figure.Outline (a ∷ b ∷ c ∷ d ∷ []) = IsNumber a × IsNumber b × IsNumber c × IsNumber d
IsFigure figure.Filled (a ∷ b ∷ c ∷ d ∷ e ∷ []) = IsNumber a × IsNumber b × IsNumber c × IsNumber d × IsByte e
IsFigure f ds = ⊥
