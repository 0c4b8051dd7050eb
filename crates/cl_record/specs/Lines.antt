-- A history as lines of text.
use Rattle.std.specs.Prelude.{ℕ, zero, suc, ℤ, pos, List, [], ◌∷◌, ◌++◌, codes}
use Rattle.std.specs.Fmt.{decimal, signed_decimal}
use Rattle.cl_medium.specs.Items.{Item}
use Rattle.cl_medium.specs.declared.areas.Area.{Area}
use Rattle.cl_medium.specs.declared.shapes.Direction.TheVariants.{Horizontal, Vertical}
use Rattle.cl_medium.specs.declared.shapes.LeafShape.{LeafShape}
use Rattle.cl_medium.specs.declared.shapes.LeafShape.TheVariants.{Fill, Line, Outline, Point, Text}
use Rattle.cl_region.specs.declared.rects.Shift.{Shift}
use Rattle.cl_syntax.specs.TypeSpecTree.{name_of}
use Rattle.cl_record.specs.Heads.{HeadAt}
use Rattle.cl_record.specs.Labels.{LabelAt}
use Rattle.cl_record.specs.Marks.{Mark, open_update, close, draw, history_marks, open_presentation}
use Rattle.cl_print.specs.Printed.{print_value}
use Rattle.cl_record.specs.Trees.{Tree}

-- each number behind a space
abbrev pub numbers : List ℤ → List ℕ
numbers [] = []
numbers (z ∷ zs) = 32 ∷ (signed_decimal z ++ numbers zs)

-- the kind, the place, the sizes, the ink and the bytes; of a line its way and its length
abbrev pub shape_line : LeafShape → Area → List ℕ
shape_line (Text text) a = codes "text" ++ numbers (a.x ∷ a.y ∷ pos a.ink ∷ []) ++ 32 ∷ text
shape_line (Point byte) a = codes "point" ++ numbers (a.x ∷ a.y ∷ pos a.ink ∷ []) ++ 32 ∷ byte ∷ []
shape_line (Line Horizontal) a = codes "hline" ++ numbers (a.x ∷ a.y ∷ a.width ∷ pos a.ink ∷ [])
shape_line (Line Vertical) a = codes "vline" ++ numbers (a.x ∷ a.y ∷ a.height ∷ pos a.ink ∷ [])
shape_line Outline a = codes "box" ++ numbers (a.x ∷ a.y ∷ a.width ∷ a.height ∷ pos a.ink ∷ [])
shape_line (Fill byte) a = codes "fill" ++ numbers (a.x ∷ a.y ∷ a.width ∷ a.height ∷ pos a.ink ∷ []) ++ 32 ∷ byte ∷ []

-- the line of an item
abbrev pub item_line : Item → List ℕ
item_line i = shape_line i.shape i.area

-- the type's name and what is presented
abbrev pub label_line : LabelAt → List ℕ
label_line l = codes "presentation " ++ name_of l.spec ++ 32 ∷ print_value l.object

-- the form with its query and the id
abbrev pub head_line : HeadAt → List ℕ
head_line h = codes "update " ++ decimal h.site.form ++ 46 ∷ decimal h.site.query ++ 32 ∷ print_value h.id

-- two spaces for each level
abbrev pub margin : ℕ → List ℕ
margin zero = []
margin (suc depth) = 32 ∷ 32 ∷ margin depth

-- one level further out
abbrev pub outer : ℕ → ℕ
outer zero = zero
outer (suc depth) = depth

module _ {A : Type 0} (line_of : A → List ℕ) where
  -- a line for each item and each opening, with a margin by how many presentations and updates are open
  abbrev pub lines_from : (depth : ℕ) → List (Mark A) → List (List ℕ)
  lines_from depth [] = []
  lines_from depth (draw a ∷ ms) = (margin depth ++ line_of a) ∷ lines_from depth ms
  lines_from depth (open_presentation l ∷ ms) = (margin depth ++ label_line l) ∷ lines_from (suc depth) ms
  lines_from depth (open_update h ∷ ms) = (margin depth ++ head_line h) ∷ lines_from (suc depth) ms
  lines_from depth (close ∷ ms) = lines_from (outer depth) ms

  -- the lines of a history
  abbrev pub history_lines : (Shift → A → A) → List (Tree A) → List (List ℕ)
  history_lines move ts = lines_from 0 (history_marks move ts)
