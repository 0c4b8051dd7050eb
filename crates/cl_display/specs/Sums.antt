-- What the marks of a history weigh together, where the lowest of them ends, and what holds them all.
use Rattle.std.specs.Prelude.{◌≡◌, ℕ, ◌+◌, ◌≤◌, ℤ, ◌≤ℤ◌, true, List, [], ◌∷◌, length, Option, Some, None}
use Rattle.cl_medium.specs.Items.{Item, item_bounds}
use Rattle.cl_medium.specs.declared.shapes.LeafShape.{LeafShape}
use Rattle.cl_medium.specs.declared.shapes.LeafShape.TheVariants.{Text}
use Rattle.cl_eval.specs.Statements.{Member}
use Rattle.cl_value.specs.Data.{size_of}
use Rattle.cl_record.specs.Marks.{Mark, close, draw, open_presentation, open_update}
use Rattle.cl_record.specs.Ranges.{HoldsCorners}
use Rattle.cl_record.specs.Replays.{items_drawn}
use Rattle.cl_region.specs.declared.rects.Rect.{Rect}
use Rattle.cl_display.specs.Drawings.{DrawingAt, lower_end}
use Rattle.cl_display.specs.Updates.{cache_weight}
use Rattle.cl_display.specs.declared.drawings.TheConstants.{MAX_WEIGHT}

-- a text weighs its bytes and 1, another item 1
abbrev pub shape_weight : LeafShape → ℕ
shape_weight (Text text) = length text + 1
shape_weight shape = 1

-- what an item weighs
abbrev pub item_weight : Item → ℕ
item_weight leaf = shape_weight leaf.shape

-- what marks weigh together: each item; the opening of a presentation 1 and the size of its object; that of an update 1 and the sizes
-- of its id and of its cache, as one list; a closing nothing
abbrev pub weight_of : List (Mark Item) → ℕ
weight_of [] = 0
weight_of (draw leaf ∷ marks) = item_weight leaf + weight_of marks
weight_of (open_presentation label ∷ marks) = size_of label.object + 1 + weight_of marks
weight_of (open_update head ∷ marks) = size_of head.id + cache_weight head.cache + 1 + weight_of marks
weight_of (close ∷ marks) = weight_of marks

-- each object that is presented is a member of its type
abbrev pub AreMembers : Member → List (Mark Item) → Type 0
AreMembers holds [] = Unit {0}
AreMembers holds (draw leaf ∷ marks) = AreMembers holds marks
AreMembers holds (open_presentation label ∷ marks) = (holds label.object label.spec ≡ true) × AreMembers holds marks
AreMembers holds (open_update head ∷ marks) = AreMembers holds marks
AreMembers holds (close ∷ marks) = AreMembers holds marks

-- the greatest end of an item down, if there is an item
abbrev pub lowest_of : List Item → Option ℤ
lowest_of [] = None
lowest_of (leaf ∷ items) = lower_end (Some (item_bounds leaf).y2) (lowest_of items)

-- a drawing weighs what its marks weigh together, which is not too much; it ends where the lowest of its items does; and it has no
-- more items than it may weigh
pub record AddsUp (s : DrawingAt) : Type 0 where
  pub weight : s.weight ≡ weight_of s.part.marks
  pub light : s.weight ≤ MAX_WEIGHT
  pub lowest : s.part.lowest ≡ lowest_of (items_drawn s.part.marks)
  pub count : length (items_drawn s.part.marks) ≤ MAX_WEIGHT

-- the corners of a rectangle lie within those of another one, also where it has no cells
pub record Holds (outer inner : Rect) : Type 0 where
  pub left : outer.x1 ≤ℤ inner.x1
  pub top : outer.y1 ≤ℤ inner.y1
  pub right : inner.x2 ≤ℤ outer.x2
  pub bottom : inner.y2 ≤ℤ outer.y2

-- the corners of each item, and of the extent of each update, lie within those of a rectangle
abbrev pub HoldsAll : Rect → List (Mark Item) → Type 0
HoldsAll outer [] = Unit {0}
HoldsAll outer (draw leaf ∷ marks) = HoldsCorners outer (item_bounds leaf) × HoldsAll outer marks
HoldsAll outer (open_presentation label ∷ marks) = HoldsAll outer marks
HoldsAll outer (open_update head ∷ marks) = HoldsCorners outer head.measures.extent × HoldsAll outer marks
HoldsAll outer (close ∷ marks) = HoldsAll outer marks
