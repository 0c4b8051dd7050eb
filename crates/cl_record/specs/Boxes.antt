-- Boxes of items and of marks.
use Rattle.std.specs.Prelude.{◌+◌, ℤ, List, [], ◌∷◌, length, Option, Some, None}
use Rattle.std.specs.Int.{int_max, int_min}
use Rattle.std.specs.Option.{option_map}
use Rattle.cl_region.specs.Places.{box, move_rect}
use Rattle.cl_region.specs.declared.rects.Rect.{Rect}
use Rattle.cl_region.specs.declared.rects.Shift.{Shift}
use Rattle.cl_record.specs.Marks.{Mark, open_update, close, draw, open_presentation}
use Rattle.cl_record.specs.Replays.{items_drawn}
use Rattle.cl_record.specs.declared.summaries.Summary.{Summary}

-- the least box of all corners of both, in whatever order the sides of each are
abbrev pub corner_box : Rect → Rect → Rect
corner_box a b = record {
  x1 = int_min (int_min a.x1 a.x2) (int_min b.x1 b.x2);
  y1 = int_min (int_min a.y1 a.y2) (int_min b.y1 b.y2);
  x2 = int_max (int_max a.x1 a.x2) (int_max b.x1 b.x2);
  y2 = int_max (int_max a.y1 a.y2) (int_max b.y1 b.y2);
}

-- one box of two, each of which there may be
abbrev pub join_boxes : (Rect → Rect → Rect) → Option Rect → Option Rect → Option Rect
join_boxes join None other = other
join_boxes join (Some a) None = Some a
join_boxes join (Some a) (Some b) = Some (join a b)

module _ {A : Type 0} (bounds : A → Rect) where
  -- the least left and upper and the greatest right and lower sides of the bounds of items
  abbrev pub items_box : List A → Option Rect
  items_box [] = None
  items_box (a ∷ items) = join_boxes box (Some (bounds a)) (items_box items)

  -- the greatest lower side of them
  abbrev pub bottom_of : List A → Option ℤ
  bottom_of items = option_map (λ (r : Rect). r.y2) (items_box items)

  -- the least box of all corners of the bounds of items and of the extents of updates; None where there is nothing to move
  abbrev pub extent_box : List (Mark A) → Option Rect
  extent_box [] = None
  extent_box (draw a ∷ marks) = join_boxes corner_box (Some (bounds a)) (extent_box marks)
  extent_box (open_presentation l ∷ marks) = extent_box marks
  extent_box (open_update h ∷ marks) = join_boxes corner_box (Some h.measures.extent) (extent_box marks)
  extent_box (close ∷ marks) = extent_box marks

  -- how many items marks draw, and the boxes
  abbrev pub summary_of : List (Mark A) → Summary
  summary_of marks = record { count = length (items_drawn marks); items = items_box (items_drawn marks); extents = extent_box marks }

-- those of marks behind others
abbrev pub join_summaries : Summary → Summary → Summary
join_summaries a b = record {
  count = a.count + b.count;
  items = join_boxes box a.items b.items;
  extents = join_boxes corner_box a.extents b.extents;
}

-- those of the same marks elsewhere
abbrev pub move_summary : Shift → Summary → Summary
move_summary v a = record { count = a.count; items = option_map (move_rect v) a.items; extents = option_map (move_rect v) a.extents }
