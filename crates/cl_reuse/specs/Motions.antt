-- Drawings elsewhere: what is drawn from a cursor, a margin and an origin that stand somewhere else.
use Rattle.std.specs.Prelude.{◌≡◌, ℕ, ◌≤◌, ℤ, ◌+ℤ◌, true, Option, Some, None}
use Rattle.cl_region.specs.Places.{FitsMoved, move_rect}
use Rattle.cl_region.specs.declared.rects.Shift.{Shift}
use Rattle.cl_medium.specs.Ambients.{AmbientAt}
use Rattle.cl_medium.specs.Items.{move_item}
use Rattle.cl_record.specs.Marks.{move_marks}
use Rattle.cl_display.specs.Drawings.{DrawingAt, PartAt}

-- how far the cursor is moved, and with it all that is drawn; and how far the margin and the origin are
pub record Motion : Type 0 where
  pub by : Shift
  pub margin : ℤ
  pub origin : Shift

-- the same ink, from elsewhere
abbrev pub move_ambient : Motion → AmbientAt → AmbientAt
move_ambient m a = record {
  x = a.x +ℤ m.by.dx;
  y = a.y +ℤ m.by.dy;
  margin = a.margin +ℤ m.margin;
  origin_x = a.origin_x +ℤ m.origin.dx;
  origin_y = a.origin_y +ℤ m.origin.dy;
  ink = a.ink;
}

-- an end down elsewhere, if there is one
abbrev pub move_end : Shift → Option ℤ → Option ℤ
move_end v None = None
move_end v (Some y) = Some (y +ℤ v.dy)

-- what was drawn, elsewhere
abbrev pub move_part : Shift → PartAt → PartAt
move_part v p = record {
  extent = move_rect v p.extent;
  lowest = move_end v p.lowest;
  margin_used = p.margin_used;
  origin_used = p.origin_used;
  marks = move_marks move_item v p.marks;
}

-- a drawing elsewhere, of the same weight and with the same updates so far
abbrev pub move_drawing : Motion → DrawingAt → DrawingAt
move_drawing m s = record { ambient = move_ambient m s.ambient; weight = s.weight; siblings = s.siblings; part = move_part m.by s.part }

-- what the end of a draw keeps to, so that it can be drawn elsewhere, where marks may weigh so much: the weight is allowed; a margin that was
-- used is moved as far across as the cursor, and an origin that was used as far as the cursor; and the extent, moved, is in the range
pub record FitsThere (m : Motion) (most : ℕ) (end : DrawingAt) : Type 0 where
  pub weight : end.weight ≤ most
  pub margin : end.part.margin_used ≡ true → m.margin ≡ m.by.dx
  pub origin : end.part.origin_used ≡ true → m.origin ≡ m.by
  pub range : FitsMoved end.part.extent m.by
