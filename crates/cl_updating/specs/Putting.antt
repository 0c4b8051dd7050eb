-- Records that are put behind what was drawn.
use Rattle.std.specs.Prelude.{◌+ℤ◌, List, is_some}
use Rattle.cl_region.specs.Places.{move_rect}
use Rattle.cl_region.specs.declared.rects.Shift.{Shift}
use Rattle.cl_medium.specs.Ambients.{AmbientAt}
use Rattle.cl_medium.specs.Items.{Item}
use Rattle.cl_record.specs.Heads.{MeasuresAt}
use Rattle.cl_record.specs.Marks.{Mark}
use Rattle.cl_record.specs.Replays.{items_drawn}
use Rattle.cl_display.specs.Drawings.{PartAt}
use Rattle.cl_display.specs.Sums.{lowest_of}

-- marks with the extent that measures say, moved, and a margin and an origin used where they say so
abbrev pub measured_part : Shift → MeasuresAt → List (Mark Item) → PartAt
measured_part v m marks = record {
  extent = move_rect v m.extent;
  lowest = lowest_of (items_drawn marks);
  margin_used = is_some m.margin;
  origin_used = is_some m.origin;
  marks = marks;
}

-- the cursor where measures, moved, end
abbrev pub cursor_at_end : Shift → MeasuresAt → AmbientAt → AmbientAt
cursor_at_end v m a = record a { x = m.end.x +ℤ v.dx; y = m.end.y +ℤ v.dy }
