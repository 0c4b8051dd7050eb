-- What a form sets for its body, and how the body is left.
use Rattle.std.specs.Prelude.{ℕ, pos, negsuc, ◌+ℤ◌, true, false, nat_le, if◌then◌else◌, Result, Ok, Err}
use Rattle.std.specs.Option.{unwrap_or}
use Rattle.cl_outside.specs.Sizes.{MAX_INK}
use Rattle.cl_region.specs.Places.{box}
use Rattle.cl_region.specs.declared.rects.Rect.{Rect}
use Rattle.cl_value.specs.Data as value
use Rattle.cl_value.specs.Data.{Data}
use Rattle.cl_medium.specs.Ambients.{AmbientAt, after_indent, after_room, in_room}
use Rattle.cl_display.specs.Drawings.{DrawingAt, PartAt, is_near, join, start, with_cursor}

-- the margin in the row of the cursor, as a rectangle without sides
abbrev pub margin_box : AmbientAt → Rect
margin_box a = record { x1 = a.margin; y1 = a.y; x2 = a.margin; y2 = a.y }

-- a part that holds this margin too, and used the one before
abbrev pub with_margin : AmbientAt → PartAt → PartAt
with_margin a p = record p { extent = box p.extent (margin_box a); margin_used = true }

-- a number more at the margin, which uses the one before
abbrev pub indent : Data → DrawingAt → Result DrawingAt ℕ
indent (value.int n) s =
    if is_near (s.ambient.margin +ℤ n)
    then Ok (record s { ambient = after_indent s.ambient n; part = with_margin (after_indent s.ambient n) s.part })
    else Err 9
indent d s = Err 1

-- this ink
abbrev pub with_ink : ℕ → DrawingAt → DrawingAt
with_ink ink s = record s { ambient = record s.ambient { ink = ink } }

-- one of the eight inks
abbrev pub set_ink : Data → DrawingAt → Result DrawingAt ℕ
set_ink (value.int (pos n)) s = if nat_le n MAX_INK then Ok (with_ink n s) else Err 9
set_ink (value.int (negsuc n)) s = Err 9
set_ink d s = Err 1

-- the margin of before
abbrev pub restore_margin : AmbientAt → DrawingAt → DrawingAt
restore_margin before s = record s { ambient = record s.ambient { margin = before.margin } }

-- the ink of before
abbrev pub restore_ink : AmbientAt → DrawingAt → DrawingAt
restore_ink before s = record s { ambient = record s.ambient { ink = before.ink } }

-- ---- rooms

-- the origin at the cursor, and a new part
abbrev pub enter_room : DrawingAt → DrawingAt
enter_room s = start (record s { ambient = in_room s.ambient })

-- what is drawn from behind a room: the origin of before, and the cursor at the margin below the items of the room
abbrev pub behind_room : (before : AmbientAt) → DrawingAt → AmbientAt
behind_room before s = after_room s.ambient before (unwrap_or s.part.lowest before.y)

-- the part of a room, seen from outside: it uses the margin, and what was drawn from its own origin did not use the one before
abbrev pub room_part : AmbientAt → PartAt → PartAt
room_part after p = record (with_cursor after p) { margin_used = true; origin_used = false }

-- the end of a room, whose part is not yet behind the one around it
abbrev pub close_room : (before : AmbientAt) → DrawingAt → DrawingAt
close_room before s = record s { ambient = behind_room before s; part = room_part (behind_room before s) s.part }

-- behind a room
abbrev pub leave_room : (before : AmbientAt) (outer : PartAt) → DrawingAt → DrawingAt
leave_room before outer s = join outer (close_room before s)
