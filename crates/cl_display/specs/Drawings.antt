-- A drawing: the state that is drawn from, and what was drawn.
use Rattle.std.specs.Prelude.{ℕ, ◌+◌, ℤ, pos, neg_ℤ, ◌+ℤ◌, int_le, Bool, true, false, ◌&&◌, ◌||◌, nat_le, if◌then◌else◌, List, [], ◌∷◌}
use Rattle.std.specs.Prelude.{◌++◌, length, Option, Some, None, Result, Ok, Err}
use Rattle.std.specs.Int.{int_max}
use Rattle.cl_region.specs.Places.{box}
use Rattle.cl_region.specs.declared.rects.Rect.{Rect}
use Rattle.cl_region.specs.declared.rects.TheConstants.{MAX_COORDINATE}
use Rattle.cl_medium.specs.Ambients.{AmbientAt, after_newline, ambient_start}
use Rattle.cl_medium.specs.Drawing.{text_leaf}
use Rattle.cl_medium.specs.Items.{Item, columns_of, item_bounds, move_item}
use Rattle.cl_record.specs.Marks.{Mark, draw, history_marks}
use Rattle.cl_display.specs.Siblings.{Siblings}
use Rattle.cl_display.specs.declared.drawings.Drawing.{Drawing}
use Rattle.cl_display.specs.declared.parts.Part.{Part}

-- what was drawn since a body began: the extent, which holds the corners of the items and each place of the cursor, and across also
-- each margin that was set; the greatest end of an item down, if there is an item; whether the margin and the origin of the start
-- were used; and the marks in absolute places
pub record PartAt : Type 0 where
  pub extent : Rect
  pub lowest : Option ℤ
  pub margin_used : Bool
  pub origin_used : Bool
  pub marks : List (Mark Item)

-- what goes through the bodies: the cursor, margin, origin and ink, the weight of all marks, and the updates so far at this level; and
-- what the present body drew
pub record DrawingAt : Type 0 where
  pub ambient : AmbientAt
  pub weight : ℕ
  pub siblings : Siblings
  pub part : PartAt

-- what is seen of a part of the program
abbrev pub part_of : Part → PartAt
part_of p = record {
  extent = p.extent;
  lowest = p.lowest;
  margin_used = p.margin_used;
  origin_used = p.origin_used;
  marks = history_marks move_item p.nodes;
}

-- what is seen of a drawing of the program
abbrev pub drawing_of : Drawing → DrawingAt
drawing_of d = record { ambient = d.ambient; weight = d.weight; siblings = d.siblings; part = part_of d.part }

-- ---- parts

-- the place of the cursor, as a rectangle without sides
abbrev pub cursor_box : AmbientAt → Rect
cursor_box a = record { x1 = a.x; y1 = a.y; x2 = a.x; y2 = a.y }

-- nothing drawn, with the cursor there
abbrev pub start_part : AmbientAt → PartAt
start_part a = record { extent = cursor_box a; lowest = None; margin_used = false; origin_used = false; marks = [] }

-- the greater of two ends, or the one that there is
abbrev pub lower_end : Option ℤ → Option ℤ → Option ℤ
lower_end None b = b
lower_end (Some x) None = Some x
lower_end (Some x) (Some y) = Some (int_max x y)

-- the marks of a body behind those of the part around it
abbrev pub join_parts : (outer inner : PartAt) → PartAt
join_parts outer inner = record {
  extent = box outer.extent inner.extent;
  lowest = lower_end outer.lowest inner.lowest;
  margin_used = inner.margin_used || outer.margin_used;
  origin_used = inner.origin_used || outer.origin_used;
  marks = outer.marks ++ inner.marks;
}

-- a new part, at the cursor
abbrev pub start : DrawingAt → DrawingAt
start s = record s { part = start_part s.ambient }

-- the part that was drawn last, behind the one around it
abbrev pub join : (outer : PartAt) → DrawingAt → DrawingAt
join outer s = record s { part = join_parts outer s.part }

-- nothing drawn, at the start of a pane
abbrev pub blank_drawing : DrawingAt
blank_drawing = record { ambient = ambient_start; weight = 0; siblings = []; part = start_part ambient_start }

-- ---- limits

-- neither below the least coordinate nor above the greatest
abbrev pub is_near : ℤ → Bool
is_near z = int_le (neg_ℤ MAX_COORDINATE) z && int_le z MAX_COORDINATE

-- all four corners are near
abbrev pub is_in_range : Rect → Bool
is_in_range r = is_near r.x1 && (is_near r.y1 && (is_near r.x2 && is_near r.y2))

-- ---- what is drawn, or the kind of a trap

-- a part that holds this place of the cursor too
abbrev pub with_cursor : AmbientAt → PartAt → PartAt
with_cursor a p = record p { extent = box p.extent (cursor_box a) }

-- the cursor there
abbrev pub cursor_to : AmbientAt → DrawingAt → DrawingAt
cursor_to a s = record s { ambient = a; part = with_cursor a s.part }

-- a part with one more item
abbrev pub with_item : Item → PartAt → PartAt
with_item leaf p = record p {
  extent = box p.extent (item_bounds leaf);
  lowest = lower_end p.lowest (Some (item_bounds leaf).y2);
  marks = p.marks ++ draw leaf ∷ [];
}

-- one more item of this weight, where all together do not weigh more than the most
abbrev pub add_item : (most : ℕ) → Item → (weight : ℕ) → DrawingAt → Result DrawingAt ℕ
add_item most leaf weight s =
    if nat_le (s.weight + weight) most then Ok (record s { weight = s.weight + weight; part = with_item leaf s.part }) else Err 10

-- the cursor there, behind what was drawn
abbrev pub then_to : AmbientAt → Result DrawingAt ℕ → Result DrawingAt ℕ
then_to a (Ok s) = Ok (cursor_to a s)
then_to a (Err k) = Err k

-- the cursor behind a text
abbrev pub after_text : AmbientAt → List ℕ → AmbientAt
after_text a text = record a { x = a.x +ℤ pos (columns_of text) }

-- a text in the range, which weighs its bytes and 1, with the cursor behind it
abbrev pub place_text : (most : ℕ) → List ℕ → DrawingAt → Result DrawingAt ℕ
place_text most text s =
    if is_in_range (item_bounds (text_leaf s.ambient text))
    then then_to (after_text s.ambient text) (add_item most (text_leaf s.ambient text) (length text + 1) s)
    else Err 9

-- a text at the cursor; an empty one draws nothing
abbrev pub write_text : (most : ℕ) → List ℕ → DrawingAt → Result DrawingAt ℕ
write_text most [] s = Ok s
write_text most (b ∷ bs) s = place_text most (b ∷ bs) s

-- a part that used the margin of its start
abbrev pub with_margin_used : PartAt → PartAt
with_margin_used p = record p { margin_used = true }

-- the cursor at the margin of the next row, which uses the margin
abbrev pub newline : DrawingAt → Result DrawingAt ℕ
newline s =
    if is_near (s.ambient.y +ℤ pos 1)
    then Ok (cursor_to (after_newline s.ambient) (record s { part = with_margin_used s.part }))
    else Err 9
