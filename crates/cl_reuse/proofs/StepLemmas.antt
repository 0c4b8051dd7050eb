-- The steps of a drawing elsewhere: a text, a newline, a figure, and what forms set for their bodies.
use Rattle.std.proofs.Common.{◌≡◌, ◌∙◌, ap, refl, ℕ, ◌+◌, ◌≤◌, ℤ, pos, ◌+ℤ◌, Bool, true, false, ◌||◌, nat_le, if◌then◌else◌, List, [], ◌∷◌, length}
use Rattle.std.proofs.Common.{Option, Some, None, Result, Ok, Err, arith}
use Rattle.std.specs.Prelude.{int_le, int_lt}
use Rattle.std.proofs.lemmas.Bool.Decides.{nat_tests}
use Rattle.std.proofs.lemmas.Int.{ints}
use Rattle.cl_value.specs.Data.{Data, text}
use Rattle.cl_region.specs.Places.{box, move_rect}
use Rattle.cl_region.specs.declared.rects.Rect.{Rect}
use Rattle.cl_region.specs.declared.rects.Shift.{Shift}
use Rattle.cl_medium.specs.Ambients.{AmbientAt, after_newline}
use Rattle.cl_medium.specs.Drawing.{shape_area, text_leaf}
use Rattle.cl_medium.specs.Items.{Item, bounds_of, columns_of, item_bounds, move_area, move_item}
use Rattle.cl_medium.specs.declared.areas.Area.{Area}
use Rattle.cl_medium.specs.declared.shapes.LeafShape.{LeafShape}
use Rattle.cl_medium.specs.declared.shapes.LeafShape.TheVariants.{Fill, Line, Outline, Point}
use Rattle.cl_medium.specs.declared.shapes.Direction.TheVariants.{Horizontal, Vertical}
use Rattle.cl_display.specs.Drawings.{DrawingAt, add_item, after_text, cursor_box, cursor_to, is_in_range, is_near, newline, place_text, then_to}
use Rattle.cl_display.specs.Drawings.{with_item, with_margin_used}
use Rattle.cl_display.specs.Figures.{draw_parts, draw_shape, with_origin_used}
use Rattle.cl_display.specs.Presentations.{write_value}
use Rattle.cl_display.specs.Sums.{Holds}
use Rattle.cl_display.specs.declared.figures.FigureItem.{FigureItem}
use Rattle.cl_display.specs.declared.figures.FigureItem.TheVariants as item
use Rattle.cl_display.specs.declared.figures.FigureParts.{FigureParts}
use Rattle.cl_display.proofs.CornerLemmas.{IsUpright, box-first, box-second, holds-itself, holds-then}
use Rattle.cl_reuse.specs.Motions.{Motion, move_ambient, move_drawing}
use Rattle.cl_reuse.proofs.MotionLemmas.{Fits, bounds-move, cursor_to-move, item-move, near-test, range-test, range-within, swapped}

-- ---- what grows on the way

-- neither the weight nor the extent falls, and what was used stays so
pub record Grows (s t : DrawingAt) : Type 0 where
  pub weight : s.weight ≤ t.weight
  pub margin : s.part.margin_used ≡ true → t.part.margin_used ≡ true
  pub origin : s.part.origin_used ≡ true → t.part.origin_used ≡ true
  pub extent : Holds t.part.extent s.part.extent

pub grows-itself : (s : DrawingAt) → Grows s s
grows-itself s = record { weight = omega arith; margin = λ h. h; origin = λ h. h; extent = holds-itself s.part.extent }

pub grows-then : (s t u : DrawingAt) → Grows s t → Grows t u → Grows s u
grows-then s t u g h = record {
  weight = omega (arith, g.weight, h.weight);
  margin = λ e. h.margin (g.margin e);
  origin = λ e. h.origin (g.origin e);
  extent = holds-then u.part.extent t.part.extent s.part.extent h.extent g.extent;
}

pub grows-cursor : (a : AmbientAt) (s : DrawingAt) → Grows s (cursor_to a s)
grows-cursor a s = record { weight = omega arith; margin = λ h. h; origin = λ h. h; extent = box-first s.part.extent (cursor_box a) }

module _ (m : Motion) (most : ℕ) where
  -- an answer from a drawing, and the one from there: neither the weight nor the extent falls, and where the first fits, the second is the same
  -- elsewhere
  abbrev pub StepsTo : DrawingAt → Result DrawingAt ℕ → Result DrawingAt ℕ → Type 0
  StepsTo s (Ok t) r = Grows s t × (Fits m most t → r ≡ Ok (move_drawing m t))
  StepsTo s (Err k) r = Unit {0}

  steps-item : (leaf : Item) (weight : ℕ) (s : DrawingAt) → Grows s (record s { weight = s.weight + weight; part = with_item leaf s.part })
  steps-item leaf weight s =
      record { weight = omega arith; margin = λ h. h; origin = λ h. h; extent = box-first s.part.extent (item_bounds leaf) }

  added : (leaf : Item) (weight : ℕ) (s : DrawingAt) → s.weight + weight ≤ most
      → add_item most (move_item m.by leaf) weight (move_drawing m s)
      ≡ Ok (move_drawing m (record s { weight = s.weight + weight; part = with_item leaf s.part }))
  added leaf weight s light =
      let fits : nat_le (s.weight + weight) most ≡ true = grind (arith, nat_tests, light) in
      let parts = item-move m.by leaf s.part in
      rw fits (λ i. Ok (record { ambient = move_ambient m s.ambient; weight = s.weight + weight; siblings = s.siblings; part = parts i }))

  after_text-move : (a : AmbientAt) (bytes : List ℕ) → after_text (move_ambient m a) bytes ≡ move_ambient m (after_text a bytes)
  after_text-move a bytes = let across = swapped a.x m.by.dx (pos (columns_of bytes)) in λ i. record (move_ambient m a) { x = across i }

  upright-text : (a : AmbientAt) (bytes : List ℕ) → IsUpright (item_bounds (text_leaf a bytes))
  upright-text a bytes = record { across = omega (arith, ints); down = omega (arith, ints) }

  steps-text : (s : DrawingAt) (bytes : List ℕ) (b c : Bool)
      → StepsTo s (if b then then_to (after_text s.ambient bytes)
      (if c then Ok (record s { weight = s.weight + (length bytes + 1); part = with_item (text_leaf s.ambient bytes) s.part }) else Err 10) else Err 9)
      (place_text most bytes (move_drawing m s))
  steps-text s bytes true true =
      let leaf = text_leaf s.ambient bytes in
      let weight = length bytes + 1 in
      let behind = after_text s.ambient bytes in
      let drawn : DrawingAt = record s { weight = s.weight + weight; part = with_item leaf s.part } in (
        grows-then s drawn (cursor_to behind drawn) (steps-item leaf weight s) (grows-cursor behind drawn),
        λ fits.
            let around = box drawn.part.extent (cursor_box behind) in
            let inner = holds-then around drawn.part.extent (item_bounds leaf) (box-first drawn.part.extent (cursor_box behind))
            (box-second s.part.extent (item_bounds leaf)) in
            let near : is_in_range (item_bounds (move_item m.by leaf)) ≡ true =
            ap (λ (r : Rect). is_in_range r) (bounds-move m.by leaf)
            ∙ range-test (move_rect m.by (item_bounds leaf)) (range-within m.by around (item_bounds leaf) (upright-text s.ambient bytes) inner fits.range) in
            rw near (ap (λ (r : Result DrawingAt ℕ). then_to (after_text (move_ambient m s.ambient) bytes) r) (added leaf weight s fits.weight)
            ∙ ap (λ (t : DrawingAt). Ok t) (cursor_to-move m behind (after_text (move_ambient m s.ambient) bytes) drawn (after_text-move s.ambient bytes))),
      )
  steps-text s bytes true false = tt
  steps-text s bytes false c = tt

  pub steps-write_value : (w : ℕ) (s : DrawingAt) (d : Data) → StepsTo s (write_value w s d) (write_value most (move_drawing m s) d)
  steps-write_value w s (text []) = (grows-itself s, λ fits. refl)
  steps-write_value w s (text (b ∷ bs)) =
      steps-text s (b ∷ bs) (is_in_range (item_bounds (text_leaf s.ambient (b ∷ bs)))) (nat_le (s.weight + (length (b ∷ bs) + 1)) w)
  steps-write_value w s d = tt

  -- ---- a newline

  newline-move : (a : AmbientAt) → m.margin ≡ m.by.dx → after_newline (move_ambient m a) ≡ move_ambient m (after_newline a)
  newline-move a e = let down = swapped a.y m.by.dy (pos 1) in λ i. record (move_ambient m a) { x = a.margin +ℤ e i; y = down i }

  steps-down : (s : DrawingAt) (b : Bool)
      → StepsTo s (if b then Ok (cursor_to (after_newline s.ambient) (record s { part = with_margin_used s.part })) else Err 9) (newline (move_drawing m s))
  steps-down s true =
      let behind = after_newline s.ambient in
      let used : DrawingAt = record s { part = with_margin_used s.part } in (
        record { weight = omega arith; margin = λ h. refl; origin = λ h. h; extent = box-first s.part.extent (cursor_box behind) },
        λ fits.
            let corners = box-second s.part.extent (cursor_box behind) in
            let lower = range-within m.by (box s.part.extent (cursor_box behind)) (cursor_box behind)
            (record { across = omega (arith, ints); down = omega (arith, ints) })
            corners fits.range in
            let down = swapped s.ambient.y m.by.dy (pos 1) in
            let near : is_near ((s.ambient.y +ℤ m.by.dy) +ℤ pos 1) ≡ true = ap (λ (z : ℤ). is_near z) down ∙ near-test
            ((s.ambient.y +ℤ pos 1) +ℤ m.by.dy) lower.y1 in
            rw near (ap (λ (t : DrawingAt). Ok t) (cursor_to-move m behind (after_newline (move_ambient m s.ambient)) used
            (newline-move s.ambient (fits.margin refl)))),
      )
  steps-down s false = tt

  pub steps-newline : (s : DrawingAt) → StepsTo s (newline s) (newline (move_drawing m s))
  steps-newline s = steps-down s (is_near (s.ambient.y +ℤ pos 1))

  -- ---- figures

  area-move : (a : AmbientAt) (x y width height : ℤ) → m.origin ≡ m.by
      → shape_area (move_ambient m a) x y width height ≡ move_area m.by (shape_area a x y width height)
  area-move a x y width height e =
      let far = ap (λ (v : Shift). record { x = (a.origin_x +ℤ v.dx) +ℤ x; y = (a.origin_y +ℤ v.dy) +ℤ y; width = width; height = height; ink = a.ink }) e in
      let across = swapped a.origin_x m.by.dx x in
      let down = swapped a.origin_y m.by.dy y in
      far ∙ (λ i. record { x = across i; y = down i; width = width; height = height; ink = a.ink })

  -- an item of this shape
  abbrev in_area : LeafShape → Area → Item
  in_area shape area = record { area = area; shape = shape }

  upright-area : (area : Area) → (int_le area.width (pos 0) || int_le area.height (pos 0)) ≡ false → IsUpright (bounds_of area)
  upright-area area e = record { across = grind (arith, ints, e); down = grind (arith, ints, e) }

  steps-drawn : (s : DrawingAt) (x y width height : ℤ) (shape : LeafShape) (negative none b c : Bool)
      → (int_lt width (pos 0) || int_lt height (pos 0)) ≡ negative
      → (int_le width (pos 0) || int_le height (pos 0)) ≡ none
      → StepsTo s (if negative then Err 9 else (if none then Ok s else (if b then with_origin_used (if c
      then Ok (record s { weight = s.weight + 1; part = with_item (in_area shape (shape_area s.ambient x y width height)) s.part }) else Err 10) else Err 9)))
      (draw_shape most (in_area shape (shape_area (move_ambient m s.ambient) x y width height))
      (shape_area (move_ambient m s.ambient) x y width height) (move_drawing m s))
  steps-drawn s x y width height shape true none b c e f = tt
  steps-drawn s x y width height shape false true b c e f = (grows-itself s, λ fits. rw (e, f) refl)
  steps-drawn s x y width height shape false false true true e f =
      let area = shape_area s.ambient x y width height in
      let leaf = in_area shape area in (
        record { weight = omega arith; margin = λ h. h; origin = λ h. refl; extent = box-first s.part.extent (bounds_of area) },
        λ fits.
            let placed = area-move s.ambient x y width height (fits.origin refl) in
            let near : is_in_range (item_bounds (move_item m.by leaf)) ≡ true =
            ap (λ (r : Rect). is_in_range r) (bounds-move m.by leaf)
            ∙ range-test (move_rect m.by (bounds_of area)) (range-within m.by (box s.part.extent (bounds_of area)) (bounds_of area) (upright-area area f)
            (box-second s.part.extent (bounds_of area)) fits.range) in
            ap (λ (other : Area). draw_shape most (in_area shape other) other (move_drawing m s)) placed
            ∙ rw (e, f, near) (ap (λ (r : Result DrawingAt ℕ). with_origin_used r) (added leaf 1 s fits.weight)),
      )
  steps-drawn s x y width height shape false false true false e f = tt
  steps-drawn s x y width height shape false false false c e f = tt

  steps-shape : (w : ℕ) (s : DrawingAt) (x y width height : ℤ) (shape : LeafShape)
      → StepsTo s (draw_shape w (in_area shape (shape_area s.ambient x y width height)) (shape_area s.ambient x y width height) s)
      (draw_shape most (in_area shape (shape_area (move_ambient m s.ambient) x y width height))
      (shape_area (move_ambient m s.ambient) x y width height) (move_drawing m s))
  steps-shape w s x y width height shape =
      steps-drawn s x y width height shape (int_lt width (pos 0) || int_lt height (pos 0)) (int_le width (pos 0) || int_le height (pos 0))
      (is_in_range (bounds_of (shape_area s.ambient x y width height))) (nat_le (s.weight + 1) w) refl refl

  pub steps-draw_parts : (w : ℕ) (parts : Option FigureParts) (s : DrawingAt) → StepsTo s (draw_parts w parts s) (draw_parts most parts (move_drawing m s))
  steps-draw_parts w None s = tt
  steps-draw_parts w (Some p) s = steps-one p.item p.x p.y
    where
      steps-one : (i : FigureItem) (x y : ℤ) → StepsTo s (draw_parts w (Some (record { x = x; y = y; item = i })) s)
          (draw_parts most (Some (record { x = x; y = y; item = i })) (move_drawing m s))
      steps-one (item.Point byte) x y = steps-shape w s x y (pos 1) (pos 1) (Point byte)
      steps-one (item.HorizontalLine length) x y = steps-shape w s x y length (pos 1) (Line Horizontal)
      steps-one (item.VerticalLine length) x y = steps-shape w s x y (pos 1) length (Line Vertical)
      steps-one (item.Outline width height) x y = steps-shape w s x y width height Outline
      steps-one (item.Filled width height byte) x y = steps-shape w s x y width height (Fill byte)
