-- The laws of a leaf, for items.
use Rattle.std.specs.Prelude.{◌≡◌, ℕ, ℤ, pos, ◌+ℤ◌, ◌-ℤ◌, Bool, true, false, if◌then◌else◌, Option, Some, None, refl}
use Rattle.std.proofs.Common.{◌∙◌, ap, arith}
use Rattle.std.proofs.lemmas.Int.{ints}
use Rattle.cl_region.specs.Places.{holds, move_rect}
use Rattle.cl_region.specs.declared.rects.Rect.{Rect}
use Rattle.cl_region.specs.declared.rects.Shift.{Shift}
use Rattle.cl_region.proofs.Corners.{holds_within, same_bool, within}
use Rattle.cl_medium.specs.declared.areas.Area.{Area}
use Rattle.cl_medium.specs.declared.shapes.LeafShape.{LeafShape}
use Rattle.cl_medium.specs.Items.{Item, Painted, bounds_of, item_bounds, item_cell, move_item, move_area, shape_glyph, with_ink}

-- what is added last may be added first
pub last_two_swap : (a b c : ℤ) → (a +ℤ b) +ℤ c ≡ (a +ℤ c) +ℤ b
last_two_swap a b c = omega (arith, ints)

-- a sum of three from either side
joined_up : (a b c : ℤ) → (a +ℤ b) +ℤ c ≡ a +ℤ (b +ℤ c)
joined_up a b c = omega (arith, ints)

-- two numbers that move alike stay as far apart
same_distance : (x a d : ℤ) → (x +ℤ d) -ℤ (a +ℤ d) ≡ x -ℤ a
same_distance x a d = omega (arith, ints)

-- a move by zero changes nothing
zero_moves_nothing : (a : ℤ) → a +ℤ pos 0 ≡ a
zero_moves_nothing a = omega (arith, ints)

-- the box of a moved area is the moved box
pub bounds_move : (v : Shift) (a : Area) → bounds_of (move_area v a) ≡ move_rect v (bounds_of a)
bounds_move v a = rw (last_two_swap a.x a.width v.dx, last_two_swap a.y a.height v.dy) refl

-- a moved box holds the moved places
pub holds_moved : (v : Shift) (r : Rect) (x y : ℤ) → holds (move_rect v r) (x +ℤ v.dx) (y +ℤ v.dy) ≡ holds r x y
holds_moved v r x y =
    same_bool (holds (move_rect v r) (x +ℤ v.dx) (y +ℤ v.dy)) (holds r x y)
    (λ h. let w = within (move_rect v r) (x +ℤ v.dx) (y +ℤ v.dy) h in
    holds_within r x y (record { x1 = omega (arith, ints, w.x1); x2 = omega (arith, ints, w.x2); y1 = omega (arith, ints, w.y1); y2 = omega (arith, ints, w.y2) }))
    (λ h. let w = within r x y h in
    holds_within (move_rect v r) (x +ℤ v.dx) (y +ℤ v.dy) (record { x1 = omega (arith, ints, w.x1); x2 = omega (arith, ints, w.x2); y1 = omega (arith, ints, w.y1); y2 = omega (arith, ints, w.y2) }))

-- a cell of an item depends on whether its area holds the place, and on how far the place is from the area's corner
pub same_cell : (ink : ℕ) (s : LeafShape) (w h : ℤ) (b b' : Bool) (p p' q q' : ℤ) → b ≡ b' → p ≡ p' → q ≡ q'
    → ◌≡◌ {A = Option Painted} (if b then with_ink ink (shape_glyph s w h p q) else None) (if b' then with_ink ink (shape_glyph s w h p' q') else None)
same_cell ink s w h b b' p p' q q' e f g = rw (e, f, g) refl

-- a cell is there only where the area holds the place
some_inside : (b : Bool) (o : Option Painted) (c : Painted) → (if b then o else None) ≡ Some c → b ≡ true
some_inside true o c h = refl
some_inside false o c h = cc

-- what an item paints lies in its bounds
pub item_within : (i : Item) (x y : ℤ) (c : Painted) → item_cell i x y ≡ Some c → holds (item_bounds i) x y ≡ true
item_within i x y c h =
    some_inside (holds (bounds_of i.area) x y) (with_ink i.area.ink (shape_glyph i.shape i.area.width i.area.height (x -ℤ i.area.x) (y -ℤ i.area.y))) c h

-- the box of a moved item is the moved box
pub item_moves_bounds : (v : Shift) (i : Item) → item_bounds (move_item v i) ≡ move_rect v (item_bounds i)
item_moves_bounds v i = bounds_move v i.area

-- a moved item shows its cells where they moved
pub item_moves_cells : (v : Shift) (i : Item) (x y : ℤ) → item_cell (move_item v i) (x +ℤ v.dx) (y +ℤ v.dy) ≡ item_cell i x y
item_moves_cells v i x y =
    same_cell i.area.ink i.shape i.area.width i.area.height _ (holds (bounds_of i.area) x y) _ (x -ℤ i.area.x) _ (y -ℤ i.area.y)
    (ap (λ (r : Rect). holds r (x +ℤ v.dx) (y +ℤ v.dy)) (bounds_move v i.area) ∙ holds_moved v (bounds_of i.area) x y)
    (same_distance x i.area.x v.dx) (same_distance y i.area.y v.dy)

-- two moves are the move by their sum
pub item_moves_twice : (v w : Shift) (i : Item) → move_item w (move_item v i) ≡ move_item (record { dx = v.dx +ℤ w.dx; dy = v.dy +ℤ w.dy }) i
item_moves_twice v w i = rw (joined_up i.area.x v.dx w.dx, joined_up i.area.y v.dy w.dy) refl

-- an item that is moved by nothing stays as it is
pub item_stays : (i : Item) → move_item (record { dx = pos 0; dy = pos 0 }) i ≡ i
item_stays i = rw (zero_moves_nothing i.area.x, zero_moves_nothing i.area.y) refl
