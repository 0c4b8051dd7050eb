-- Parts of drawings elsewhere.
use Rattle.std.proofs.Common.{◌≡◌, ◌∙◌, ap, sym, refl, ℕ, ◌≤◌, ℤ, ◌+ℤ◌, ◌≤ℤ◌, Bool, true, false, ◌||◌, [], ◌∷◌, Option, Some, None, arith, if◌then◌else◌}
use Rattle.std.specs.Int.{int_max}
use Rattle.std.specs.Prelude.{int_le, neg_ℤ, ◌&&◌}
use Rattle.std.specs.Option.{unwrap_or}
use Rattle.std.proofs.lemmas.Int.{ints, clamps}
use Rattle.cl_region.specs.Places.{FitsMoved, IsInRange, IsNear, box, move_rect}
use Rattle.cl_region.specs.declared.rects.Rect.{Rect}
use Rattle.cl_region.specs.declared.rects.Shift.{Shift}
use Rattle.cl_region.specs.declared.rects.TheConstants.{MAX_COORDINATE}
use Rattle.cl_region.proofs.Corners.{both}
use Rattle.cl_medium.specs.Ambients.{AmbientAt}
use Rattle.cl_medium.specs.Items.{Item, item_bounds, move_item}
use Rattle.cl_record.specs.Heads.{HeadAt, Point, move_head, move_margin, move_measures, move_origin}
use Rattle.cl_record.specs.Labels.{LabelAt}
use Rattle.cl_record.specs.Marks.{close, draw, open_presentation, open_update}
use Rattle.cl_record.proofs.Boxes.{box-move}
use Rattle.cl_record.proofs.Moves.{all_moved-append}
use Rattle.cl_display.specs.Drawings.{DrawingAt, PartAt, cursor_box, cursor_to, is_in_range, is_near, join_parts, lower_end, with_cursor, with_item}
use Rattle.cl_display.specs.Presentations.{presented_part}
use Rattle.cl_display.specs.Sums.{Holds}
use Rattle.cl_display.specs.Updates.{KeyAt, head_at, leave_update, measures_at, updated_part}
use Rattle.cl_display.proofs.CornerLemmas.{IsUpright}
use Rattle.cl_reuse.specs.Motions.{FitsThere, Motion, move_ambient, move_drawing, move_end, move_part}

-- ---- numbers

pub swapped : (a b c : ℤ) → (a +ℤ b) +ℤ c ≡ (a +ℤ c) +ℤ b
swapped a b c = omega (arith, ints)

pub max-move : (a b d : ℤ) → int_max (a +ℤ d) (b +ℤ d) ≡ int_max a b +ℤ d
max-move a b d = omega (arith, ints, clamps)

pub near-test : (z : ℤ) → IsNear z → is_near z ≡ true
near-test z h = both (int_le (neg_ℤ MAX_COORDINATE) z) (int_le z MAX_COORDINATE) (grind (arith, ints, h.low)) (grind (arith, ints, h.high))

pub range-test : (r : Rect) → IsInRange r → is_in_range r ≡ true
range-test r h =
    both (is_near r.x1) (is_near r.y1 && (is_near r.x2 && is_near r.y2)) (near-test r.x1 h.x1)
    (both (is_near r.y1) (is_near r.x2 && is_near r.y2) (near-test r.y1 h.y1)
    (both (is_near r.x2) (is_near r.y2) (near-test r.x2 h.x2) (near-test r.y2 h.y2)))

-- no side of a rectangle, moved, passes the greatest coordinate
pub record SidesFit (r : Rect) (v : Shift) : Type 0 where
  pub left : neg_ℤ MAX_COORDINATE ≤ℤ (r.x1 +ℤ v.dx)
  pub top : neg_ℤ MAX_COORDINATE ≤ℤ (r.y1 +ℤ v.dy)
  pub right : (r.x2 +ℤ v.dx) ≤ℤ MAX_COORDINATE
  pub bottom : (r.y2 +ℤ v.dy) ≤ℤ MAX_COORDINATE

-- what the end of a draw keeps to, where its extent need not be upright
pub record Fits (m : Motion) (most : ℕ) (end : DrawingAt) : Type 0 where
  pub weight : end.weight ≤ most
  pub margin : end.part.margin_used ≡ true → m.margin ≡ m.by.dx
  pub origin : end.part.origin_used ≡ true → m.origin ≡ m.by
  pub range : SidesFit end.part.extent m.by

pub fits-of : (m : Motion) (most : ℕ) (end : DrawingAt) → FitsThere m most end → Fits m most end
fits-of m most end f = record {
  weight = f.weight;
  margin = f.margin;
  origin = f.origin;
  range = record { left = f.range.x1.low; top = f.range.y1.low; right = f.range.x2.high; bottom = f.range.y2.high };
}

-- what lies within a rectangle fits where that does
pub sides-within : (v : Shift) (outer inner : Rect) → Holds outer inner → SidesFit outer v → SidesFit inner v
sides-within v outer inner h f = record {
  left = omega (arith, ints, h.left, f.left);
  top = omega (arith, ints, h.top, f.top);
  right = omega (arith, ints, h.right, f.right);
  bottom = omega (arith, ints, h.bottom, f.bottom);
}

-- and is in the range where it is upright
pub range-within : (v : Shift) (outer inner : Rect) → IsUpright inner → Holds outer inner → SidesFit outer v → FitsMoved inner v
range-within v outer inner u h f = record {
  x1 = record { low = omega (arith, ints, h.left, f.left); high = omega (arith, ints, u.across, h.right, f.right) };
  y1 = record { low = omega (arith, ints, h.top, f.top); high = omega (arith, ints, u.down, h.bottom, f.bottom) };
  x2 = record { low = omega (arith, ints, u.across, h.left, f.left); high = omega (arith, ints, h.right, f.right) };
  y2 = record { low = omega (arith, ints, u.down, h.top, f.top); high = omega (arith, ints, h.bottom, f.bottom) };
}

-- ---- parts

pub bounds-move : (v : Shift) (leaf : Item) → item_bounds (move_item v leaf) ≡ move_rect v (item_bounds leaf)
bounds-move v leaf =
    let a = leaf.area in
    let across = swapped a.x v.dx a.width in
    let down = swapped a.y v.dy a.height in
    λ i. record { x1 = a.x +ℤ v.dx; y1 = a.y +ℤ v.dy; x2 = across i; y2 = down i }

lower-move : (v : Shift) (a b : Option ℤ) → lower_end (move_end v a) (move_end v b) ≡ move_end v (lower_end a b)
lower-move v None b = refl
lower-move v (Some x) None = refl
lower-move v (Some x) (Some y) = ap (λ (z : ℤ). Some z) (max-move x y v.dy)

pub lowest-move : (v : Shift) (o : Option ℤ) (y : ℤ) → unwrap_or (move_end v o) (y +ℤ v.dy) ≡ unwrap_or o y +ℤ v.dy
lowest-move v None y = refl
lowest-move v (Some z) y = refl

pub cursor-move : (v : Shift) (a a' : AmbientAt) (p : PartAt) → cursor_box a' ≡ move_rect v (cursor_box a)
    → with_cursor a' (move_part v p) ≡ move_part v (with_cursor a p)
cursor-move v a a' p e =
    let boxes : box (move_rect v p.extent) (cursor_box a') ≡ move_rect v (box p.extent (cursor_box a)) =
    ap (λ (r : Rect). box (move_rect v p.extent) r) e ∙ sym (box-move v p.extent (cursor_box a)) in
    λ i. record (move_part v p) { extent = boxes i }

pub item-move : (v : Shift) (leaf : Item) (p : PartAt) → with_item (move_item v leaf) (move_part v p) ≡ move_part v (with_item leaf p)
item-move v leaf p =
    let bounds = bounds-move v leaf in
    let boxes : box (move_rect v p.extent) (item_bounds (move_item v leaf)) ≡ move_rect v (box p.extent (item_bounds leaf)) =
    ap (λ (r : Rect). box (move_rect v p.extent) r) bounds ∙ sym (box-move v p.extent (item_bounds leaf)) in
    let ends : lower_end (move_end v p.lowest) (Some (item_bounds (move_item v leaf)).y2) ≡ move_end v (lower_end p.lowest (Some (item_bounds leaf).y2)) =
    ap (λ (r : Rect). lower_end (move_end v p.lowest) (Some r.y2)) bounds ∙ lower-move v p.lowest (Some (item_bounds leaf).y2) in
    let all = sym (all_moved-append move_item v p.marks (draw leaf ∷ [])) in
    λ i. record (move_part v p) { extent = boxes i; lowest = ends i; marks = all i }

pub join-move : (v : Shift) (outer inner : PartAt) → join_parts (move_part v outer) (move_part v inner) ≡ move_part v (join_parts outer inner)
join-move v outer inner =
    let boxes = sym (box-move v outer.extent inner.extent) in
    let ends = lower-move v outer.lowest inner.lowest in
    let all = sym (all_moved-append move_item v outer.marks inner.marks) in
    λ i. record {
      extent = boxes i;
      lowest = ends i;
      margin_used = inner.margin_used || outer.margin_used;
      origin_used = inner.origin_used || outer.origin_used;
      marks = all i;
    }

pub presented-move : (v : Shift) (label : LabelAt) (p : PartAt) → presented_part label (move_part v p) ≡ move_part v (presented_part label p)
presented-move v label p =
    let all = sym (all_moved-append move_item v p.marks (close ∷ [])) in
    λ i. record (move_part v p) { marks = open_presentation label ∷ all i }

pub updated-move : (v : Shift) (head head' : HeadAt) (p : PartAt) → head' ≡ move_head v head
    → updated_part head' (move_part v p) ≡ move_part v (updated_part head p)
updated-move v head head' p e =
    let all = sym (all_moved-append move_item v p.marks (close ∷ [])) in
    λ i. record (move_part v p) { marks = open_update (e i) ∷ all i }

-- ---- drawings

pub cursor_to-move : (m : Motion) (a a' : AmbientAt) (s : DrawingAt) → a' ≡ move_ambient m a
    → cursor_to a' (move_drawing m s) ≡ move_drawing m (cursor_to a s)
cursor_to-move m a a' s e =
    let parts = cursor-move m.by a (move_ambient m a) s.part refl in
    ap (λ (b : AmbientAt). cursor_to b (move_drawing m s)) e
    ∙ (λ i. record { ambient = move_ambient m a; weight = s.weight; siblings = s.siblings; part = parts i })

-- ---- heads

margin-part : (m : Motion) (used : Bool) (x : ℤ) → (used ≡ true → m.margin ≡ m.by.dx)
    → ◌≡◌ {A = Option ℤ} (if used then Some (x +ℤ m.margin) else None) (move_margin m.by (if used then Some x else None))
margin-part m true x e = let far = e refl in λ i. Some (x +ℤ far i)
margin-part m false x e = refl

origin-part : (m : Motion) (used : Bool) (x y : ℤ) → (used ≡ true → m.origin ≡ m.by)
    → ◌≡◌ {A = Option Point} (if used then Some (record { x = x +ℤ m.origin.dx; y = y +ℤ m.origin.dy }) else None)
    (move_origin m.by (if used then Some (record { x = x; y = y }) else None))
origin-part m true x y e = let far = e refl in λ i. Some (record { x = x +ℤ (far i).dx; y = y +ℤ (far i).dy })
origin-part m false x y e = refl

-- what an update says of itself elsewhere
pub head-move : (m : Motion) (key : KeyAt) (a : AmbientAt) (end : DrawingAt) (cost reach : ℕ) → (end.part.margin_used ≡ true → m.margin ≡ m.by.dx)
    → (end.part.origin_used ≡ true → m.origin ≡ m.by)
    → head_at key (move_ambient m a) (move_drawing m end) cost reach ≡ move_head m.by (head_at key a end cost reach)
head-move m key a end cost reach e f =
    let h = move_head m.by (head_at key a end cost reach) in
    let margins = margin-part m end.part.margin_used a.margin e in
    let origins = origin-part m end.part.origin_used a.origin_x a.origin_y f in
    λ i. record h { measures = record h.measures { margin = margins i; origin = origins i } }

-- the measures of a body that was drawn elsewhere
pub measures-move : (m : Motion) (a : AmbientAt) (end : DrawingAt) (cost reach : ℕ) → (end.part.margin_used ≡ true → m.margin ≡ m.by.dx)
    → (end.part.origin_used ≡ true → m.origin ≡ m.by)
    → measures_at (move_ambient m a) (move_drawing m end) cost reach ≡ move_measures m.by (measures_at a end cost reach)
measures-move m a end cost reach e f =
    let moved = move_measures m.by (measures_at a end cost reach) in
    let margins = margin-part m end.part.margin_used a.margin e in
    let origins = origin-part m end.part.origin_used a.origin_x a.origin_y f in
    λ i. record moved { margin = margins i; origin = origins i }

pub leave_update-move : (m : Motion) (head head' : HeadAt) (inner : PartAt) (s : DrawingAt) → head' ≡ move_head m.by head
    → leave_update head' (move_part m.by inner) (move_drawing m s) ≡ move_drawing m (leave_update head inner s)
leave_update-move m head head' inner s e =
    let parts : join_parts (move_part m.by s.part) (updated_part (move_head m.by head) (move_part m.by inner)) ≡ move_part m.by
    (join_parts s.part (updated_part head inner)) =
    ap (λ (p : PartAt). join_parts (move_part m.by s.part) p) (updated-move m.by head (move_head m.by head) inner refl)
    ∙ join-move m.by s.part (updated_part head inner) in
    let moved = move_drawing m (leave_update head inner s) in
    ap (λ (h : HeadAt). leave_update h (move_part m.by inner) (move_drawing m s)) e ∙ (λ i. record moved { part = parts i })
