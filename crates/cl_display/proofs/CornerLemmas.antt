-- When the corners of rectangles lie within those of another one.
use Rattle.std.proofs.Common.{List, [], ◌∷◌, ◌++◌, Option, Some, None, arith}
use Rattle.std.specs.Prelude.{◌≤ℤ◌, IfSome}
use Rattle.std.proofs.lemmas.Int.{ints, clamps}
use Rattle.cl_medium.specs.Items.{item_bounds, Item}
use Rattle.cl_region.specs.Places.{box}
use Rattle.cl_region.specs.declared.rects.Rect.{Rect}
use Rattle.cl_medium.specs.Ambients.{AmbientAt}
use Rattle.cl_record.specs.Boxes.{corner_box, extent_box, join_boxes}
use Rattle.cl_record.specs.Marks.{Mark, close, draw, open_presentation, open_update}
use Rattle.cl_record.specs.Ranges.{HoldsCorners, HoldsPoint}
use Rattle.cl_display.specs.Drawings.{cursor_box}
use Rattle.cl_display.specs.Sums.{Holds, HoldsAll}

pub holds-itself : (r : Rect) → Holds r r
holds-itself r = record { left = omega (arith, ints); top = omega (arith, ints); right = omega (arith, ints); bottom = omega (arith, ints) }

pub holds-then : (a b c : Rect) → Holds a b → Holds b c → Holds a c
holds-then a b c p q = record {
  left = omega (arith, ints, p.left, q.left);
  top = omega (arith, ints, p.top, q.top);
  right = omega (arith, ints, p.right, q.right);
  bottom = omega (arith, ints, p.bottom, q.bottom);
}

pub box-first : (a b : Rect) → Holds (box a b) a
box-first a b = record {
  left = omega (arith, ints, clamps);
  top = omega (arith, ints, clamps);
  right =
      omega (arith, ints, clamps);
  bottom = omega (arith, ints, clamps);
}

pub box-second : (a b : Rect) → Holds (box a b) b
box-second a b = record {
  left = omega (arith, ints, clamps);
  top = omega (arith, ints, clamps);
  right =
      omega (arith, ints, clamps);
  bottom = omega (arith, ints, clamps);
}

-- the left side is not right of the right one, and the upper one not below the lower one
pub record IsUpright (r : Rect) : Type 0 where
  pub across : r.x1 ≤ℤ r.x2
  pub down : r.y1 ≤ℤ r.y2

-- what holds a place is upright
pub upright-around : (r : Rect) (a : AmbientAt) → Holds r (cursor_box a) → IsUpright r
upright-around r a h = record { across = omega (arith, ints, h.left, h.right); down = omega (arith, ints, h.top, h.bottom) }

pub corners-then : (a b c : Rect) → Holds a b → HoldsCorners b c → HoldsCorners a c
corners-then a b c p q = record {
  first = record {
    left = omega (arith, ints, p.left, q.first.left);
    right = omega (arith, ints, p.right, q.first.right);
    top = omega (arith, ints, p.top, q.first.top);
    bottom = omega (arith, ints, p.bottom, q.first.bottom);
  };
  last = record {
    left = omega (arith, ints, p.left, q.last.left);
    right = omega (arith, ints, p.right, q.last.right);
    top = omega (arith, ints, p.top, q.last.top);
    bottom = omega (arith, ints, p.bottom, q.last.bottom);
  };
}

-- the corners of a rectangle that is held
pub corners-of : (a b : Rect) → IsUpright b → Holds a b → HoldsCorners a b
corners-of a b u p = record {
  first = record {
    left = p.left;
    right = omega (arith, ints, u.across, p.right);
    top = p.top;
    bottom = omega (arith, ints, u.down, p.bottom);
  };
  last = record {
    left = omega (arith, ints, u.across, p.left);
    right = p.right;
    top = omega (arith, ints, u.down, p.top);
    bottom = p.bottom;
  };
}

pub holds_all-then : (a b : Rect) (xs : List (Mark Item)) → Holds a b → HoldsAll b xs → HoldsAll a xs
holds_all-then a b [] p q = tt
holds_all-then a b (draw x ∷ xs) p q = (corners-then a b (item_bounds x) p q.0, holds_all-then a b xs p q.1)
holds_all-then a b (open_presentation l ∷ xs) p q = holds_all-then a b xs p q
holds_all-then a b (open_update h ∷ xs) p q = (corners-then a b h.measures.extent p q.0, holds_all-then a b xs p q.1)
holds_all-then a b (close ∷ xs) p q = holds_all-then a b xs p q

pub holds_all-behind : (a : Rect) (xs ys : List (Mark Item)) → HoldsAll a xs → HoldsAll a ys → HoldsAll a (xs ++ ys)
holds_all-behind a [] ys p q = q
holds_all-behind a (draw x ∷ xs) ys p q = (p.0, holds_all-behind a xs ys p.1 q)
holds_all-behind a (open_presentation l ∷ xs) ys p q = holds_all-behind a xs ys p q
holds_all-behind a (open_update h ∷ xs) ys p q = (p.0, holds_all-behind a xs ys p.1 q)
holds_all-behind a (close ∷ xs) ys p q = holds_all-behind a xs ys p q

-- ---- the box of what marks hold

corners-both : (r a b : Rect) → HoldsCorners r a → HoldsCorners r b → HoldsCorners r (corner_box a b)
corners-both r a b p q = record {
  first = record {
    left = omega (arith, ints, clamps, p.first.left, p.last.left, q.first.left, q.last.left);
    right = omega (arith, ints, clamps, p.first.right, p.last.right, q.first.right, q.last.right);
    top = omega (arith, ints, clamps, p.first.top, p.last.top, q.first.top, q.last.top);
    bottom = omega (arith, ints, clamps, p.first.bottom, p.last.bottom, q.first.bottom, q.last.bottom);
  };
  last = record {
    left = omega (arith, ints, clamps, p.first.left, p.last.left, q.first.left, q.last.left);
    right = omega (arith, ints, clamps, p.first.right, p.last.right, q.first.right, q.last.right);
    top = omega (arith, ints, clamps, p.first.top, p.last.top, q.first.top, q.last.top);
    bottom = omega (arith, ints, clamps, p.first.bottom, p.last.bottom, q.first.bottom, q.last.bottom);
  };
}

joined-held : (r a : Rect) (o : Option Rect) → HoldsCorners r a → IfSome o (HoldsCorners r) → IfSome (join_boxes corner_box (Some a) o) (HoldsCorners r)
joined-held r a None p q = p
joined-held r a (Some b) p q = corners-both r a b p q

-- a rectangle that holds all marks holds their box
pub box-held : (r : Rect) (xs : List (Mark Item)) → HoldsAll r xs → IfSome (extent_box item_bounds xs) (HoldsCorners r)
box-held r [] p = tt
box-held r (draw x ∷ xs) p = joined-held r (item_bounds x) (extent_box item_bounds xs) p.0 (box-held r xs p.1)
box-held r (open_presentation l ∷ xs) p = box-held r xs p
box-held r (open_update h ∷ xs) p = joined-held r h.measures.extent (extent_box item_bounds xs) p.0 (box-held r xs p.1)
box-held r (close ∷ xs) p = box-held r xs p

-- the place of a cursor that is held
pub point-held : (r : Rect) (a : AmbientAt) → Holds r (cursor_box a) → HoldsPoint r (record { x = a.x; y = a.y })
point-held r a h = record { left = h.left; right = h.right; top = h.top; bottom = h.bottom }
