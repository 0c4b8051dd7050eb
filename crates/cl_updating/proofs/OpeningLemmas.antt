-- Tests on numbers, rectangles and values.
use Rattle.std.proofs.Common.{◌≡◌, ◌∙◌, ap, sym, refl, ℤ, Bool, true, false, List, [], ◌∷◌, map, arith}
use Rattle.std.specs.Prelude.{◌&&◌, ◌↔◌, IsTrue, int_le, neg_ℤ}
use Rattle.std.specs.Ordering.{eq_by_cmp, is_eq}
use Rattle.std.specs.Cmp.Lexicographic.{pointwise}
use Rattle.std.proofs.lemmas.Int.{ints}
use Rattle.cl_value.specs.Data.{order_of}
use Rattle.cl_value.specs.Value.{data_of}
use Rattle.cl_value.specs.declared.Value.{Value}
use Rattle.cl_region.specs.Places.{IsInRange, IsNear}
use Rattle.cl_region.specs.declared.rects.Rect.{Rect}
use Rattle.cl_region.specs.declared.rects.TheConstants.{MAX_COORDINATE}
use Rattle.cl_region.proofs.Corners.{and_left, and_right}
use Rattle.cl_display.specs.Drawings.{is_in_range, is_near}
use Rattle.cl_reuse.specs.Keeping.{same_number, same_values}

-- ---- numbers

pub number-same : (a b : ℤ) → same_number a b ≡ true → a ≡ b
number-same a b h =
    let low = and_left (int_le a b) (int_le b a) h in
    let high = and_right (int_le a b) (int_le b a) h in
    grind (arith, ints, low, high)

-- ---- the range

near-so : (z : ℤ) → IsNear z → is_near z ≡ true
near-so z h = grind (arith, ints, h.low, h.high)

range-so : (r : Rect) → IsInRange r → is_in_range r ≡ true
range-so r h = rw (near-so r.x1 h.x1, near-so r.y1 h.y1, near-so r.x2 h.x2, near-so r.y2 h.y2) refl

near-by : (z : ℤ) → is_near z ≡ true → IsNear z
near-by z h =
    let low = and_left (int_le (neg_ℤ MAX_COORDINATE) z) (int_le z MAX_COORDINATE) h in
    let high = and_right (int_le (neg_ℤ MAX_COORDINATE) z) (int_le z MAX_COORDINATE) h in
    record { low = grind (arith, ints, low); high = grind (arith, ints, high) }

pub range-by : (r : Rect) → is_in_range r ≡ true → IsInRange r
range-by r h =
    let rest = and_right (is_near r.x1) (is_near r.y1 && (is_near r.x2 && is_near r.y2)) h in
    let last = and_right (is_near r.y1) (is_near r.x2 && is_near r.y2) rest in
    record {
      x1 = near-by r.x1 (and_left (is_near r.x1) (is_near r.y1 && (is_near r.x2 && is_near r.y2)) h);
      y1 = near-by r.y1 (and_left (is_near r.y1) (is_near r.x2 && is_near r.y2) rest);
      x2 = near-by r.x2 (and_left (is_near r.x2) (is_near r.y2) last);
      y2 = near-by r.y2 (and_right (is_near r.x2) (is_near r.y2) last);
    }

-- a test that says whether a rectangle is in the range
pub range_test : (r : Rect) (b : Bool) → IsTrue b ↔ IsInRange r → b ≡ is_in_range r
range_test r true h = sym (range-so r (h.0 refl))
range_test r false h = by_test (is_in_range r) refl
  where
    by_test : (b : Bool) → is_in_range r ≡ b → false ≡ b
    by_test true e = h.1 (range-by r e)
    by_test false e = refl

-- ---- values

-- values in a row are tested one by one
pub all_same : (vs ws : List Value) → pointwise (λ (v w : Value). eq_by_cmp order_of (data_of v) (data_of w)) vs ws ≡ same_values (map data_of vs) (map data_of ws)
all_same [] [] = refl
all_same [] (w ∷ ws) = refl
all_same (v ∷ vs) [] = refl
all_same (v ∷ vs) (w ∷ ws) = ap (λ (b : Bool). is_eq (order_of (data_of v) (data_of w)) && b) (all_same vs ws)

-- ---- tests

-- where the first of two tests holds, the second decides
pub both-so : (p a q b : Bool) → p ≡ a → p ≡ true → q ≡ b → q ≡ a && b
both-so p a q b first holds second = rw (sym first ∙ holds) second
