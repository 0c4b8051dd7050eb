-- Rectangles by their corners.
use Rattle.std.proofs.Common.{◌≡◌, ℤ, negsuc, ◌+ℤ◌, ◌≤ℤ◌, ◌<ℤ◌, Bool, true, false, ◌&&◌, ◌||◌, IsTrue, ◌↔◌, not, refl, sym, ◌∙◌, arith}
use Rattle.std.specs.Prelude.{int_le, int_lt}
use Rattle.std.proofs.lemmas.Int.{ints, clamps, by_lt_z}
use Rattle.cl_region.specs.declared.rects.Rect.{Rect}
use Rattle.cl_region.specs.Places.{Covers, IsEmpty, IsInRange, IsNear, box, intersection, holds, is_between, is_thin}

pub same_bool : (p q : Bool) → (p ≡ true → q ≡ true) → (q ≡ true → p ≡ true) → p ≡ q
same_bool true true f g = refl
same_bool false false f g = refl
same_bool true false f g = sym (f refl)
same_bool false true f g = g refl

pub and_left : (p q : Bool) → p && q ≡ true → p ≡ true
and_left true q h = refl
and_left false q h = h

pub and_right : (p q : Bool) → p && q ≡ true → q ≡ true
and_right true q h = h
and_right false q h = cc

pub both : (p q : Bool) → p ≡ true → q ≡ true → p && q ≡ true
both p q h k = rw h k

pub from_between : (a z b : ℤ) → is_between a z b ≡ true → (a ≤ℤ z) × (z <ℤ b)
from_between a z b h =
    let l = and_left (int_le a z) (int_lt z b) h in
    let r = and_right (int_le a z) (int_lt z b) h in
    (grind (arith, ints, l), grind (arith, ints, r))

pub to_between : (a z b : ℤ) → a ≤ℤ z → z <ℤ b → is_between a z b ≡ true
to_between a z b h k = both (int_le a z) (int_lt z b) (grind (arith, ints)) (grind (arith, ints))

pub record Within (r : Rect) (x y : ℤ) : Type 0 where
  pub x1 : r.x1 ≤ℤ x
  pub x2 : x <ℤ r.x2
  pub y1 : r.y1 ≤ℤ y
  pub y2 : y <ℤ r.y2

pub within : (r : Rect) (x y : ℤ) → holds r x y ≡ true → Within r x y
within r x y h =
    let columns = from_between r.x1 x r.x2 (and_left (is_between r.x1 x r.x2) (is_between r.y1 y r.y2) h) in
    let rows = from_between r.y1 y r.y2 (and_right (is_between r.x1 x r.x2) (is_between r.y1 y r.y2) h) in
    record { x1 = columns.0; x2 = columns.1; y1 = rows.0; y2 = rows.1 }

pub holds_within : (r : Rect) (x y : ℤ) → Within r x y → holds r x y ≡ true
holds_within r x y w =
    both (is_between r.x1 x r.x2) (is_between r.y1 y r.y2) (to_between r.x1 x r.x2 w.x1 w.x2) (to_between r.y1 y r.y2 w.y1 w.y2)

pub none_held : (b : Bool) → (b ≡ true → ⊥) → b ≡ false
none_held true f = absurd (f refl)
none_held false f = refl

pub false_holds : (b : Bool) → b ≡ false → b ≡ true → ⊥
false_holds b e f = cc

pub wrong : false ≡ true → ⊥
wrong h = cc

pub rect_is : (r : Rect) (a b c d : ℤ) → a ≡ r.x1 → b ≡ r.y1 → c ≡ r.x2 → d ≡ r.y2
    → ◌≡◌ {A = Rect} (record { x1 = a; y1 = b; x2 = c; y2 = d }) r
rect_is r a b c d e f g h = rw (e, f, g, h) refl

pub common-holds : (a b : Rect) (x y : ℤ) → holds (intersection a b) x y ≡ holds a x y && holds b x y
common-holds a b x y =
    same_bool (holds (intersection a b) x y) (holds a x y && holds b x y)
    (λ h. let w = within (intersection a b) x y h in
    both (holds a x y) (holds b x y)
    (holds_within a x y (record { x1 = omega (arith, ints, clamps, w.x1); x2 = omega (arith, ints, clamps, w.x2); y1 = omega (arith, ints, clamps, w.y1); y2 = omega (arith, ints, clamps, w.y2) }))
    (holds_within b x y (record { x1 = omega (arith, ints, clamps, w.x1); x2 = omega (arith, ints, clamps, w.x2); y1 = omega (arith, ints, clamps, w.y1); y2 = omega (arith, ints, clamps, w.y2) })))
    (λ h. let v = within a x y (and_left (holds a x y) (holds b x y) h) in
    let w = within b x y (and_right (holds a x y) (holds b x y) h) in
    holds_within (intersection a b) x y (record { x1 = omega (arith, ints, clamps, v.x1, w.x1); x2 = omega (arith, ints, clamps, v.x2, w.x2); y1 = omega (arith, ints, clamps, v.y1, w.y1); y2 = omega (arith, ints, clamps, v.y2, w.y2) }))

pub common_is : (p a b : Rect) → p ≡ intersection a b → (x y : ℤ) → holds p x y ≡ holds a x y && holds b x y
common_is p a b e x y = rw e (common-holds a b x y)

-- both bounds are in order
pub record HasCell (r : Rect) : Type 0 where
  pub columns : r.x1 <ℤ r.x2
  pub rows : r.y1 <ℤ r.y2

pub corner_held : (r : Rect) → HasCell r → holds r r.x1 r.y1 ≡ true
corner_held r h = holds_within r r.x1 r.y1 (record { x1 = omega (arith, ints); x2 = h.columns; y1 = omega (arith, ints); y2 = h.rows })

pub empty_columns : (r : Rect) → r.x2 ≤ℤ r.x1 → IsEmpty r
empty_columns r h = record {
  holds_none = λ x y. none_held (holds r x y) (λ e. let w = within r x y e in omega (arith, ints, w.x1, w.x2));
}

pub empty_rows : (r : Rect) → r.y2 ≤ℤ r.y1 → IsEmpty r
empty_rows r h = record {
  holds_none = λ x y. none_held (holds r x y) (λ e. let w = within r x y e in omega (arith, ints, w.y1, w.y2));
}

pub not_empty : (r : Rect) → HasCell r → IsEmpty r → ⊥
not_empty r h e = false_holds (holds r r.x1 r.y1) (e.holds_none r.x1 r.y1) (corner_held r h)

thin_cases : (r : Rect) (b c : Bool) → b ≡ int_le r.x2 r.x1 → c ≡ int_le r.y2 r.y1 → IsTrue (b || c) ↔ IsEmpty r
thin_cases r true c e f = ((λ t. empty_columns r (grind (arith, ints, e))), (λ k. refl))
thin_cases r false true e f = ((λ t. empty_rows r (grind (arith, ints, f))), (λ k. refl))
thin_cases r false false e f =
    ((λ t. absurd (wrong t)), (λ k. absurd (not_empty r (record { columns = grind (arith, ints, e); rows = grind (arith, ints, f) }) k)))

pub thin_test : (r : Rect) (b : Bool) → b ≡ is_thin r → IsTrue b ↔ IsEmpty r
thin_test r b e = rw e (thin_cases r (int_le r.x2 r.x1) (int_le r.y2 r.y1) refl refl)

-- not empty is to have a cell
pub has_cell : (r : Rect) → (IsEmpty r → ⊥) → HasCell r
has_cell r h = record {
  columns = by_lt_z {P = r.x1 <ℤ r.x2} r.x1 r.x2 (λ less. less) (λ more. absurd (h (empty_columns r more)));
  rows = by_lt_z {P = r.y1 <ℤ r.y2} r.y1 r.y2 (λ less. less) (λ more. absurd (h (empty_rows r more)));
}

-- a rectangle with a cell, all of whose cells another holds, lies inside it
pub record Inside (a b : Rect) : Type 0 where
  pub x1 : a.x1 ≤ℤ b.x1
  pub x2 : b.x2 ≤ℤ a.x2
  pub y1 : a.y1 ≤ℤ b.y1
  pub y2 : b.y2 ≤ℤ a.y2

pub inside : (a b : Rect) → HasCell b → Covers a b → Inside a b
inside a b h k =
    let first = within a b.x1 b.y1 (k.holds_each b.x1 b.y1 (corner_held b h)) in
    let x = b.x2 +ℤ negsuc 0 in
    let y = b.y2 +ℤ negsuc 0 in
    let last = within a x y (k.holds_each x y (holds_within b x y (record { x1 = omega (arith, ints, h.columns); x2 = omega (arith, ints); y1 = omega (arith, ints, h.rows); y2 = omega (arith, ints) }))) in
    record { x1 = first.x1; x2 = omega (arith, ints, last.x2); y1 = first.y1; y2 = omega (arith, ints, last.y2) }

pub covers_inside : (a b : Rect) → Inside a b → Covers a b
covers_inside a b k = record {
  holds_each = λ x y h.
      let w = within b x y h in
      holds_within a x y (record { x1 = omega (arith, ints, w.x1, k.x1); x2 = omega (arith, ints, w.x2, k.x2); y1 = omega (arith, ints, w.y1, k.y1); y2 = omega (arith, ints, w.y2, k.y2) });
}

pub covers_empty : (a b : Rect) → IsEmpty b → Covers a b
covers_empty a b e = record { holds_each = λ x y h. absurd (false_holds (holds b x y) (e.holds_none x y) h) }

pub covers_same : (a : Rect) → Covers a a
covers_same a = record { holds_each = λ x y h. h }

pub box-left : (a b : Rect) → Covers (box a b) a
box-left a b = covers_inside (box a b) a (record { x1 = omega (arith, ints, clamps); x2 = omega (arith, ints, clamps); y1 = omega (arith, ints, clamps); y2 = omega (arith, ints, clamps) })

pub box-right : (a b : Rect) → Covers (box a b) b
box-right a b = covers_inside (box a b) b (record { x1 = omega (arith, ints, clamps); x2 = omega (arith, ints, clamps); y1 = omega (arith, ints, clamps); y2 = omega (arith, ints, clamps) })

pub box-least : (a b r : Rect) → HasCell a → HasCell b → Covers r a → Covers r b → Covers r (box a b)
box-least a b r h k p q =
    let i = inside r a h p in
    let j = inside r b k q in
    covers_inside r (box a b) (record { x1 = omega (arith, ints, clamps, i.x1, j.x1); x2 = omega (arith, ints, clamps, i.x2, j.x2); y1 = omega (arith, ints, clamps, i.y1, j.y1); y2 = omega (arith, ints, clamps, i.y2, j.y2) })

pub near-box : (a b : Rect) → IsInRange a → IsInRange b → IsInRange (box a b)
near-box a b h k = record {
  x1 = record { low = omega (arith, ints, clamps, h.x1.low, k.x1.low); high = omega (arith, ints, clamps, h.x1.high, k.x1.high) };
  y1 = record { low = omega (arith, ints, clamps, h.y1.low, k.y1.low); high = omega (arith, ints, clamps, h.y1.high, k.y1.high) };
  x2 = record { low = omega (arith, ints, clamps, h.x2.low, k.x2.low); high = omega (arith, ints, clamps, h.x2.high, k.x2.high) };
  y2 = record { low = omega (arith, ints, clamps, h.y2.low, k.y2.low); high = omega (arith, ints, clamps, h.y2.high, k.y2.high) };
}

pub near : (z w : ℤ) → z ≡ w → IsNear z → IsNear w
near z w e h = rw (← e) h

-- a common cell, where the common rectangle has one
pub some_common : (p a b : Rect) → ((x y : ℤ) → holds p x y ≡ holds a x y && holds b x y) → (e : Bool) → (IsTrue e ↔ IsEmpty p)
    → IsTrue (not e) ↔ ((x : ℤ) × ((y : ℤ) × (holds a x y && holds b x y ≡ true)))
some_common p a b same true k =
    ((λ t. cc), (λ (x, (y, h)). absurd (false_holds (holds a x y && holds b x y) (sym (same x y) ∙ (k.0 refl).holds_none x y) h)))
some_common p a b same false k =
    let cell = has_cell p (λ e. absurd (wrong (k.1 e))) in
    ((λ t. (p.x1, (p.y1, sym (same p.x1 p.y1) ∙ corner_held p cell))), (λ h. refl))
