-- Why no item is missed where the box of all of them is left out.
use Rattle.std.proofs.Common.{◌≡◌, ℤ, ◌≤ℤ◌, Bool, true, false, List, [], ◌∷◌, Option, Some, None, refl, ap, arith}
use Rattle.std.specs.Prelude.{if◌then◌else◌, int_le, ◌||◌, not, IfSome}
use Rattle.std.proofs.lemmas.Int.{ints, clamps}
use Rattle.cl_region.specs.Places.{box, intersection, is_thin}
use Rattle.cl_region.specs.declared.rects.Rect.{Rect}
use Rattle.cl_region.proofs.Cuts.{or_elim, or_left, or_right}
use Rattle.cl_record.specs.Boxes.{items_box, join_boxes}
use Rattle.cl_record.specs.Replays.{meets_one, items_touching}

-- the sides of a rectangle lie within those of another one
pub record Within (r other : Rect) : Type 0 where
  pub left : r.x1 ≤ℤ other.x1
  pub top : r.y1 ≤ℤ other.y1
  pub right : other.x2 ≤ℤ r.x2
  pub bottom : other.y2 ≤ℤ r.y2

within-itself : (r : Rect) → Within r r
within-itself r = record { left = omega (arith, ints); top = omega (arith, ints); right = omega (arith, ints); bottom = omega (arith, ints) }

within-first : (r a b : Rect) → Within r (box a b) → Within r a
within-first r a b h = record {
  left = omega (arith, ints, clamps, h.left);
  top = omega (arith, ints, clamps, h.top);
  right = omega (arith, ints, clamps, h.right);
  bottom = omega (arith, ints, clamps, h.bottom);
}

within-second : (r a b : Rect) → Within r (box a b) → Within r b
within-second r a b h = record {
  left = omega (arith, ints, clamps, h.left);
  top = omega (arith, ints, clamps, h.top);
  right = omega (arith, ints, clamps, h.right);
  bottom = omega (arith, ints, clamps, h.bottom);
}

from_test : (a b : ℤ) → int_le a b ≡ true → a ≤ℤ b
from_test a b h = grind (arith, ints, h)

to_test : (a b : ℤ) → a ≤ℤ b → int_le a b ≡ true
to_test a b h = grind (arith, ints)

thinner : (p r a : Rect) → Within r a → is_thin (intersection p r) ≡ true → is_thin (intersection p a) ≡ true
thinner p r a w h =
    let wide = intersection p r in
    let part = intersection p a in
    or_elim (int_le wide.x2 wide.x1) (int_le wide.y2 wide.y1)
    (λ e. let f = from_test wide.x2 wide.x1 e in
    or_left (int_le part.x2 part.x1) (int_le part.y2 part.y1) (to_test part.x2 part.x1 (omega (arith, ints, clamps, f, w.left, w.right))))
    (λ e. let f = from_test wide.y2 wide.y1 e in
    or_right (int_le part.x2 part.x1) (int_le part.y2 part.y1) (to_test part.y2 part.y1 (omega (arith, ints, clamps, f, w.top, w.bottom))))
    h

parts : (b c : Bool) → not b || c ≡ false → (b ≡ true) × (c ≡ false)
parts true false h = (refl, refl)
parts true true h = absurd (cc)
parts false c h = absurd (cc)

neither : (b c : Bool) → b ≡ true → c ≡ false → not b || c ≡ false
neither true false h k = refl
neither true true h k = absurd (cc)
neither false c h k = absurd (cc)

-- what lies in a rectangle meets no more than it does
meets_less : (rects : List Rect) (r a : Rect) → Within r a → meets_one rects r ≡ false → meets_one rects a ≡ false
meets_less [] r a w h = refl
meets_less (p ∷ ps) r a w h =
    let both = parts (is_thin (intersection p r)) (meets_one ps r) h in
    neither (is_thin (intersection p a)) (meets_one ps a) (thinner p r a w both.0) (meets_less ps r a w both.1)

module _ {A : Type 0} (bounds : A → Rect) where
  left_out : (b : Bool) (a : A) (rest : List A) → b ≡ false → rest ≡ [] → ◌≡◌ {A = List A} (if b then a ∷ rest else rest) []
  left_out true a rest h k = absurd (cc)
  left_out false a rest h k = k

  within-join : (r a : Rect) (o : Option Rect) → IfSome (join_boxes box (Some a) o) (Within r) → Within r a × IfSome o (Within r)
  within-join r a None h = (h, tt)
  within-join r a (Some b) h = (within-first r a b h, within-second r a b h)

  outside : (rects : List Rect) (r : Rect) (items : List A) → IfSome (items_box bounds items) (Within r) → meets_one rects r ≡ false → items_touching bounds rects items ≡ []
  outside rects r [] h k = refl
  outside rects r (a ∷ items) h k =
      let both = within-join r (bounds a) (items_box bounds items) h in
      left_out (meets_one rects (bounds a)) a (items_touching bounds rects items) (meets_less rects r (bounds a) both.0 k) (outside rects r items both.1 k)

  none_there : (items : List A) → items_box bounds items ≡ None → items ≡ []
  none_there [] h = refl
  none_there (a ∷ items) h = absurd (some_there (bounds a) (items_box bounds items) h) where
    some_there : (r : Rect) (o : Option Rect) → join_boxes box (Some r) o ≡ None → ⊥
    some_there r None e = cc
    some_there r (Some b) e = cc

  -- where the box of all items meets no rectangle, no item does
  pub outside-box : (rects : List Rect) (r : Rect) (items : List A) → items_box bounds items ≡ Some r → meets_one rects r ≡ false → items_touching bounds rects items ≡ []
  outside-box rects r items e k = outside rects r items (rw e (within-itself r)) k

  pub outside-none : (rects : List Rect) (items : List A) → items_box bounds items ≡ None → items_touching bounds rects items ≡ []
  outside-none rects items e = ap (λ (xs : List A). items_touching bounds rects xs) (none_there items e)
