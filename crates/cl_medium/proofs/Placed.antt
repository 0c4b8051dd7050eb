-- Areas from the cursor and the origin.
use Rattle.std.proofs.Common.{◌≡◌, ℕ, zero, suc, List, ℤ, pos, negsuc, ◌+ℤ◌, ◌≤ℤ◌, ◌<ℤ◌, refl, arith}
use mir.Syntax.{w64}
use mir.Val.{of_z}
use Rattle.std.proofs.lemmas.Int.{ints}
use Rattle.cl_region.specs.Places.{IsNear}
use Rattle.cl_region.specs.declared.rects.Shift.{Shift}
use Rattle.cl_medium.specs.declared.areas.Area.{Area}
use Rattle.cl_medium.specs.Ambients.{AmbientAt, CursorMoved, IsAmbient, OriginMoved}
use Rattle.cl_medium.specs.Drawing.{shape_area, text_area, text_leaf}
use Rattle.cl_medium.specs.ItemLaws.{last_two_swap}
use Rattle.cl_medium.specs.Items.{IsArea, move_area, move_item}
use Rattle.cl_medium.proofs.Sizes.{area_is}

pub placed_shape : (m : AmbientAt) (x y w h p q k l : ℤ) → IsAmbient m → pos 0 ≤ℤ w → pos 0 ≤ℤ h
    → p ≡ m.origin_x +ℤ x → q ≡ m.origin_y +ℤ y → k ≡ w → l ≡ h
    → IsNear (m.origin_x +ℤ x) → IsNear ((m.origin_x +ℤ x) +ℤ w) → IsNear (m.origin_y +ℤ y) → IsNear ((m.origin_y +ℤ y) +ℤ h)
    → (◌≡◌ {A = Area} (record { x = p; y = q; width = k; height = l; ink = m.ink }) (shape_area m x y w h)) × IsArea (shape_area m x y w h)
placed_shape m x y w h p q k l am pw ph a b d e x1 x2 y1 y2 = (
  area_is (shape_area m x y w h) p q k l a b d e,
  record { range = record { x1 = x1; y1 = y1; x2 = x2; y2 = y2 }; width = pw; height = ph; ink = am.ink },
)

pub placed_text : (m : AmbientAt) (n : ℕ) (p q k l : ℤ) → IsAmbient m → p ≡ m.x → q ≡ m.y → k ≡ pos n → l ≡ pos 1
    → IsNear (m.x +ℤ pos n) → IsNear (m.y +ℤ pos 1)
    → (◌≡◌ {A = Area} (record { x = p; y = q; width = k; height = l; ink = m.ink }) (text_area m n)) × IsArea (text_area m n)
placed_text m n p q k l am a b d e x2 y2 = (
  area_is (text_area m n) p q k l a b d e,
  record { range = record { x1 = am.x; y1 = am.y; x2 = x2; y2 = y2 }; width = omega (arith, ints); height = omega (arith, ints); ink = am.ink },
)

pub shapes_move : (v : Shift) (a b : AmbientAt) (x y w h : ℤ) → OriginMoved v a b → shape_area b x y w h ≡ move_area v (shape_area a x y w h)
shapes_move v a b x y w h m = rw (m.x, m.y, m.ink, last_two_swap a.origin_x v.dx x, last_two_swap a.origin_y v.dy y) refl

pub text_moves : (v : Shift) (a b : AmbientAt) → CursorMoved v a b → (text : List ℕ) → text_leaf b text ≡ move_item v (text_leaf a text)
text_moves v a b m text = rw (m.x, m.y, m.ink) refl

-- the cursor at the end of a text
pub written : (m a : AmbientAt) (z : ℤ) (n : ℕ) → m ≡ a → z ≡ a.x +ℤ pos n
    → ◌≡◌ {A = AmbientAt} (record { x = z; y = m.y; margin = m.margin; origin_x = m.origin_x; origin_y = m.origin_y; ink = m.ink }) (record a { x = a.x +ℤ pos n })
written m a z n e f = rw (f, e) refl

pub is_positive : (z : ℤ) → pos 0 ≤ℤ z → (of_z w64 z ≡ 0 → ⊥) → pos 0 <ℤ z
is_positive (pos zero) h k = absurd (k refl)
is_positive (pos (suc n)) h k = omega (arith, ints)
is_positive (negsuc n) h k = omega (arith, ints, h)
