-- The state from which items are drawn.
use Rattle.std.specs.Prelude.{◌≡◌, ℕ, ◌≤◌, ℤ, pos, ◌+ℤ◌, Bool, true, false, Option, Some, None}
use Rattle.std.specs.Int.{int_max}
use Rattle.cl_outside.specs.Sizes.{MAX_INK}
use Rattle.cl_region.specs.Places.{IsNear}
use Rattle.cl_region.specs.declared.rects.Shift.{Shift}

-- the cursor, the left margin, the origin and the ink
pub record AmbientAt : Type 0 where
  pub x : ℤ
  pub y : ℤ
  pub margin : ℤ
  pub origin_x : ℤ
  pub origin_y : ℤ
  pub ink : ℕ

-- every coordinate is near, and the ink is one of eight
pub record IsAmbient (a : AmbientAt) : Type 0 where
  pub x : IsNear a.x
  pub y : IsNear a.y
  pub margin : IsNear a.margin
  pub origin_x : IsNear a.origin_x
  pub origin_y : IsNear a.origin_y
  pub ink : a.ink ≤ MAX_INK

-- that of the start of a pane
abbrev pub ambient_start : AmbientAt
ambient_start = record { x = pos 0; y = pos 0; margin = pos 0; origin_x = pos 0; origin_y = pos 0; ink = 0 }

-- to the margin of the next row
abbrev pub after_newline : AmbientAt → AmbientAt
after_newline a = record a { x = a.margin; y = a.y +ℤ pos 1 }

-- the margin so many columns further to the right
abbrev pub after_indent : AmbientAt → ℤ → AmbientAt
after_indent a n = record a { margin = a.margin +ℤ n }

-- the origin at the cursor
abbrev pub in_room : AmbientAt → AmbientAt
in_room a = record a { origin_x = a.x; origin_y = a.y }

-- the origin of before, and the cursor at the margin of the row of the bottom, but not above where it was before
abbrev pub after_room : AmbientAt → AmbientAt → ℤ → AmbientAt
after_room a before bottom =
    record a { x = a.margin; y = int_max bottom before.y; origin_x = before.origin_x; origin_y = before.origin_y }

-- where the number is near it is as after, and else as before
abbrev pub MovesWhereNear : ℤ → (before after now : AmbientAt) → Bool → Type 0
MovesWhereNear z before after now true = IsNear z × (now ≡ after)
MovesWhereNear z before after now false = (IsNear z → ⊥) × (now ≡ before)

-- a sum, where it is near
abbrev pub IsNearSum : ℤ → Option ℤ → Type 0
IsNearSum z None = IsNear z → ⊥
IsNearSum z (Some sum) = (sum ≡ z) × IsNear z

-- the second has its cursor elsewhere, and the same ink
pub record CursorMoved (v : Shift) (a b : AmbientAt) : Type 0 where
  pub x : b.x ≡ a.x +ℤ v.dx
  pub y : b.y ≡ a.y +ℤ v.dy
  pub ink : b.ink ≡ a.ink

-- the second has its origin elsewhere, and the same ink
pub record OriginMoved (v : Shift) (a b : AmbientAt) : Type 0 where
  pub x : b.origin_x ≡ a.origin_x +ℤ v.dx
  pub y : b.origin_y ≡ a.origin_y +ℤ v.dy
  pub ink : b.ink ≡ a.ink
