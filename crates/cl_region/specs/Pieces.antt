-- Rectangles that share no place.
use Rattle.std.specs.Prelude.{◌≡◌, ℤ, true, List, [], ◌∷◌}
use Rattle.cl_region.specs.declared.rects.Rect.{Rect}
use Rattle.cl_region.specs.Places.{one_holds, holds}

-- a rectangle holds a place
pub record IsPiece (r : Rect) : Type 0 where
  pub x : ℤ
  pub y : ℤ
  pub is_held : holds r x y ≡ true

-- no place is in the rectangle and in one of the list
pub record IsApart (r : Rect) (rs : List Rect) : Type 0 where
  pub not_both : (x y : ℤ) → holds r x y ≡ true → one_holds rs x y ≡ true → ⊥

-- no two share a place, and none is empty
abbrev pub ArePieces : List Rect → Type 0
ArePieces [] = Unit {0}
ArePieces (r ∷ rs) = IsPiece r × IsApart r rs × ArePieces rs

-- pieces that hold the places of the rectangles
pub record ArePiecesOf (rs ps : List Rect) : Type 0 where
  pub pieces : ArePieces ps
  pub places : (x y : ℤ) → one_holds ps x y ≡ one_holds rs x y
