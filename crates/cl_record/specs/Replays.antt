-- What a replay paints: of the items in a history those that share a place with a region, in order.
use Rattle.std.specs.Prelude.{◌≡◌, ℤ, Bool, false, ◌||◌, not, if◌then◌else◌, List, [], ◌∷◌, Option, unwrap_or}
use Rattle.cl_medium.specs.Items.{Painted}
use Rattle.cl_region.specs.Places.{intersection, is_thin}
use Rattle.cl_region.specs.declared.rects.Rect.{Rect}
use Rattle.cl_record.specs.Marks.{Mark, open_update, close, draw, open_presentation}

-- the rectangle shares a place with one of the list
abbrev pub meets_one : List Rect → Rect → Bool
meets_one [] r = false
meets_one (p ∷ ps) r = not (is_thin (intersection p r)) || meets_one ps r

module _ {A : Type 0} where
  -- the items that marks draw
  abbrev pub items_drawn : List (Mark A) → List A
  items_drawn [] = []
  items_drawn (draw a ∷ ms) = a ∷ items_drawn ms
  items_drawn (open_presentation l ∷ ms) = items_drawn ms
  items_drawn (open_update h ∷ ms) = items_drawn ms
  items_drawn (close ∷ ms) = items_drawn ms

  -- those items whose bounds share a place with one of the rectangles
  abbrev pub items_touching : (A → Rect) → List Rect → List A → List A
  items_touching bounds rects [] = []
  items_touching bounds rects (a ∷ items) =
      if meets_one rects (bounds a) then a ∷ items_touching bounds rects items else items_touching bounds rects items

  -- the cell of the last item that paints the place, else the one that was there
  abbrev pub cell_after : (A → ℤ → ℤ → Option Painted) → List A → (x y : ℤ) → Painted → Painted
  cell_after cell [] x y under = under
  cell_after cell (a ∷ items) x y under = cell_after cell items x y (unwrap_or (cell a x y) under)

  -- a canvas shows the same places; each of them has the cell of the last of the items that paints it, and every other one the cell
  -- that it had; what the canvas keeps is kept
  pub record Paints {K : Type 0} (shows : K → ℤ → ℤ → Bool) (at : K → ℤ → ℤ → Painted) (keeps : K → K → Type 0)
      (cell : A → ℤ → ℤ → Option Painted) (old new : K) (items : List A) : Type 0 where
    pub kept : keeps old new
    pub same_places : (x y : ℤ) → shows new x y ≡ shows old x y
    pub cells : (x y : ℤ) → at new x y ≡ (if shows old x y then cell_after cell items x y (at old x y) else at old x y)
