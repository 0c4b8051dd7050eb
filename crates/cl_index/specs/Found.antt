-- The places, in a list of rectangles, of those that share a place with one or hold a place.
use Rattle.std.specs.Prelude.{ℕ, ◌+◌, ℤ, Bool, not, if◌then◌else◌, List, [], ◌∷◌}
use Rattle.cl_region.specs.declared.rects.Rect.{Rect}
use Rattle.cl_region.specs.Places.{intersection, is_thin, holds}

-- two rectangles share a place
abbrev pub overlaps : Rect → Rect → Bool
overlaps p r = not (is_thin (intersection p r))

-- a rectangle holds the place in this column and row
abbrev pub is_at : (x y : ℤ) → Rect → Bool
is_at x y r = holds r x y

-- where the first of the list has the place n: the places of the rectangles that pass, ascending
abbrev pub places_from : (Rect → Bool) → ℕ → List Rect → List ℕ
places_from passes n [] = []
places_from passes n (r ∷ rs) = if passes r then n ∷ places_from passes (n + 1) rs else places_from passes (n + 1) rs

-- the places in the list, counted from 0, of the rectangles that pass, ascending
abbrev pub places_where : (Rect → Bool) → List Rect → List ℕ
places_where passes rs = places_from passes 0 rs
