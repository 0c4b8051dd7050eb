-- How many rectangles of a list are looked at for all that share a place with one: by the boxes of its halves, of their halves, and so on.
use Rattle.std.specs.Prelude.{ℕ, zero, suc, pos, ◌+◌, ◌/◌, nat_le, if◌then◌else◌, List, [], ◌∷◌, length, take, drop}
use Rattle.cl_region.specs.declared.rects.Rect.{Rect}
use Rattle.cl_region.specs.Places.{box, is_thin}
use Rattle.cl_index.specs.declared.trees.TheConstants.{FEW}
use Rattle.cl_index.specs.Found.{overlaps}

-- the least box of both, to which one without places adds nothing
abbrev pub joined_box : Rect → Rect → Rect
joined_box a b = if is_thin a then b else if is_thin b then a else box a b

-- the least box of a first one and of all
abbrev pub box_from : Rect → List Rect → Rect
box_from a [] = a
box_from a (r ∷ rs) = box_from (joined_box a r) rs

-- a rectangle without places
abbrev pub empty_rect : Rect
empty_rect = record { x1 = pos 0; y1 = pos 0; x2 = pos 0; y2 = pos 0 }

-- the least box of all
abbrev pub box_in : List Rect → Rect
box_in rs = box_from empty_rect rs

-- where a list is halved at most d times: none where the box of all shares no place with p, all where they are few, and else those of both halves
abbrev pub looked_in : Rect → ℕ → List Rect → ℕ
looked_in p zero rs = 0
looked_in p (suc d) rs =
    if overlaps p (box_in rs)
    then (if nat_le (length rs) FEW then length rs else looked_in p d (take (length rs / 2) rs) + looked_in p d (drop (length rs / 2) rs))
    else 0
