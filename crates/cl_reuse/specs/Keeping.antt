-- Where an old update may be kept: its new opening and the old measures alone are looked at.
use Rattle.std.specs.Prelude.{◌≡◌, ◌==◌, ◌&&◌, nat_le, ℤ, ◌-ℤ◌, ◌+ℤ◌, int_le, Bool, true, false, is_some, List, [], ◌∷◌, Option, Some, None}
use Rattle.std.specs.Ordering.{is_eq}
use Rattle.cl_value.specs.Data.{Data, order_of}
use Rattle.cl_region.specs.Places.{move_rect}
use Rattle.cl_region.specs.declared.rects.Shift.{Shift}
use Rattle.cl_medium.specs.Ambients.{AmbientAt}
use Rattle.cl_medium.specs.Items.{Item, move_item}
use Rattle.cl_eval.specs.Outcome.{Outcome, Gives}
use Rattle.cl_record.specs.Heads.{HeadAt, MeasuresAt, Point, move_measures}
use Rattle.cl_record.specs.Marks.{Mark, move_marks}
use Rattle.cl_record.specs.Replays.{items_drawn}
use Rattle.cl_display.specs.Drawings.{DrawingAt, PartAt, is_in_range}
use Rattle.cl_display.specs.Sums.{lowest_of}
use Rattle.cl_display.specs.Updates.{KeyAt, measures_at}
use Rattle.cl_display.specs.Walks.{OpeningAt}

-- the same values
abbrev pub same_values : List Data → List Data → Bool
same_values [] [] = true
same_values (d ∷ ds) (e ∷ es) = is_eq (order_of d e) && same_values ds es
same_values ds es = false

-- both have a cache, of the same values
abbrev pub same_cache : (old new : Option (List Data)) → Bool
same_cache (Some ds) (Some es) = same_values ds es
same_cache old new = false

-- two numbers are the same
abbrev pub same_number : ℤ → ℤ → Bool
same_number a b = int_le a b && int_le b a

-- from an old start to a new one
abbrev pub shift_to : Point → AmbientAt → Shift
shift_to p a = record { dx = a.x -ℤ p.x; dy = a.y -ℤ p.y }

-- a margin that was used is moved as far across
abbrev pub margin_fits : Shift → Option ℤ → AmbientAt → Bool
margin_fits v None a = true
margin_fits v (Some x) a = same_number (x +ℤ v.dx) a.margin

-- an origin that was used is moved as far
abbrev pub origin_fits : Shift → Option Point → AmbientAt → Bool
origin_fits v None a = true
origin_fits v (Some p) a = same_number (p.x +ℤ v.dx) a.origin_x && same_number (p.y +ℤ v.dy) a.origin_y

-- the cost, the weight and the reach do not pass what is left at the opening
abbrev pub limits_fit : MeasuresAt → OpeningAt → Bool
limits_fit m o = nat_le m.cost o.budget && (nat_le m.weight o.weight && nat_le m.reach o.depth)

-- old measures fit an opening: the ink, the margin and the origin where they were used, the limits, and the range
abbrev pub measures_fit : Shift → MeasuresAt → OpeningAt → Bool
measures_fit v m o =
    (m.ink == o.ambient.ink) && (margin_fits v m.margin o.ambient
    && (origin_fits v m.origin o.ambient && (limits_fit m o && is_in_range (move_rect v m.extent))))

-- how far an old update is moved
abbrev pub shift_at : HeadAt → OpeningAt → Shift
shift_at h o = shift_to h.measures.start o.ambient

-- an old update may be kept at an opening
abbrev pub may_keep : HeadAt → OpeningAt → Bool
may_keep h o = same_cache h.cache o.cache && measures_fit (shift_at h o) h.measures o

-- what an old update drew, moved: with the extent that it says, and with a margin and an origin used where it says so
abbrev pub kept_part : Shift → HeadAt → List (Mark Item) → PartAt
kept_part v h inside = record {
  extent = move_rect v h.measures.extent;
  lowest = lowest_of (items_drawn (move_marks move_item v inside));
  margin_used = is_some h.measures.margin;
  origin_used = is_some h.measures.origin;
  marks = move_marks move_item v inside;
}

-- what an update that is kept says of itself: its new site, id and cache, and the old measures, moved
abbrev pub kept_head : Shift → KeyAt → HeadAt → HeadAt
kept_head v key h = record { site = key.site; id = key.id; cache = key.cache; measures = move_measures v h.measures }

-- a body that was drawn from there ended as an old update says of itself, moved, with the old marks, moved
pub record EndsAs (h : HeadAt) (inside : List (Mark Item)) (v : Shift) (start : AmbientAt) (o : Outcome DrawingAt) : Type 0 where
  pub end : DrawingAt
  pub is : o ≡ Gives end h.measures.cost h.measures.reach
  pub measures : measures_at start end h.measures.cost h.measures.reach ≡ move_measures v h.measures
  pub part : end.part ≡ kept_part v h inside
