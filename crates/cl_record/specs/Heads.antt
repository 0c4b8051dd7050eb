-- What an update says of itself.
use Rattle.std.specs.Prelude.{ℕ, ℤ, ◌+ℤ◌, List, Option, Some, None, if◌then◌else◌, refl}
use Rattle.std.specs.Coded.{Coded, code_by, coded_list, coded_option, coded_ℕ, coded_ℤ, coded×}
use Rattle.cl_value.specs.Data.{Data, data_code}
use Rattle.cl_region.specs.Places.{move_rect}
use Rattle.cl_region.specs.declared.rects.Rect.{Rect}
use Rattle.cl_region.specs.declared.rects.Shift.{Shift}
use Rattle.cl_record.specs.declared.heads.Measures.{Measures}
use Rattle.cl_syntax.specs.UpdateTree.{site_code}
use Rattle.cl_syntax.specs.declared.sites.Site.{Site}

-- a cursor or an origin
pub record Point : Type 0 where
  pub x : ℤ
  pub y : ℤ

-- what the evaluation of the body came to: the forms entered and the levels below it, the weight of the marks inside, the extent,
-- the cursor and the ink at the start, the margin and the origin there if they were used, and the cursor at the end
pub record MeasuresAt : Type 0 where
  pub cost : ℕ
  pub reach : ℕ
  pub weight : ℕ
  pub extent : Rect
  pub start : Point
  pub ink : ℕ
  pub margin : Option ℤ
  pub origin : Option Point
  pub end : Point

-- the form that made it, the id, the values of the cache, if there is one, and the measures
pub record HeadAt : Type 0 where
  pub site : Site
  pub id : Data
  pub cache : Option (List Data)
  pub measures : MeasuresAt

-- the measures of the program; a margin and an origin that were not used are no part of them
abbrev pub measures_of : Measures → MeasuresAt
measures_of m = record {
  cost = m.cost;
  reach = m.reach;
  weight = m.weight;
  extent = m.extent;
  start = record { x = m.start.x; y = m.start.y };
  ink = m.start.ink;
  margin = if m.margin_used then Some m.start.margin else None;
  origin = if m.origin_used then Some (record { x = m.start.origin_x; y = m.start.origin_y }) else None;
  end = record { x = m.end_x; y = m.end_y };
}

-- ---- moved

-- a cursor or an origin elsewhere
abbrev pub move_point : Shift → Point → Point
move_point v p = record { x = p.x +ℤ v.dx; y = p.y +ℤ v.dy }

-- a margin elsewhere, if there is one
abbrev pub move_margin : Shift → Option ℤ → Option ℤ
move_margin v None = None
move_margin v (Some x) = Some (x +ℤ v.dx)

-- an origin elsewhere, if there is one
abbrev pub move_origin : Shift → Option Point → Option Point
move_origin v None = None
move_origin v (Some p) = Some (move_point v p)

-- the same measures elsewhere
abbrev pub move_measures : Shift → MeasuresAt → MeasuresAt
move_measures v m = record m {
  extent = move_rect v m.extent;
  start = move_point v m.start;
  margin = move_margin v m.margin;
  origin = move_origin v m.origin;
  end = move_point v m.end;
}

-- the extent, the cursors, and a used margin and origin are elsewhere, all else is the same
abbrev pub move_head : Shift → HeadAt → HeadAt
move_head v h = record h { measures = move_measures v h.measures }

-- ---- how the logic stores heads

-- how the logic stores a point
abbrev pub point_code : Coded Point
point_code = code_by (ℤ × ℤ) (coded× coded_ℤ coded_ℤ) (λ q. (q.x, q.y)) (λ p. record { x = p.0; y = p.1 }) (λ _. refl)

-- how the logic stores a rectangle
abbrev pub rect_code : Coded Rect
rect_code =
    code_by ((ℤ × ℤ) × (ℤ × ℤ)) (coded× (coded× coded_ℤ coded_ℤ) (coded× coded_ℤ coded_ℤ)) (λ r. ((r.x1, r.y1), (r.x2, r.y2)))
    (λ p. record { x1 = p.0.0; y1 = p.0.1; x2 = p.1.0; y2 = p.1.1 }) (λ _. refl)

-- the numbers of what was measured
abbrev pub Numbers : Type 0
Numbers = ℕ × (ℕ × (ℕ × ℕ))

-- how the logic stores the numbers
abbrev pub numbers_code : Coded Numbers
numbers_code = coded× coded_ℕ (coded× coded_ℕ (coded× coded_ℕ coded_ℕ))

-- what stood before and after
abbrev pub States : Type 0
States = Point × (Point × (Option ℤ × Option Point))

-- how the logic stores what stood before and after
abbrev pub states_code : Coded States
states_code = coded× point_code (coded× point_code (coded× (coded_option coded_ℤ) (coded_option point_code)))

-- how the logic stores what was measured
abbrev pub measures_code : Coded MeasuresAt
measures_code =
    code_by (Numbers × (Rect × States)) (coded× numbers_code (coded× rect_code states_code))
    (λ m. ((m.cost, (m.reach, (m.weight, m.ink))), (m.extent, (m.start, (m.end, (m.margin, m.origin))))))
    (λ p. record {
      cost = p.0.0;
      reach = p.0.1.0;
      weight = p.0.1.1.0;
      ink = p.0.1.1.1;
      extent = p.1.0;
      start = p.1.1.0;
      end = p.1.1.1.0;
      margin = p.1.1.1.1.0;
      origin = p.1.1.1.1.1;
    }) (λ _. refl)

-- how the logic stores a head
abbrev pub head_code : Coded HeadAt
head_code =
    code_by (Site × (Data × (Option (List Data) × MeasuresAt)))
    (coded× site_code (coded× data_code (coded× (coded_option (coded_list data_code)) measures_code)))
    (λ h. (h.site, (h.id, (h.cache, h.measures))))
    (λ p. record { site = p.0; id = p.1.0; cache = p.1.1.0; measures = p.1.1.1 }) (λ _. refl)
