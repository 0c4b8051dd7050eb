-- How a span is put behind others. So a private function goes; no public call promises it.
use Rattle.std.specs.Prelude.{int_le, if◌then◌else◌, List, [], ◌∷◌}
use Rattle.std.specs.Int.{int_max}
use Rattle.cl_spans.specs.declared.runs.Span.{Span}

-- the spans with one more, which makes one with the last where it begins no further than that ends
abbrev pub extended : List Span → Span → List Span
extended [] s = s ∷ []
extended (a ∷ []) s = if int_le s.x1 a.x2 then (record a { x2 = int_max a.x2 s.x2 }) ∷ [] else a ∷ s ∷ []
extended (a ∷ b ∷ rest) s = a ∷ extended (b ∷ rest) s
