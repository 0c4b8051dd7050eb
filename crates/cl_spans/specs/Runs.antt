-- Spans of a row, and the columns that they hold.
use Rattle.std.specs.Prelude.{ℤ, ◌<ℤ◌, Bool, false, ◌||◌, List, [], ◌∷◌}
use Rattle.cl_region.specs.Places.{is_between}
use Rattle.cl_spans.specs.declared.runs.Span.{Span}

-- one of the spans holds the column
abbrev pub row_holds : List Span → ℤ → Bool
row_holds [] x = false
row_holds (s ∷ rest) x = is_between s.x1 x s.x2 || row_holds rest x

-- the first of the spans, if there is one, begins behind this column
abbrev pub BeginAfter : ℤ → List Span → Type 0
BeginAfter x [] = Unit {0}
BeginAfter x (s ∷ rest) = x <ℤ s.x1

-- maximal runs from left to right: no span is empty, and the column behind a span is free
abbrev pub AreRuns : List Span → Type 0
AreRuns [] = Unit {0}
AreRuns (s ∷ rest) = (s.x1 <ℤ s.x2) × BeginAfter s.x2 rest × AreRuns rest
