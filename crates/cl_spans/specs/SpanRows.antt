-- Rows of spans from a first row on.
use Rattle.std.specs.Prelude.{ℤ, ◌-ℤ◌, int_lt, unsigned_abs, Bool, if◌then◌else◌, List, [], ◌∷◌, map, slice_index_or}
use Rattle.std.specs.Global.{Vec}
use Rattle.cl_spans.specs.declared.runs.Span.{Span}
use Rattle.cl_spans.specs.Runs.{AreRuns, row_holds}

-- the spans of each row, from the first row on
pub record SpanRows : Type 0 where
  pub first : ℤ
  pub rows : List (List Span)

-- the spans of each row that is kept
abbrev pub rows_in : List (Vec Span) → List (List Span)
rows_in vs = map (λ v. v.items) vs

-- the spans of row y, and none where there is no such row
abbrev pub row_of : SpanRows → ℤ → List Span
row_of s y = if int_lt y s.first then [] else slice_index_or s.rows (unsigned_abs (y -ℤ s.first)) []

-- a span of row y holds the column x
abbrev pub spans_hold : SpanRows → ℤ → ℤ → Bool
spans_hold s x y = row_holds (row_of s y) x

-- each row is of maximal runs
abbrev pub AllAreRuns : List (List Span) → Type 0
AllAreRuns [] = Unit {0}
AllAreRuns (row ∷ rows) = AreRuns row × AllAreRuns rows
