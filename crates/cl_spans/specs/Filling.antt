-- How rows are filled. So private functions go; no public call promises it.
use Rattle.std.specs.Prelude.{◌≡◌, ℕ, ℤ, ◌-ℤ◌, ◌≤ℤ◌, ◌<◌, unsigned_abs, Bool, true, false, not, ◌&&◌, if◌then◌else◌, List, [], ◌∷◌, slice_index_or}
use Rattle.std.specs.Global.{Vec}
use Rattle.cl_region.specs.declared.rects.Rect.{Rect}
use Rattle.cl_region.specs.Places.{is_between, is_thin}
use Rattle.cl_spans.specs.declared.runs.Span.{Span}
use Rattle.cl_spans.specs.SpanRows.{SpanRows, row_of, rows_in}
use Rattle.cl_spans.specs.Extending.{extended}

-- the spans at a place in the rows, and none past them
abbrev pub row_in : List (Vec Span) → ℕ → List Span
row_in vs i = slice_index_or (rows_in vs) i []

-- these rows, from a first row on
abbrev pub rows_from : ℤ → List (Vec Span) → SpanRows
rows_from first vs = record { first = first; rows = rows_in vs }

-- how many rows a clip has, and none where it is empty
abbrev pub row_count_of : Rect → ℕ
row_count_of clip = if is_thin clip then 0 else unsigned_abs (clip.y2 -ℤ clip.y1)

-- the first of the rectangles, if there is one, begins no further to the left than this column
abbrev pub BeginFrom : ℤ → List Rect → Type 0
BeginFrom x [] = Unit {0}
BeginFrom x (r ∷ rs) = x ≤ℤ r.x1

-- each rectangle begins no further to the left than the one before
abbrev pub IsAscending : List Rect → Type 0
IsAscending [] = Unit {0}
IsAscending (r ∷ rs) = BeginFrom r.x1 rs × IsAscending rs

-- each row of a part, unless it is empty, is one of so many rows from a first row on
pub record IsWithin (first : ℤ) (count : ℕ) (part : Rect) : Type 0 where
  pub from : (y : ℤ) → is_thin part ≡ false → is_between part.y1 y part.y2 ≡ true → first ≤ℤ y
  pub below : (y : ℤ) → is_thin part ≡ false → is_between part.y1 y part.y2 ≡ true → unsigned_abs (y -ℤ first) < count

-- the part, unless it is empty, has the row
abbrev pub has_row : Rect → ℤ → Bool
has_row part y = not (is_thin part) && is_between part.y1 y part.y2

-- the columns of a part
abbrev pub columns_of : Rect → Span
columns_of part = record { x1 = part.x1; x2 = part.x2 }

-- each row of the part has its columns behind the spans that were there, and the other rows are as they were
pub record IsAdded (part : Rect) (old new : SpanRows) : Type 0 where
  pub rows : (y : ℤ) → row_of new y ≡ (if has_row part y then extended (row_of old y) (columns_of part) else row_of old y)
