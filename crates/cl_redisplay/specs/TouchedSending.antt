-- What is sent of spans of a row. So a private function goes; no public call promises it.
use Rattle.std.specs.Prelude.{ℕ, ◌+◌, ◌-◌, List, [], ◌∷◌, ◌++◌, map}
use Rattle.cl_medium.specs.Items.{Painted}
use Rattle.cl_outside.specs.Operations.{Op}
use Rattle.cl_raster.specs.Raster.{clip_to}
use Rattle.cl_spans.specs.declared.runs.Span.{Span}
use Rattle.cl_redisplay.specs.Operations.{Run, row_cells, run_op, runs_from}

-- the runs of the cells of each span, one span after another, where columns are counted from `left` on and at most so many are shown
abbrev pub span_runs : (cell : ℕ → Painted) → (left width : ℕ) → List Span → List Run
span_runs cell left width [] = []
span_runs cell left width (s ∷ rest) =
    runs_from cell (left + clip_to s.x1 width) (clip_to s.x2 width - clip_to s.x1 width) ++ span_runs cell left width rest

-- the operations that show the cells of spans of row y
abbrev pub span_ops : (cell : (x y : ℕ) → Painted) → (left width y : ℕ) → List Span → List Op
span_ops cell left width y spans = map (run_op y) (span_runs (row_cells cell y) left width spans)
