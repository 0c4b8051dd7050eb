use Rattle.std.proofs.Common.{◌≡◌, ℕ, [], ◌<◌}
use Rattle.cl_spans.specs.Filling.{row_in}
use Rattle.cl_spans.proofs.rows.are_empty.Given as goal

abbrev pub invariant-loop-row : goal.invariant-loop-row
invariant-loop-row l = (i : ℕ) → i < l.row-index → row_in l.rows i ≡ []
