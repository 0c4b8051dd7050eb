use Rattle.std.proofs.Common.{◌≡◌, ℕ, [], length}
use Rattle.cl_spans.specs.Filling.{row_in}
use Rattle.cl_spans.proofs.rows.empty_rows.Given as goal

abbrev pub invariant-loop-i : goal.invariant-loop-i
invariant-loop-i l = (length l.rows.items ≡ l._i) × ((i : ℕ) → row_in l.rows.items i ≡ [])
