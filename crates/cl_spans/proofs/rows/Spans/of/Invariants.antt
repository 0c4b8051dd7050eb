use Rattle.std.proofs.Common.{◌≡◌, length, take, drop}
use Rattle.cl_spans.specs.Filling.{row_count_of, rows_from}
use Rattle.cl_spans.proofs.FilledLemmas.{IsFilled}
use Rattle.cl_spans.proofs.rows.Spans.of.Given as goal

abbrev pub invariant-loop-rect : goal.invariant-loop-rect
invariant-loop-rect l =
    (length l.rows.items ≡ row_count_of l.clip)
    × IsFilled l.clip (take l.rect-index l.rect-items) (drop l.rect-index l.rect-items) (rows_from l.clip.y1 l.rows.items)
