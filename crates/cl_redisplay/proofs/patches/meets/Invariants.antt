use Rattle.cl_spans.specs.SpanRows.{spans_hold}
use Rattle.cl_redisplay.specs.Patches.{AreApartFrom}
use Rattle.cl_redisplay.proofs.patches.meets.Given as goal

-- no touched place of the rows so far lies in the rectangle
abbrev pub invariant-loop-row : goal.invariant-loop-row
invariant-loop-row l = AreApartFrom (spans_hold l.touched) l.row l.rect
