use Rattle.cl_spans.proofs.AddLemmas.{IsAddedUpTo}
use Rattle.cl_spans.proofs.rows.add.Given as goal

abbrev pub invariant-loop-y : goal.invariant-loop-y
invariant-loop-y l = IsAddedUpTo l.part l.first l.y l.fn.rows.items l.rows.items
