use Rattle.cl_spans.specs.SpanRows.{SpanRows, rows_in}
use Rattle.cl_spans.proofs.RowLemmas.{none_held_in_none, none_in_none_held}
use Rattle.cl_spans.proofs.rows.Spans.is_empty.Goals as goal

pub returns : goal.returns
returns c =
    let s : SpanRows = record { first = c.self.inside.first; rows = rows_in c.self.inside.rows.items } in
    let seen = rw c.as_slice.ensures.value at c.are_empty.ensures in
    rw (← c.self.view_is)
    ((λ h. none_held_in_none s (seen.0 h)), (λ f. seen.1 (none_in_none_held s c.self.invariant f)))
