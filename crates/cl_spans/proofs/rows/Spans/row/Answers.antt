use Rattle.std.proofs.Common.{◌<◌, ◌≡◌, length, subst, sym, ◌∙◌, arith}
use Rattle.std.proofs.lemmas.Bool.{ltb-true}
use Rattle.cl_spans.specs.SpanRows.{rows_in}
use Rattle.cl_spans.specs.Runs.{AreRuns}
use Rattle.cl_spans.specs.Filling.{row_in}
use Rattle.cl_spans.proofs.RowLemmas.{row_at, runs_at}
use Rattle.cl_spans.proofs.rows.Spans.row.Goals as goal

pub returns-in-Some-clause-runs : goal.returns-in-Some-clause-runs
returns-in-Some-clause-runs c =
    let vs = c.self.inside.rows.items in
    let i = c.abs_diff.result in
    let within : i < length vs = omega (arith, ltb-true _ _ (sym c.in-Some.ensures.lookup.0)) in
    let there : row_in vs i ≡ c.in-Some.row.now.items =
    row_at vs i c.in-Some.row.now within (rw (c.deref.ensures.value) at c.in-Some.ensures.lookup.1) in
    subst AreRuns (there ∙ sym c.as_slice.ensures.value) (runs_at (rows_in vs) i c.self.invariant)
