use Rattle.std.proofs.Common.{sym, ◌∙◌}
use Rattle.cl_keys.proofs.Pointing.{found-at, passed-at}
use Rattle.cl_keys.proofs.gestures.pane_at.Goals as goal

pub returns-then-has_cell-clause-first : goal.returns-then-has_cell-clause-first
returns-then-has_cell-clause-first c =
    let panes = c.args.panes.now in let has = sym c.has_cell.ensures ∙ c.if-has_cell.true in
    let found = found-at c.args.column c.args.row panes c.loop-place.place c.in-Some.pane.now c.in-Some.ensures has in
    sym found ∙ c.loop-place.invariant

pub loop-place-preserved : goal.loop-place-preserved
loop-place-preserved c =
    let panes = c.args.panes.now in let has = sym c.has_cell.ensures ∙ c.if-has_cell.false in
    let passed = passed-at c.args.column c.args.row panes c.loop-place.place c.in-Some.pane.now c.in-Some.ensures has in
    sym passed ∙ c.loop-place.invariant
