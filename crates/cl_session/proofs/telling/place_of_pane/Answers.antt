use Rattle.std.proofs.Common.{◌∙◌, sym}
use Rattle.cl_application.specs.Panes.{panes_of}
use Rattle.cl_frame.proofs.DeclaredPanes.{declared_pane}
use Rattle.cl_session.specs.Telling.{is_pane_named}
use Rattle.cl_session.proofs.TellingLemmas.{found_at, named_as, passed_at}
use Rattle.cl_session.proofs.telling.place_of_pane.Goals as goal

pub returns-then-eq_ignore_ascii_case : goal.returns-then-eq_ignore_ascii_case
returns-then-eq_ignore_ascii_case c =
    sym (found_at (is_pane_named c.args.name.now) (panes_of c.args.app.now) c.loop-place.place c.in-Some.pane.now
    (declared_pane c.args.app.now.frame.panes c.loop-place.place c.in-Some.pane.now c.in-Some.ensures)
    (sym (named_as c.eq_ignore_ascii_case.result c.args.name.now c.as_slice.result.now c.in-Some.pane.now c.as_slice.ensures c.eq_ignore_ascii_case.ensures.test)
    ∙ c.if-eq_ignore_ascii_case.true))
    ∙ c.loop-place.invariant

pub loop-place-preserved : goal.loop-place-preserved
loop-place-preserved c =
    sym (passed_at (is_pane_named c.args.name.now) (panes_of c.args.app.now) c.loop-place.place c.in-Some.pane.now
    (declared_pane c.args.app.now.frame.panes c.loop-place.place c.in-Some.pane.now c.in-Some.ensures)
    (sym (named_as c.eq_ignore_ascii_case.result c.args.name.now c.as_slice.result.now c.in-Some.pane.now c.as_slice.ensures c.eq_ignore_ascii_case.ensures.test)
    ∙ c.if-eq_ignore_ascii_case.false))
    ∙ c.loop-place.invariant
