use Rattle.std.proofs.Common.{◌≡◌, ◌∙◌, append_assoc}
use Rattle.cl_application.specs.Panes.{panes_of}
use Rattle.cl_frame.specs.Frames.{marks_of_frame}
use Rattle.cl_frame.specs.Panes.{shown_panes}
use Rattle.cl_redisplay.specs.Shown.{glyph_in, shown_row}
use Rattle.cl_redisplay.proofs.ShownRows.{rows_from-next}
use Rattle.cl_session.proofs.TellingLemmas.{row_told}
use Rattle.cl_session.proofs.telling.frame_lines.Goals as goal

pub loop-y-preserved : goal.loop-y-preserved
loop-y-preserved c =
    let panes = shown_panes (panes_of c.args.app.now) (marks_of_frame c.args.frame.now) in
    let text : c.in_ok-from_slice.field-0 ≡ shown_row panes c.args.app.now.frame.width c.loop-y.y =
    c.in_ok-from_slice.ensures ∙ row_told c.args.app.now c.args.frame.now c.loop-y.y c.row.result.now c.requires c.row.ensures in
    rw (
      c.in_ok-push.ensures.ok,
      append_assoc,
      text,
      ← rows_from-next glyph_in panes c.args.app.now.frame.width c.loop-y.y c.args.app.now.frame.height c.loop-y-test.true,
    )
    c.loop-y.invariant
