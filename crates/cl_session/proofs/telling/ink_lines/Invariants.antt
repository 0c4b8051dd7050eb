use Rattle.std.proofs.Common.{◌≡◌, ◌++◌, ◌-◌}
use Rattle.cl_application.specs.Panes.{panes_of}
use Rattle.cl_frame.specs.Frames.{marks_of_frame}
use Rattle.cl_frame.specs.Panes.{shown_panes}
use Rattle.cl_redisplay.specs.Shown.{digit_in, rows_from, shown_ink_rows}
use Rattle.cl_session.proofs.telling.ink_lines.Given as goal

abbrev pub invariant-loop-y : goal.invariant-loop-y
invariant-loop-y l =
    l.lines ++ rows_from digit_in (shown_panes (panes_of l.app) (marks_of_frame l.frame)) l.app.frame.width l.y (l.y-end - l.y)
    ≡ shown_ink_rows (shown_panes (panes_of l.app) (marks_of_frame l.frame)) l.app.frame.width l.y-end
