use Rattle.std.proofs.Common.{◌≡◌, ◌∙◌, List, None, Option, ap, subst, sym}
use Rattle.cl_outside.specs.Operations.{Op, ops_bytes}
use Rattle.cl_redisplay.proofs.TouchedPictures.{touched-whole}
use Rattle.cl_redisplay.specs.Operations.{pane_ops}
use Rattle.cl_redisplay.specs.Paint.{pane_cell}
use Rattle.cl_redisplay.specs.Touching.{touched_pane_ops}
use Rattle.cl_spans.specs.SpanRows.{SpanRows}
use Rattle.cl_frame.specs.Damages.{damage_holds}
use Rattle.cl_frame.specs.Panes.{marks_in, marks_of_pane}
use Rattle.cl_frame.specs.Sending.{SendsPane, wire_of}
use Rattle.cl_frame.proofs.DamagedPanes.{none-of}
use Rattle.cl_frame.proofs.frames.Frame.show.Goals as goal

pub returns-in_default-clause-bytes : goal.returns-in_default-clause-bytes
returns-in_default-clause-bytes g c =
    let pane = c.args.shown.now.pane in
    let marks = marks_in (marks_of_pane pane) in
    let none : c.args.shown.now.damage ≡ None = none-of c.args.shown.now.damage c.in_default.not-Some in
    let whole : pane_ops pane.area marks ≡ touched_pane_ops pane.area marks (damage_holds c.args.shown.now.damage) =
    sym (ap (λ (d : Option SpanRows). touched_pane_ops pane.area marks (damage_holds d)) none ∙ touched-whole (pane_cell pane.area marks) pane.area) in
    let from = wire_of (g.D.Device.wire c.args.device.now) (g.D.Device.faults c.args.device.now) (g.D.Device.lent c.args.device.now).told in
    let to = wire_of (g.D.Device.wire c.show_whole.new.device) (g.D.Device.faults c.show_whole.new.device) (g.D.Device.lent c.show_whole.new.device).told in
    subst (λ (ops : List Op). SendsPane c.args.self.now.screen.stale c.show_whole.new.self.screen.stale from to (ops_bytes ops)) whole c.show_whole.ensures.bytes
