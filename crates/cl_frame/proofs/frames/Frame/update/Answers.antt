use Rattle.std.proofs.Common.{◌∙◌, ap, not, subst, sym}
use Rattle.cl_outside.specs.Operations.{mended, ops_bytes}
use Rattle.cl_redisplay.specs.Operations.{redraw_ops}
use Rattle.cl_redisplay.specs.Paint.{cell_at}
use Rattle.cl_redisplay.specs.Screens.{is_fault}
use Rattle.cl_frame.specs.Frames.{is_stale_under, marks_of_frame}
use Rattle.cl_frame.specs.Ground.{ground_of}
use Rattle.cl_frame.specs.States.{state_of}
use Rattle.cl_frame.specs.Sending.{SendsOn, wire_of}
use Rattle.cl_frame.proofs.UpdatedFrames.{sends-redraw, shows-frame, shows-same, stays-fresh, stays-stale}
use Rattle.cl_frame.proofs.frames.Frame.update.Goals as goal

pub returns-then-redraws-clause-bytes : goal.returns-then-redraws-clause-bytes
returns-then-redraws-clause-bytes g c =
    let redraws = ap (is_stale_under c.args.which) (sym c.stale.ensures) ∙ (sym c.redraws-redraws.ensures ∙ c.if-redraws.true) in
    let mid = c.settle-painted.new.self in
    let stale = stays-stale _ mid.screen.stale c.settle-painted.result c.settle-painted.ensures.stale redraws in
    let from = wire_of (g.D.Device.wire c.args.device.now) (g.D.Device.faults c.args.device.now) (g.D.Device.lent c.args.device.now).told in
    let to = wire_of (g.D.Device.wire c.refresh.new.device) (g.D.Device.faults c.refresh.new.device) (g.D.Device.lent c.refresh.new.device).told in
    sends-redraw (ground_of g.T.Types.holds g.T.Types.presents g.T.Types.reads g.T.Types.hierarchy c.args.program.now) c.args.which (state_of c.args.state.now) c.args.self.now.screen.stale
    (g.D.Device.broken c.args.device.now) (marks_of_frame c.args.self.now)
    mid c.refresh.new.self (not (is_fault c.refresh.result)) from to redraws c.settle-painted.ensures.frame c.refresh.ensures.panes
    (subst (λ (d : g.row.D.Denot). SendsOn (not (is_fault c.refresh.result)) (wire_of (g.D.Device.wire d) (g.D.Device.faults d) (g.D.Device.lent d).told)
    (wire_of (g.D.Device.wire c.refresh.new.device) (g.D.Device.faults c.refresh.new.device) (g.D.Device.lent c.refresh.new.device).told)
    (mended (g.D.Device.broken d) (ops_bytes (redraw_ops (cell_at mid.screen.raster) mid.screen.raster.width mid.screen.raster.height))))
    (c.settle-painted.ensures.idle redraws) (c.refresh.ensures.bytes stale))

pub returns-then-redraws-clause-shows : goal.returns-then-redraws-clause-shows
returns-then-redraws-clause-shows g c = λ whole.
    let w = wire_of (g.D.Device.wire c.refresh.new.device) (g.D.Device.faults c.refresh.new.device) (g.D.Device.lent c.refresh.new.device).told in
    shows-same c.args.program.now.app.now c.settle-painted.new.self c.refresh.new.self w c.refresh.ensures.panes
    (shows-frame c.args.program.now.app.now c.settle-painted.new.self w c.refresh.new.self.screen.stale (g.D.Device.broken c.refresh.new.device)
    (g.D.Device.cleared c.refresh.new.device) (g.D.Device.picture c.refresh.new.device) c.settle-painted.ensures.frame (c.refresh.ensures.stale ∙ whole)
    (rw c.refresh.ensures.raster at c.refresh.ensures.agree) (g.D.Device.tied c.refresh.new.device))

pub returns-else-redraws-clause-shows : goal.returns-else-redraws-clause-shows
returns-else-redraws-clause-shows g c = λ whole.
    let fresh = ap (is_stale_under c.args.which) (sym c.stale.ensures) ∙ (sym c.redraws-redraws.ensures ∙ c.if-redraws.false) in
    let w = wire_of (g.D.Device.wire c.settle-painted.new.device) (g.D.Device.faults c.settle-painted.new.device) (g.D.Device.lent c.settle-painted.new.device).told in
    shows-frame c.args.program.now.app.now c.settle-painted.new.self w c.settle-painted.new.self.screen.stale (g.D.Device.broken c.settle-painted.new.device)
    (g.D.Device.cleared c.settle-painted.new.device) (g.D.Device.picture c.settle-painted.new.device) c.settle-painted.ensures.frame
    (stays-fresh _ c.settle-painted.new.self.screen.stale c.settle-painted.result c.settle-painted.ensures.stale whole fresh)
    c.settle-painted.ensures.agree (g.D.Device.tied c.settle-painted.new.device)
