use Rattle.cl_medium.specs.Items.{move_item}
use Rattle.cl_record.specs.Marks.{history_marks}
use Rattle.cl_redisplay.specs.declared.screens.Painted.TheVariants.{Done, DeviceFault}
use Rattle.cl_spans.specs.SpanRows.{spans_hold}
use Rattle.cl_redisplay.proofs.TouchedAgreements.{SendsUnless-touched, touched_agrees, touched_repaints}
use Rattle.cl_redisplay.proofs.repainting.repaint_touched.Goals as goal

pub returns-then-screen-clause-repaints : goal.returns-then-screen-clause-repaints
returns-then-screen-clause-repaints g c =
    rw (← c.screen.view_is)
    (touched_repaints c.screen.inside.raster c.paint_touched.new.raster c.args.area (history_marks move_item c.args.history.now) (spans_hold c.args.touched.now)
    (rw (← c.screen.view_is) at c.requires.shows) c.paint_touched.ensures)

pub returns-in-Done-clause-repaints : goal.returns-in-Done-clause-repaints
returns-in-Done-clause-repaints g c =
    rw (← c.screen.view_is)
    (touched_repaints c.screen.inside.raster c.paint_touched.new.raster c.args.area (history_marks move_item c.args.history.now) (spans_hold c.args.touched.now)
    (rw (← c.screen.view_is) at c.requires.shows) c.paint_touched.ensures)

pub returns-in-Failed-clause-repaints : goal.returns-in-Failed-clause-repaints
returns-in-Failed-clause-repaints g c =
    rw (← c.screen.view_is)
    (touched_repaints c.screen.inside.raster c.paint_touched.new.raster c.args.area (history_marks move_item c.args.history.now) (spans_hold c.args.touched.now)
    (rw (← c.screen.view_is) at c.requires.shows) c.paint_touched.ensures)

pub returns-in-Done-clause-agree : goal.returns-in-Done-clause-agree
returns-in-Done-clause-agree g c =
    touched_agrees c.screen.inside.stale c.screen.inside.raster c.paint_touched.new.raster c.args.area (history_marks move_item c.args.history.now)
    (spans_hold c.args.touched.now) (g.D.Device.picture c.args.device.now)
    (g.D.Device.picture c.send_touched.new.device) _ _ (g.D.Device.broken c.send_touched.new.device) (g.D.Device.cleared c.send_touched.new.device)
    c.if-screen.false c.paint_touched.ensures (rw (← c.screen.view_is) at c.requires.agree)
    c.in-Done.ensures.sends.0 c.in-Done.ensures.sends.1 c.in-Done.ensures.begun

pub returns-in-Done-clause-bytes : goal.returns-in-Done-clause-bytes
returns-in-Done-clause-bytes g c =
    rw (← c.screen.view_is)
    (SendsUnless-touched c.screen.inside.stale Done (g.D.Device.wire c.args.device.now) (g.D.Device.wire c.send_touched.new.device)
    c.screen.inside.raster c.paint_touched.new.raster c.args.area (history_marks move_item c.args.history.now) (spans_hold c.args.touched.now)
    (g.D.Device.faults c.args.device.now) (g.D.Device.faults c.send_touched.new.device)
    c.if-screen.false (rw (← c.screen.view_is) at c.requires.lies) c.paint_touched.ensures c.in-Done.ensures.bytes)

pub returns-in-Failed-clause-bytes : goal.returns-in-Failed-clause-bytes
returns-in-Failed-clause-bytes g c =
    rw (← c.screen.view_is)
    (SendsUnless-touched c.screen.inside.stale DeviceFault (g.D.Device.wire c.args.device.now) (g.D.Device.wire c.send_touched.new.device)
    c.screen.inside.raster c.paint_touched.new.raster c.args.area (history_marks move_item c.args.history.now) (spans_hold c.args.touched.now)
    (g.D.Device.faults c.args.device.now) (g.D.Device.faults c.send_touched.new.device)
    c.if-screen.false (rw (← c.screen.view_is) at c.requires.lies) c.paint_touched.ensures c.in-Failed.ensures.bytes)
