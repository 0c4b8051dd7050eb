use Rattle.std.specs.Prelude.{option_copied}
use Rattle.cl_redisplay.specs.Screens.{pane_marks}
use Rattle.cl_redisplay.specs.declared.screens.Painted.TheVariants.{Done, DeviceFault}
use Rattle.cl_redisplay.proofs.Agreements.{sent_agrees}
use Rattle.cl_redisplay.proofs.WireLemmas.{SendsUnless-repainted}
use Rattle.cl_redisplay.proofs.screens.repaint.Goals as goal

pub returns-in-Done-clause-agree : goal.returns-in-Done-clause-agree
returns-in-Done-clause-agree g c =
    sent_agrees c.screen.inside.stale c.screen.inside.raster c.paint_pane.new.raster c.args.area (g.D.Device.picture c.args.device.now)
    (g.D.Device.picture c.send_area.new.device) _ _ (g.D.Device.broken c.send_area.new.device) (g.D.Device.cleared c.send_area.new.device)
    c.if-screen.false c.paint_pane.ensures.others (rw (← c.screen.view_is) at c.requires.agree)
    c.in-Done.ensures.sends.0 c.in-Done.ensures.sends.1 c.in-Done.ensures.begun

pub returns-in-Done-clause-bytes : goal.returns-in-Done-clause-bytes
returns-in-Done-clause-bytes g c =
    rw (← c.screen.view_is)
    (SendsUnless-repainted c.screen.inside.stale Done (g.D.Device.wire c.args.device.now) (g.D.Device.wire c.send_area.new.device)
    c.screen.inside.raster c.paint_pane.new.raster c.args.area (pane_marks (option_copied c.args.history))
    (g.D.Device.faults c.args.device.now) (g.D.Device.faults c.send_area.new.device)
    c.if-screen.false (rw (← c.screen.view_is) at c.requires.lies) c.paint_pane.ensures c.in-Done.ensures.bytes)

pub returns-in-Failed-clause-bytes : goal.returns-in-Failed-clause-bytes
returns-in-Failed-clause-bytes g c =
    rw (← c.screen.view_is)
    (SendsUnless-repainted c.screen.inside.stale DeviceFault (g.D.Device.wire c.args.device.now) (g.D.Device.wire c.send_area.new.device)
    c.screen.inside.raster c.paint_pane.new.raster c.args.area (pane_marks (option_copied c.args.history))
    (g.D.Device.faults c.args.device.now) (g.D.Device.faults c.send_area.new.device)
    c.if-screen.false (rw (← c.screen.view_is) at c.requires.lies) c.paint_pane.ensures c.in-Failed.ensures.bytes)
