use Rattle.cl_redisplay.proofs.Agreements.{all_sent}
use Rattle.cl_redisplay.proofs.WireLemmas.{CutShort-redraw, Sends-redraw}
use Rattle.cl_redisplay.proofs.sending.send_all.Goals as goal

pub returns-in-Done-clause-sends : goal.returns-in-Done-clause-sends
returns-in-Done-clause-sends g c =
    all_sent c.args.raster.now c.width-width.result c.height-height.result (g.D.Device.picture c.clear.new.self) (g.D.Device.picture c.send_area.new.device)
    (g.D.Device.broken c.send_area.new.device) (g.D.Device.cleared c.send_area.new.device) c.send_area.result
    c.width-width.ensures.value c.height-height.ensures.value c.in-Done.ensures.shows.0 c.send_area.ensures.begun c.send_area.ensures.sends

pub returns-in-Done-clause-bytes : goal.returns-in-Done-clause-bytes
returns-in-Done-clause-bytes g c =
    Sends-redraw c.args.raster.now c.width-width.result c.height-height.result c.send_area.result (g.D.Device.broken c.args.device.now)
    (g.D.Device.wire c.args.device.now) (g.D.Device.wire c.clear.new.self) (g.D.Device.wire c.send_area.new.device)
    (g.D.Device.faults c.args.device.now) (g.D.Device.faults c.clear.new.self) (g.D.Device.faults c.send_area.new.device)
    c.width-width.ensures.value c.height-height.ensures.value c.in-Done.ensures.sends c.in-Done.ensures.cause c.send_area.ensures.bytes

pub returns-in-Failed-clause-bytes : goal.returns-in-Failed-clause-bytes
returns-in-Failed-clause-bytes g c =
    CutShort-redraw c.args.raster.now c.width-width.result c.height-height.result (g.D.Device.broken c.args.device.now)
    (g.D.Device.wire c.args.device.now) (g.D.Device.wire c.clear.new.self) (g.D.Device.faults c.args.device.now) (g.D.Device.faults c.clear.new.self)
    c.width-width.ensures.value c.height-height.ensures.value c.in-Failed.ensures.sends
