use Rattle.std.proofs.Common.{◌≡◌, ℕ, refl, ap, ◌+◌, ◌-◌, ◌∙◌, arith}
use Rattle.cl_outside.specs.Operations.{ops_bytes}
use Rattle.cl_outside.proofs.WritingLemmas.{Wrote-all}
use Rattle.cl_redisplay.specs.Operations.{area_ops, rows_ops}
use Rattle.cl_redisplay.specs.Paint.{cell_at}
use Rattle.cl_redisplay.proofs.Agreements.{area_step}
use Rattle.cl_redisplay.proofs.WireLemmas.{CutShort-first, Wrote-first, area_bytes}
use Rattle.cl_redisplay.proofs.sending.send_area.Goals as goal

pub loop-y-preserved : goal.loop-y-preserved
loop-y-preserved g c =
    let area = c.args.area in
    record {
      plays = area_step c.args.raster.now (g.D.Device.picture c.args.device.now) (g.D.Device.picture c.loop-y.device) (g.D.Device.picture c.send_row.new.device)
          (area_ops (cell_at c.args.raster.now) area) c.row.result.now c.inks.result.now area.x area.width (area.x + area.width) c.loop-y.y (area.y + area.height)
          refl c.requires.lies.columns c.loop-y-test.true c.row.ensures.cells c.inks.ensures.cells c.loop-y.invariant.plays c.in-Done.ensures.sends.0;
      wrote = Wrote-first (g.D.Device.wire c.args.device.now) (g.D.Device.wire c.loop-y.device) (g.D.Device.wire c.send_row.new.device)
          _ _ _ _
          (area_bytes c.args.raster.now c.row.result.now c.inks.result.now area.x area.width (area.x + area.width) c.loop-y.y (area.y + area.height)
          refl c.requires.lies.columns c.loop-y-test.true c.row.ensures.cells c.inks.ensures.cells)
          c.loop-y.invariant.wrote c.in-Done.ensures.bytes;
      whole = c.in-Done.ensures.sends.1;
      begun = c.in-Done.ensures.begun;
      lent = c.in-Done.ensures.lent ∙ c.loop-y.invariant.lent;
      faults = omega (arith, c.in-Done.ensures.cause, c.loop-y.invariant.faults);
    }

pub returns-in-Failed-clause-bytes : goal.returns-in-Failed-clause-bytes
returns-in-Failed-clause-bytes g c =
    let area = c.args.area in
    CutShort-first (g.D.Device.wire c.args.device.now) (g.D.Device.wire c.loop-y.device) (g.D.Device.wire c.send_row.new.device) _ _ _ _ _
    (g.D.Device.faults c.loop-y.device) _
    (area_bytes c.args.raster.now c.row.result.now c.inks.result.now area.x area.width (area.x + area.width) c.loop-y.y (area.y + area.height)
    refl c.requires.lies.columns c.loop-y-test.true c.row.ensures.cells c.inks.ensures.cells)
    c.loop-y.invariant.wrote c.loop-y.invariant.faults c.in-Failed.ensures.bytes

pub returns-clause-bytes : goal.returns-clause-bytes
returns-clause-bytes g c =
    let area = c.args.area in
    let done : area.y + area.height - c.loop-y.y ≡ 0 = omega (arith, c.loop-y-test.false) in
    Wrote-all (g.D.Device.wire c.args.device.now) (g.D.Device.wire c.loop-y.device) _ _
    (ap (λ (count : ℕ). ops_bytes (rows_ops (cell_at c.args.raster.now) area.x area.width c.loop-y.y count)) done) c.loop-y.invariant.wrote
