use Rattle.std.proofs.Common.{◌≡◌, ℕ, ℤ, ap, ◌+◌, ◌-◌, ◌∙◌, arith, rules}
use Rattle.std.proofs.lemmas.Int.{to_z-of_z}
use mir.Syntax.{w64}
use mir.Val.{SFits}
use Rattle.cl_outside.specs.Operations.{ops_bytes}
use Rattle.cl_outside.proofs.WritingLemmas.{Wrote-all}
use Rattle.cl_redisplay.specs.Paint.{cell_at}
use Rattle.cl_redisplay.specs.Touching.{on_screen, touched_ops, touched_rows_ops}
use Rattle.cl_spans.specs.SpanRows.{row_of, spans_hold}
use Rattle.cl_redisplay.proofs.TouchedAgreements.{touched_bytes, touched_step}
use Rattle.cl_redisplay.proofs.WireLemmas.{CutShort-first, Wrote-first}
use Rattle.cl_redisplay.proofs.touched_sending.send_touched.Goals as goal

pub loop-y-preserved : goal.loop-y-preserved
loop-y-preserved g c =
    let area = c.args.area in
    let p = c.args.raster.now in
    let fits : SFits w64 c.from.result = search rules in
    let is_row = simp to_z-of_z at c.row-spans.ensures.row ∙ ap (λ (z : ℤ). row_of c.args.touched.now z) c.from.ensures in
    record {
      plays = touched_step (cell_at p) c.args.touched.now area c.loop-y.y (area.y + area.height) c.row-spans.result.now
          (g.D.Device.picture c.args.device.now) (g.D.Device.picture c.loop-y.device) (g.D.Device.picture c.send_spans.new.device)
          (touched_ops (cell_at p) (on_screen (spans_hold c.args.touched.now) area) area)
          c.requires.within c.loop-y-test.true is_row c.row-spans.ensures.runs c.loop-y.invariant.plays c.in-Done.ensures.sends.0;
      wrote = Wrote-first (g.D.Device.wire c.args.device.now) (g.D.Device.wire c.loop-y.device) (g.D.Device.wire c.send_spans.new.device)
          _ _ _ _
          (touched_bytes (cell_at p) c.args.touched.now area c.loop-y.y (area.y + area.height) c.row-spans.result.now
          c.requires.within c.loop-y-test.true is_row c.row-spans.ensures.runs)
          c.loop-y.invariant.wrote c.in-Done.ensures.bytes;
      whole = c.in-Done.ensures.sends.1;
      begun = c.in-Done.ensures.begun;
      lent = c.in-Done.ensures.lent ∙ c.loop-y.invariant.lent;
      faults = omega (arith, c.in-Done.ensures.cause, c.loop-y.invariant.faults);
    }

pub returns-in-Failed-clause-bytes : goal.returns-in-Failed-clause-bytes
returns-in-Failed-clause-bytes g c =
    let area = c.args.area in
    let fits : SFits w64 c.from.result = search rules in
    let is_row = simp to_z-of_z at c.row-spans.ensures.row ∙ ap (λ (z : ℤ). row_of c.args.touched.now z) c.from.ensures in
    CutShort-first (g.D.Device.wire c.args.device.now) (g.D.Device.wire c.loop-y.device) (g.D.Device.wire c.send_spans.new.device) _ _ _ _ _
    (g.D.Device.faults c.loop-y.device) _
    (touched_bytes (cell_at c.args.raster.now) c.args.touched.now area c.loop-y.y (area.y + area.height) c.row-spans.result.now
    c.requires.within c.loop-y-test.true is_row c.row-spans.ensures.runs)
    c.loop-y.invariant.wrote c.loop-y.invariant.faults c.in-Failed.ensures.bytes

pub returns-clause-bytes : goal.returns-clause-bytes
returns-clause-bytes g c =
    let area = c.args.area in
    let done : area.y + area.height - c.loop-y.y ≡ 0 = omega (arith, c.loop-y-test.false) in
    Wrote-all (g.D.Device.wire c.args.device.now) (g.D.Device.wire c.loop-y.device) _ _
    (ap (λ (count : ℕ). ops_bytes (touched_rows_ops (cell_at c.args.raster.now) (on_screen (spans_hold c.args.touched.now) area) area.x area.width c.loop-y.y count)) done)
    c.loop-y.invariant.wrote
