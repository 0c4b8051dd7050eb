use Rattle.std.proofs.Common.{◌≡◌, ℕ, ap, ◌+◌, ◌∙◌, List, [], pos, drop, get_or, arith, rules}
use Rattle.std.proofs.lemmas.Int.{to_z-of_z}
use Rattle.std.proofs.lemmas.List.{drop_all}
use mir.Syntax.{w64}
use mir.Val.{SFits}
use Rattle.cl_outside.specs.Operations.{ops_bytes}
use Rattle.cl_outside.proofs.WritingLemmas.{Wrote-all}
use Rattle.cl_spans.specs.declared.runs.Span.{Span}
use Rattle.cl_redisplay.specs.Paint.{cell_at}
use Rattle.cl_redisplay.specs.TouchedSending.{span_ops}
use Rattle.cl_redisplay.proofs.TouchedAgreements.{span_bytes, span_step}
use Rattle.cl_redisplay.proofs.WireLemmas.{CutShort-first, Wrote-first}
use Rattle.cl_redisplay.proofs.touched_sending.send_spans.Goals as goal

pub loop-span-preserved : goal.loop-span-preserved
loop-span-preserved g c =
    let area = c.args.area in
    let p = c.args.raster.now in
    let row = c.args.spans.now in
    let i = c.loop-span.span-index in
    let from : SFits w64 (get_or row i (record { x1 = pos 0; x2 = pos 0 })).x1 = search rules in
    let to : SFits w64 (get_or row i (record { x1 = pos 0; x2 = pos 0 })).x2 = search rules in
    let is_left = ap (λ (n : ℕ). area.x + n) (simp to_z-of_z at c.clip.ensures.value) in
    let is_right = ap (λ (n : ℕ). area.x + n) (simp to_z-of_z at c.clip-in-loop-span.ensures.value) in
    record {
      plays = span_step p (g.D.Device.picture c.args.device.now) (g.D.Device.picture c.loop-span.device) (g.D.Device.picture c.send_row.new.device)
          (span_ops (cell_at p) area.x area.width c.args.y row) c.row-glyphs.result.now c.inks-inks.result.now area.x area.width c.args.y
          (area.x + c.clip.result) (area.x + c.clip-in-loop-span.result) row (record { x1 = pos 0; x2 = pos 0 }) i
          c.loop-span-test.true is_left is_right c.requires.lies.columns c.row-glyphs.ensures.cells c.inks-inks.ensures.cells
          c.loop-span.invariant.plays c.in-Done.ensures.sends.0;
      wrote = Wrote-first (g.D.Device.wire c.args.device.now) (g.D.Device.wire c.loop-span.device) (g.D.Device.wire c.send_row.new.device) _ _ _ _
          (span_bytes p c.row-glyphs.result.now c.inks-inks.result.now area.x area.width c.args.y
          (area.x + c.clip.result) (area.x + c.clip-in-loop-span.result) row (record { x1 = pos 0; x2 = pos 0 }) i
          c.loop-span-test.true is_left is_right c.requires.lies.columns c.row-glyphs.ensures.cells c.inks-inks.ensures.cells)
          c.loop-span.invariant.wrote c.in-Done.ensures.bytes;
      whole = c.in-Done.ensures.sends.1;
      begun = c.in-Done.ensures.begun;
      lent = c.in-Done.ensures.lent ∙ c.loop-span.invariant.lent;
      faults = omega (arith, c.in-Done.ensures.cause, c.loop-span.invariant.faults);
    }

pub returns-in-Failed-clause-bytes : goal.returns-in-Failed-clause-bytes
returns-in-Failed-clause-bytes g c =
    let area = c.args.area in
    let p = c.args.raster.now in
    let row = c.args.spans.now in
    let i = c.loop-span.span-index in
    let from : SFits w64 (get_or row i (record { x1 = pos 0; x2 = pos 0 })).x1 = search rules in
    let to : SFits w64 (get_or row i (record { x1 = pos 0; x2 = pos 0 })).x2 = search rules in
    let is_left = ap (λ (n : ℕ). area.x + n) (simp to_z-of_z at c.clip.ensures.value) in
    let is_right = ap (λ (n : ℕ). area.x + n) (simp to_z-of_z at c.clip-in-loop-span.ensures.value) in
    CutShort-first (g.D.Device.wire c.args.device.now) (g.D.Device.wire c.loop-span.device) (g.D.Device.wire c.send_row.new.device) _ _ _ _ _
    (g.D.Device.faults c.loop-span.device) _
    (span_bytes p c.row-glyphs.result.now c.inks-inks.result.now area.x area.width c.args.y
    (area.x + c.clip.result) (area.x + c.clip-in-loop-span.result) row (record { x1 = pos 0; x2 = pos 0 }) i
    c.loop-span-test.true is_left is_right c.requires.lies.columns c.row-glyphs.ensures.cells c.inks-inks.ensures.cells)
    c.loop-span.invariant.wrote c.loop-span.invariant.faults c.in-Failed.ensures.bytes

pub returns-clause-bytes : goal.returns-clause-bytes
returns-clause-bytes g c =
    let done : drop c.loop-span.span-index c.args.spans.now ≡ [] = drop_all c.loop-span.span-index c.args.spans.now c.loop-span-test.false in
    Wrote-all (g.D.Device.wire c.args.device.now) (g.D.Device.wire c.loop-span.device) _ _
    (ap (λ (row : List Span). ops_bytes (span_ops (cell_at c.args.raster.now) c.args.area.x c.args.area.width c.args.y row)) done) c.loop-span.invariant.wrote
