use Rattle.std.proofs.Common.{◌≡◌, ℕ, refl, ap, ◌∙◌, ◌-◌, arith}
use Rattle.cl_outside.specs.Operations.{ops_bytes}
use Rattle.cl_outside.proofs.WritingLemmas.{Wrote-all, Wrote-nothing}
use Rattle.cl_redisplay.specs.Sending.{list_ops}
use Rattle.cl_redisplay.proofs.Agreements.{Plays-none, row_step}
use Rattle.cl_redisplay.proofs.WireLemmas.{CutShort-first, Wrote-first, row_bytes}
use Rattle.cl_redisplay.proofs.sending.send_row.Goals as goal

pub loop-x-init : goal.loop-x-init
loop-x-init g c = record {
  plays = Plays-none (g.D.Device.picture c.args.device.now) _;
  wrote = Wrote-nothing (g.D.Device.wire c.args.device.now) _;
  whole = c.requires.whole;
  begun = c.requires.begun;
  lent = refl;
  faults = omega arith;
}

pub loop-x-preserved : goal.loop-x-preserved
loop-x-preserved g c = record {
  plays = row_step (g.D.Device.cleared c.loop-x.device) (g.D.Device.picture c.args.device.now) (g.D.Device.picture c.loop-x.device)
      (g.D.Device.picture c.span.new.self) _ c.args.glyphs.now c.args.inks.now c.args.y c.loop-x.x c.run_end-end.result c.args.right
      c.loop-x.invariant.begun c.requires.columns c.run_end-end.ensures c.loop-x.invariant.plays c.in-Done.ensures.shows.0;
  wrote = Wrote-first (g.D.Device.wire c.args.device.now) (g.D.Device.wire c.loop-x.device) (g.D.Device.wire c.span.new.self) _ _ _ _
      (row_bytes c.args.glyphs.now c.args.inks.now c.args.y c.loop-x.x c.run_end-end.result c.args.right c.requires.columns c.run_end-end.ensures)
      c.loop-x.invariant.wrote c.in-Done.ensures.sends;
  whole = c.in-Done.ensures.shows.1;
  begun = c.in-Done.ensures.cleared ∙ c.loop-x.invariant.begun;
  lent = c.in-Done.ensures.lent ∙ c.loop-x.invariant.lent;
  faults = omega (arith, c.in-Done.ensures.cause, c.loop-x.invariant.faults);
}

pub returns-in-Failed-clause-bytes : goal.returns-in-Failed-clause-bytes
returns-in-Failed-clause-bytes g c =
    CutShort-first (g.D.Device.wire c.args.device.now) (g.D.Device.wire c.loop-x.device) (g.D.Device.wire c.span.new.self) _ _ _ _ _
    (g.D.Device.faults c.loop-x.device) _
    (row_bytes c.args.glyphs.now c.args.inks.now c.args.y c.loop-x.x c.run_end-end.result c.args.right c.requires.columns c.run_end-end.ensures)
    c.loop-x.invariant.wrote c.loop-x.invariant.faults c.in-Failed.ensures.sends

pub returns-clause-bytes : goal.returns-clause-bytes
returns-clause-bytes g c =
    let done : c.args.right - c.loop-x.x ≡ 0 = omega (arith, c.loop-x-test.false) in
    Wrote-all (g.D.Device.wire c.args.device.now) (g.D.Device.wire c.loop-x.device) _ _
    (ap (λ (count : ℕ). ops_bytes (list_ops c.args.glyphs.now c.args.inks.now c.args.y c.loop-x.x count)) done) c.loop-x.invariant.wrote
