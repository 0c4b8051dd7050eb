use Rattle.std.proofs.Common.{ap, refl, arith}
use Rattle.cl_outside.specs.Lent.{Lent}
use Rattle.cl_raster.proofs.WireSteps.{IsInStep-painted, Paints-sent}
use Rattle.cl_raster.proofs.wires.WireDeviceDevice.span.Goals as goal

pub invariant_of-self-2 : goal.invariant_of-self-2
invariant_of-self-2 g c = record {
  in_step = IsInStep-painted (g.S.Sink.lent c.args.self.now.sink).told (g.S.Sink.lent c.write_span.new.sink).told
      c.args.self.now.cleared c.args.x c.args.y c.args.ink c.args.glyphs.now
      (g.S.Sink.taken c.args.self.now.sink) (g.S.Sink.taken c.write_span.new.sink)
      (ap (λ (l : Lent). l.told) c.if-not-write_span.ensures.lent) (rw c.requires.whole at c.args.self.now.in_step) (omega arith) (omega arith)
      c.requires.span c.if-not-write_span.ensures.says;
}

pub returns-clause-shows : goal.returns-clause-shows
returns-clause-shows g c = (
  Paints-sent (g.S.Sink.lent c.args.self.now.sink).told (g.S.Sink.lent c.write_span.new.sink).told
      c.args.self.now.broken c.args.self.now.cleared c.args.x c.args.y c.args.ink c.args.glyphs.now
      (g.S.Sink.taken c.args.self.now.sink) (g.S.Sink.taken c.write_span.new.sink)
      (ap (λ (l : Lent). l.told) c.if-not-write_span.ensures.lent) c.requires.whole c.args.self.now.in_step (omega arith) (omega arith)
      c.requires.span c.if-not-write_span.ensures.says,
  refl,
)
