use Rattle.std.proofs.Common.{ap, refl}
use Rattle.cl_outside.specs.Lent.{Lent}
use Rattle.cl_raster.proofs.WireSteps.{Blanks-cleared, IsInStep-cleared}
use Rattle.cl_raster.proofs.wires.WireDeviceDevice.clear.Goals as goal

pub invariant_of-self-2 : goal.invariant_of-self-2
invariant_of-self-2 g c = record {
  in_step = IsInStep-cleared (g.S.Sink.lent c.args.self.now.sink).told (g.S.Sink.lent c.write_clear.new.sink).told
      c.args.self.now.broken c.args.self.now.cleared c.args.width c.args.height
      (g.S.Sink.taken c.args.self.now.sink) (g.S.Sink.taken c.write_clear.new.sink)
      (ap (λ (l : Lent). l.told) c.if-not-write_clear.ensures.lent) c.args.self.now.in_step (c.requires.columns, c.requires.rows)
      c.if-not-write_clear.ensures.says;
}

pub returns-clause-shows : goal.returns-clause-shows
returns-clause-shows g c = (
  Blanks-cleared (g.S.Sink.lent c.args.self.now.sink).told (g.S.Sink.lent c.write_clear.new.sink).told
      c.args.self.now.broken c.args.self.now.cleared c.args.width c.args.height
      (g.S.Sink.taken c.args.self.now.sink) (g.S.Sink.taken c.write_clear.new.sink)
      (ap (λ (l : Lent). l.told) c.if-not-write_clear.ensures.lent) c.args.self.now.in_step (c.requires.columns, c.requires.rows)
      c.if-not-write_clear.ensures.says,
  refl,
  refl,
)
