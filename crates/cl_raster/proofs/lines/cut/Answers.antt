use Rattle.cl_raster.proofs.Readings.{cut_at}
use Rattle.cl_raster.proofs.lines.cut.Goals as goal

pub returns-then-byte-mark : goal.returns-then-byte-mark
returns-then-byte-mark c = cut_at c.args.mark c.args.bytes.now c.loop-at.at c.loop-at-test.true c.if-byte-mark.true c.loop-at.invariant
