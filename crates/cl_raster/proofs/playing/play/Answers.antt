use Rattle.cl_raster.proofs.Replays.{played_line, played_nothing, played_shown}
use Rattle.cl_raster.proofs.playing.play.Goals as goal

pub loop-line-preserved : goal.loop-line-preserved
loop-line-preserved c =
    played_line c.loop-line.shown c.in_ok-shown.shown c.args.bytes.now c.loop-line.rest.now c.in-Some.line.now c.in-Some.behind.now
    c.loop-line.invariant c.in-Some.ensures c.in_ok-shown.ensures

pub returns-in-Some-shown : goal.returns-in-Some-shown
returns-in-Some-shown c =
    played_shown c.in-Some-shown.raster c.args.bytes.now c.loop-line.rest.now (rw c.in-Some-shown.is at c.loop-line.invariant) c.in_default.ensures

pub returns-in-None : goal.returns-in-None
returns-in-None c =
    played_nothing c.new.result c.args.bytes.now c.loop-line.rest.now (rw c.in-None.is at c.loop-line.invariant) c.in_default.ensures c.new.ensures
