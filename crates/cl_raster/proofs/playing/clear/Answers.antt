use Rattle.cl_raster.proofs.Replays.{acts_clear}
use Rattle.cl_raster.proofs.playing.clear.Goals as goal

pub returns-in_ok-new-in-Some : goal.returns-in_ok-new-in-Some
returns-in_ok-new-in-Some c =
    acts_clear c.args.shown c.in_ok-new-in-Some.field-0 _ c.in-Some.size.width c.in-Some.size.height c.in-Some.ensures.0 c.in-Some.ensures.1 c.in_ok-new-in-Some.ensures
