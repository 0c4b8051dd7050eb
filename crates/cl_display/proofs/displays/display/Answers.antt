use Rattle.cl_display.specs.Script.{scene_of}
use Rattle.cl_display.proofs.DisplayLemmas.{few-shown}
use Rattle.cl_display.proofs.displays.display.Goals as goal

pub returns-in-Ok-clause-few : goal.returns-in-Ok-clause-few
returns-in-Ok-clause-few g t =
    rw t.from_nodes.ensures
    (few-shown t.args.program.now.limits (scene_of g.T.Types.holds g.T.Types.presents t.args.program.now t.args.slots.now) t.args.forms.now
    t.args.env.now t.draw_all.new.drawing _ _
    (rw (t.blank-drawing.ensures, t.new-meter.ensures.cost, t.new-meter.ensures.deepest) at t.in-Ok.ensures.meaning))
