use Rattle.cl_display.specs.Script.{scene_of}
use Rattle.cl_updating.proofs.RedisplayLemmas.{built-faithful, built-few, built-keeps, built-ledger, built-once, built-redisplays}
use Rattle.cl_updating.proofs.RedisplayLemmas.{trap-redrawn, trapped-faithful, trapped-keeps, trapped-ledger, trapped-once, trapped-redisplays}
use Rattle.cl_updating.proofs.redisplaying.redisplay.Goals as goal

pub returns-in-Ok-redraw_all-clause-redisplays : goal.returns-in-Ok-redraw_all-clause-redisplays
returns-in-Ok-redraw_all-clause-redisplays g c =
    let scene = scene_of g.T.Types.holds g.T.Types.presents c.args.program.now c.args.slots.now in
    let drawn = rw (c.in-Ok.ensures, c.blank-drawing.ensures, c.new-meter.ensures.cost, c.new-meter.ensures.deepest, c.new-tally.ensures) at c.in-Ok-redraw_all.ensures in
    built-redisplays c.args.program.now.limits scene c.args.forms.now c.args.env.now c.args.old.now c.redraw_all.new.drawing c.redraw_all.new.tally c.redraw_all.new.meter drawn.0 drawn.1
    c.built.result c.built.ensures

pub returns-in-Ok-redraw_all-clause-few : goal.returns-in-Ok-redraw_all-clause-few
returns-in-Ok-redraw_all-clause-few g c =
    let scene = scene_of g.T.Types.holds g.T.Types.presents c.args.program.now c.args.slots.now in
    let drawn = rw (c.in-Ok.ensures, c.blank-drawing.ensures, c.new-meter.ensures.cost, c.new-meter.ensures.deepest, c.new-tally.ensures) at c.in-Ok-redraw_all.ensures in
    built-few c.args.program.now.limits scene c.args.forms.now c.args.env.now c.args.old.now c.redraw_all.new.drawing c.redraw_all.new.tally c.redraw_all.new.meter drawn.0 drawn.1
    c.built.result c.built.ensures

pub returns-in-Ok-redraw_all-clause-faithful : goal.returns-in-Ok-redraw_all-clause-faithful
returns-in-Ok-redraw_all-clause-faithful g c =
    let scene = scene_of g.T.Types.holds g.T.Types.presents c.args.program.now c.args.slots.now in
    let drawn = rw (c.in-Ok.ensures, c.blank-drawing.ensures, c.new-meter.ensures.cost, c.new-meter.ensures.deepest, c.new-tally.ensures) at c.in-Ok-redraw_all.ensures in
    built-faithful c.args.program.now.limits c.args.program.now.app.now scene.types c.args.slots.now c.args.forms.now c.args.env.now c.requires.own c.requires.reuse.texts c.redraw_all.new.drawing
    c.redraw_all.new.tally c.redraw_all.new.meter.cost c.redraw_all.new.meter.deepest drawn.0 c.built.result c.built.ensures

pub returns-in-Ok-redraw_all-clause-ledger : goal.returns-in-Ok-redraw_all-clause-ledger
returns-in-Ok-redraw_all-clause-ledger g c =
    let scene = scene_of g.T.Types.holds g.T.Types.presents c.args.program.now c.args.slots.now in
    let drawn = rw (c.in-Ok.ensures, c.blank-drawing.ensures, c.new-meter.ensures.cost, c.new-meter.ensures.deepest, c.new-tally.ensures) at c.in-Ok-redraw_all.ensures in
    built-ledger c.args.program.now.limits scene c.args.forms.now c.args.env.now c.args.old.now c.redraw_all.new.drawing c.redraw_all.new.tally c.redraw_all.new.meter drawn.0 drawn.1
    c.built.result c.built.ensures c.args.steps.now c.pass_on.new.steps c.pass_on.ensures

pub returns-in-Err-Trap-clause-redisplays : goal.returns-in-Err-Trap-clause-redisplays
returns-in-Err-Trap-clause-redisplays g c =
    let scene = scene_of g.T.Types.holds g.T.Types.presents c.args.program.now c.args.slots.now in
    let trap = trap-redrawn _ c.in-Err-Trap.field-0 c.in-Err-Trap.kind _ _ _ _ _ _ c.in-Err-Trap.field-0-is c.in-Err-Trap.ensures in
    let drawn = rw (c.in-Ok.ensures, c.blank-drawing.ensures, c.new-meter.ensures.cost, c.new-meter.ensures.deepest, c.new-tally.ensures) at trap in
    trapped-redisplays c.args.program.now.limits scene c.args.forms.now c.args.env.now c.args.old.now c.in-Err-Trap.kind c.redraw_all.new.tally c.redraw_all.new.meter drawn.0 drawn.1
    c.trapped_at.result c.trapped_at.ensures

pub returns-in-Err-Trap-clause-faithful : goal.returns-in-Err-Trap-clause-faithful
returns-in-Err-Trap-clause-faithful g c =
    let scene = scene_of g.T.Types.holds g.T.Types.presents c.args.program.now c.args.slots.now in
    let trap = trap-redrawn _ c.in-Err-Trap.field-0 c.in-Err-Trap.kind _ _ _ _ _ _ c.in-Err-Trap.field-0-is c.in-Err-Trap.ensures in
    let drawn = rw (c.in-Ok.ensures, c.blank-drawing.ensures, c.new-meter.ensures.cost, c.new-meter.ensures.deepest, c.new-tally.ensures) at trap in
    trapped-faithful c.args.program.now.limits c.args.program.now.app.now scene.types c.args.slots.now c.args.forms.now c.args.env.now c.requires.own c.requires.reuse.texts c.in-Err-Trap.kind
    c.redraw_all.new.meter.cost c.redraw_all.new.meter.deepest drawn.0 c.trapped_at.result c.trapped_at.ensures

pub returns-in-Err-Trap-clause-ledger : goal.returns-in-Err-Trap-clause-ledger
returns-in-Err-Trap-clause-ledger g c =
    let scene = scene_of g.T.Types.holds g.T.Types.presents c.args.program.now c.args.slots.now in
    let trap = trap-redrawn _ c.in-Err-Trap.field-0 c.in-Err-Trap.kind _ _ _ _ _ _ c.in-Err-Trap.field-0-is c.in-Err-Trap.ensures in
    let drawn = rw (c.in-Ok.ensures, c.blank-drawing.ensures, c.new-meter.ensures.cost, c.new-meter.ensures.deepest, c.new-tally.ensures) at trap in
    trapped-ledger c.args.program.now.limits scene c.args.forms.now c.args.env.now c.args.old.now c.in-Err-Trap.kind c.redraw_all.new.tally c.redraw_all.new.meter drawn.0 drawn.1
    c.trapped_at.result c.trapped_at.ensures c.args.steps.now c.pass_on-in-Err-Trap.new.steps c.pass_on-in-Err-Trap.ensures

pub returns-in-Ok-redraw_all-clause-keeps : goal.returns-in-Ok-redraw_all-clause-keeps
returns-in-Ok-redraw_all-clause-keeps g c =
    let scene = scene_of g.T.Types.holds g.T.Types.presents c.args.program.now c.args.slots.now in
    let drawn = rw (c.in-Ok.ensures, c.blank-drawing.ensures, c.new-meter.ensures.cost, c.new-meter.ensures.deepest, c.new-tally.ensures) at c.in-Ok-redraw_all.ensures in
    built-keeps c.args.program.now.limits scene c.args.forms.now c.args.env.now c.args.old.now c.redraw_all.new.drawing c.redraw_all.new.tally c.redraw_all.new.meter drawn.0 drawn.1
    c.built.result c.built.ensures

pub returns-in-Ok-redraw_all-clause-once : goal.returns-in-Ok-redraw_all-clause-once
returns-in-Ok-redraw_all-clause-once g c =
    let scene = scene_of g.T.Types.holds g.T.Types.presents c.args.program.now c.args.slots.now in
    let drawn = rw (c.in-Ok.ensures, c.blank-drawing.ensures, c.new-meter.ensures.cost, c.new-meter.ensures.deepest, c.new-tally.ensures) at c.in-Ok-redraw_all.ensures in
    built-once c.args.program.now.limits c.args.program.now.app.now scene.types c.args.slots.now c.args.forms.now c.args.env.now c.requires.own c.redraw_all.new.drawing
    c.redraw_all.new.tally c.redraw_all.new.meter.cost c.redraw_all.new.meter.deepest drawn.0 c.built.result c.built.ensures

pub returns-in-Err-Trap-clause-once : goal.returns-in-Err-Trap-clause-once
returns-in-Err-Trap-clause-once g c =
    let scene = scene_of g.T.Types.holds g.T.Types.presents c.args.program.now c.args.slots.now in
    let trap = trap-redrawn _ c.in-Err-Trap.field-0 c.in-Err-Trap.kind _ _ _ _ _ _ c.in-Err-Trap.field-0-is c.in-Err-Trap.ensures in
    let drawn = rw (c.in-Ok.ensures, c.blank-drawing.ensures, c.new-meter.ensures.cost, c.new-meter.ensures.deepest, c.new-tally.ensures) at trap in
    trapped-once c.args.program.now.limits c.args.program.now.app.now scene.types c.args.slots.now c.args.forms.now c.args.env.now c.requires.own c.in-Err-Trap.kind
    c.redraw_all.new.meter.cost c.redraw_all.new.meter.deepest drawn.0 c.trapped_at.result c.trapped_at.ensures

pub returns-in-Err-Trap-clause-keeps : goal.returns-in-Err-Trap-clause-keeps
returns-in-Err-Trap-clause-keeps g c = trapped-keeps c.in-Err-Trap.kind _ c.trapped_at.result c.trapped_at.ensures
