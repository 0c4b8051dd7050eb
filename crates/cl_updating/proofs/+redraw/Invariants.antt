use Rattle.std.proofs.Common.{◌+◌, ◌*◌, ◌^◌, drop, map}
use Rattle.cl_value.specs.Value.{data_of}
use Rattle.cl_syntax.specs.ShapeTree.{shape_trees_of}
use Rattle.cl_display.specs.Drawings.{drawing_of}
use Rattle.cl_display.specs.Fresh.{for_each, in_order}
use Rattle.cl_display.specs.Place.{draw_from}
use Rattle.cl_updating.proofs.RedrawLemmas.{Goes}
use Rattle.cl_updating.proofs.+redraw.Given as goal

abbrev pub decreases-redrawing::redraw : goal.decreases-redrawing::redraw
decreases-redrawing::redraw g l = l.ground.now.place.here.left * 2 ^ 66 + 0

abbrev pub decreases-redrawing::redraw_parts : goal.decreases-redrawing::redraw_parts
decreases-redrawing::redraw_parts g l = l.ground.now.place.here.left * 2 ^ 66 + 2 ^ 65

abbrev pub decreases-redrawing::redraw_all : goal.decreases-redrawing::redraw_all
decreases-redrawing::redraw_all g l = l.ground.now.place.here.left * 2 ^ 66 + 2

abbrev pub decreases-redrawing::redraw_in : goal.decreases-redrawing::redraw_in
decreases-redrawing::redraw_in g l = l.ground.now.place.here.left * 2 ^ 66 + 3

abbrev pub decreases-redrawing::redraw_each : goal.decreases-redrawing::redraw_each
decreases-redrawing::redraw_each g l = l.ground.now.place.here.left * 2 ^ 66 + 3

abbrev pub decreases-redrawing::redraw_call : goal.decreases-redrawing::redraw_call
decreases-redrawing::redraw_call g l = l.ground.now.place.here.left * 2 ^ 66 + 3

abbrev pub decreases-redrawing::redraw_indented : goal.decreases-redrawing::redraw_indented
decreases-redrawing::redraw_indented g l = l.ground.now.place.here.left * 2 ^ 66 + 3

abbrev pub decreases-redrawing::redraw_in_ink : goal.decreases-redrawing::redraw_in_ink
decreases-redrawing::redraw_in_ink g l = l.ground.now.place.here.left * 2 ^ 66 + 3

abbrev pub decreases-redrawing::redraw_in_room : goal.decreases-redrawing::redraw_in_room
decreases-redrawing::redraw_in_room g l = l.ground.now.place.here.left * 2 ^ 66 + 3

abbrev pub decreases-redrawing::redraw_presented : goal.decreases-redrawing::redraw_presented
decreases-redrawing::redraw_presented g l = l.ground.now.place.here.left * 2 ^ 66 + 3

abbrev pub decreases-redrawing_updates::redraw_update : goal.decreases-redrawing_updates::redraw_update
decreases-redrawing_updates::redraw_update g l = l.ground.now.place.here.left * 2 ^ 66 + 6

abbrev pub decreases-redrawing_updates::redraw_keyed : goal.decreases-redrawing_updates::redraw_keyed
decreases-redrawing_updates::redraw_keyed g l = l.ground.now.place.here.left * 2 ^ 66 + 5

abbrev pub decreases-redrawing_updates::redraw_over : goal.decreases-redrawing_updates::redraw_over
decreases-redrawing_updates::redraw_over g l = l.ground.now.place.here.left * 2 ^ 66 + 4

abbrev pub decreases-redrawing_updates::redraw_body : goal.decreases-redrawing_updates::redraw_body
decreases-redrawing_updates::redraw_body g l = l.ground.now.place.here.left * 2 ^ 66 + 3

abbrev pub invariant-redrawing::redraw_all-loop-form : goal.invariant-redrawing::redraw_all-loop-form
invariant-redrawing::redraw_all-loop-form g l = record {
  goes : Goes l.ground.old.now l.meter.cost l.tally
      (draw_from g.T.Types.holds g.T.Types.presents l.ground.place in_order (shape_trees_of (drop l.form-index l.forms)) (drawing_of l.drawing) l.meter.cost
      l.meter.deepest)
      l.initial.meter.cost l.initial.tally
      (draw_from g.T.Types.holds g.T.Types.presents l.ground.place in_order (shape_trees_of l.forms) (drawing_of l.initial.drawing) l.initial.meter.cost
      l.initial.meter.deepest);
}

abbrev pub invariant-redrawing::redraw_each-loop-item : goal.invariant-redrawing::redraw_each-loop-item
invariant-redrawing::redraw_each-loop-item g l = record {
  goes : Goes l.ground.old.now l.meter.cost l.tally
      (draw_from g.T.Types.holds g.T.Types.presents l.ground.place for_each l.name (shape_trees_of l.body) (map data_of (drop l.item-index l.list))
      (drawing_of l.drawing) l.meter.cost l.meter.deepest)
      l.initial.meter.cost l.initial.tally
      (draw_from g.T.Types.holds g.T.Types.presents l.ground.place for_each l.name (shape_trees_of l.body) (map data_of l.list)
      (drawing_of l.initial.drawing) l.initial.meter.cost l.initial.meter.deepest);
}
