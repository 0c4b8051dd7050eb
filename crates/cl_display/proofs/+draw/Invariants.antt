use Rattle.std.proofs.Common.{◌≡◌, ◌+◌, ◌*◌, ◌^◌, drop, map}
use Rattle.cl_value.specs.Value.{data_of}
use Rattle.cl_syntax.specs.ShapeTree.{shape_trees_of}
use Rattle.cl_display.specs.Drawings.{drawing_of}
use Rattle.cl_display.specs.Fresh.{for_each, in_order}
use Rattle.cl_display.specs.Place.{draw_from}
use Rattle.cl_display.proofs.+draw.Given as goal

abbrev pub decreases-forms::draw : goal.decreases-forms::draw
decreases-forms::draw g l = l.place.now.here.left * 2 ^ 66

abbrev pub decreases-forms::draw_parts : goal.decreases-forms::draw_parts
decreases-forms::draw_parts g l = l.place.now.here.left * 2 ^ 66 + 2 ^ 65

abbrev pub decreases-forms::draw_all : goal.decreases-forms::draw_all
decreases-forms::draw_all g l = l.place.now.here.left * 2 ^ 66 + 2

abbrev pub decreases-forms::draw_in : goal.decreases-forms::draw_in
decreases-forms::draw_in g l = l.place.now.here.left * 2 ^ 66 + 3

abbrev pub decreases-forms::draw_each : goal.decreases-forms::draw_each
decreases-forms::draw_each g l = l.place.now.here.left * 2 ^ 66 + 3

abbrev pub decreases-forms::draw_indented : goal.decreases-forms::draw_indented
decreases-forms::draw_indented g l = l.place.now.here.left * 2 ^ 66 + 3

abbrev pub decreases-forms::draw_in_ink : goal.decreases-forms::draw_in_ink
decreases-forms::draw_in_ink g l = l.place.now.here.left * 2 ^ 66 + 3

abbrev pub decreases-forms::draw_in_room : goal.decreases-forms::draw_in_room
decreases-forms::draw_in_room g l = l.place.now.here.left * 2 ^ 66 + 3

abbrev pub decreases-forms::draw_presented : goal.decreases-forms::draw_presented
decreases-forms::draw_presented g l = l.place.now.here.left * 2 ^ 66 + 3

abbrev pub decreases-update_forms::draw_update : goal.decreases-update_forms::draw_update
decreases-update_forms::draw_update g l = l.place.now.here.left * 2 ^ 66 + 4

abbrev pub decreases-update_forms::draw_keyed : goal.decreases-update_forms::draw_keyed
decreases-update_forms::draw_keyed g l = l.place.now.here.left * 2 ^ 66 + 3

abbrev pub decreases-forms::call : goal.decreases-forms::call
decreases-forms::call g l = l.place.now.here.left * 2 ^ 66 + 3

abbrev pub invariant-forms::draw_all-loop-form : goal.invariant-forms::draw_all-loop-form
invariant-forms::draw_all-loop-form g l = record {
  meaning : (draw_from g.T.Types.holds g.T.Types.presents l.place in_order (shape_trees_of (drop l.form-index l.forms)) (drawing_of l.drawing) l.meter.cost
      l.meter.deepest).outcome
      ≡ (draw_from g.T.Types.holds g.T.Types.presents l.place in_order (shape_trees_of l.forms) (drawing_of l.initial.drawing) l.initial.meter.cost
      l.initial.meter.deepest).outcome;
  ledger : l.steps + l.initial.meter.cost ≡ l.initial.steps + l.meter.cost;
}

abbrev pub invariant-forms::draw_each-loop-item : goal.invariant-forms::draw_each-loop-item
invariant-forms::draw_each-loop-item g l = record {
  meaning : (draw_from g.T.Types.holds g.T.Types.presents l.place for_each l.name (shape_trees_of l.body) (map data_of (drop l.item-index l.list)) (drawing_of l.drawing)
      l.meter.cost l.meter.deepest).outcome
      ≡ (draw_from g.T.Types.holds g.T.Types.presents l.place for_each l.name (shape_trees_of l.body) (map data_of l.list) (drawing_of l.initial.drawing) l.initial.meter.cost
      l.initial.meter.deepest).outcome;
  ledger : l.steps + l.initial.meter.cost ≡ l.initial.steps + l.meter.cost;
}
