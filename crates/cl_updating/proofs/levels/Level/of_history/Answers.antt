use Rattle.cl_medium.specs.ItemLaws.{item_moves_bounds}
use Rattle.cl_medium.specs.Items.{item_bounds, move_item}
use Rattle.cl_record.specs.Trees.{trees_of}
use Rattle.cl_record.proofs.Ranges.{placed-still}
use Rattle.cl_updating.proofs.levels.Level.of_history.Goals as goal

pub of-requires : goal.of-requires
of-requires c =
    rw (c.nodes-2.ensures, ← c.nodes.ensures) (placed-still item_bounds move_item item_moves_bounds (trees_of c.nodes.result.now) c.summary.ensures.sound).range
