use Rattle.cl_record.specs.Trees.{trees_of}
use Rattle.cl_record.proofs.Ranges.{placed-still}
use Rattle.cl_damage.proofs.touching.children_of.Goals as goal

pub level_of-requires : goal.level_of-requires
level_of-requires g c =
    placed-still g.L.Leaf.bounds g.L.Leaf.moved_by g.met.L.Leaf.moves_bounds (trees_of c.nodes-nodes.result.now) c.summary.ensures.sound
