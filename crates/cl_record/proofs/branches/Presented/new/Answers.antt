use Rattle.cl_record.specs.Trees.{trees_of}
use Rattle.cl_record.proofs.Ranges.{still-place, row-range}
use Rattle.cl_record.proofs.branches.Presented.new.Goals as goal

pub invariant_of-result : goal.invariant_of-result
invariant_of-result g c =
    let sound = c.summary.ensures.sound in
    rw c.in_ok-body.ensures.ok (record { sound = (sound, still-place _ (row-range g.L.Leaf.bounds g.L.Leaf.moved_by g.met.L.Leaf.moves_bounds (trees_of c.args.inside) sound)) })
