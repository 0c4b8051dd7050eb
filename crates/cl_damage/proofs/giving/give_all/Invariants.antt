use Rattle.std.proofs.Common.{◌≡◌, ◌++◌, map, drop}
use Rattle.cl_damage.specs.Lents.{child_lent}
use Rattle.cl_damage.specs.Touched.{all_give}
use Rattle.cl_damage.proofs.giving.give_all.Given as goal

abbrev pub invariant-loop-child : goal.invariant-loop-child
invariant-loop-child g l =
    l.rects.items ++ all_give g.L.Leaf.bounds (map (child_lent g.L.Leaf.moved_by) (drop l.child-index l.children))
    ≡ l.initial.rects.items ++ all_give g.L.Leaf.bounds (map (child_lent g.L.Leaf.moved_by) l.children)
