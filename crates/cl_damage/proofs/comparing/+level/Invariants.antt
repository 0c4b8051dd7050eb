use Rattle.std.proofs.Common.{◌+◌, ◌*◌, drop, map}
use Rattle.cl_damage.specs.Lents.{child_lent}
use Rattle.cl_damage.specs.Steps.{size_of, sizes_of}
use Rattle.cl_damage.proofs.PairLemmas.{PairsOn}
use Rattle.cl_damage.proofs.comparing.+level.Given as goal

abbrev pub decreases-pair : goal.decreases-pair
decreases-pair g l = 4 * size_of (child_lent g.L.Leaf.moved_by l.new.now)

abbrev pub decreases-one : goal.decreases-one
decreases-one g l = 4 * size_of (child_lent g.L.Leaf.moved_by l.new.now) + 1

abbrev pub decreases-pairs : goal.decreases-pairs
decreases-pairs g l = 4 * sizes_of (map (child_lent g.L.Leaf.moved_by) l.new.now) + 2

abbrev pub decreases-rest : goal.decreases-rest
decreases-rest g l = 4 * sizes_of (map (child_lent g.L.Leaf.moved_by) l.new.now) + 3

abbrev pub decreases-level : goal.decreases-level
decreases-level g l = 4 * sizes_of (map (child_lent g.L.Leaf.moved_by) l.new.now) + 4

abbrev pub invariant-pairs-loop-child : goal.invariant-pairs-loop-child
invariant-pairs-loop-child g l =
    PairsOn g.L.Leaf.bounds g.L.Recognizable.same (map (child_lent g.L.Leaf.moved_by) l.old) l.next
    (map (child_lent g.L.Leaf.moved_by) l.new) (map (child_lent g.L.Leaf.moved_by) (drop l.child-index l.new)) l.initial.rects.items l.rects.items
