use Rattle.std.proofs.Common.{◌-◌, length, map}
use Rattle.cl_damage.specs.Lents.{child_lent}
use Rattle.cl_damage.proofs.AgreeLemmas.{AgreesOn}
use Rattle.cl_damage.proofs.agreeing.agreeing.Given as goal

abbrev pub invariant-loop-count : goal.invariant-loop-count
invariant-loop-count g l =
    AgreesOn g.L.Recognizable.same l.count (map (child_lent g.L.Leaf.moved_by) l.old) (map (child_lent g.L.Leaf.moved_by) l.new)

abbrev pub decreases-loop-count : goal.decreases-loop-count
decreases-loop-count g l = length l.old - l.count
