use Rattle.std.proofs.Common.{map, take}
use Rattle.cl_damage.specs.Lents.{child_lent}
use Rattle.cl_damage.specs.Places.{KnowsPlaces}
use Rattle.cl_damage.proofs.places.places_of.Given as goal

abbrev pub invariant-loop-place : goal.invariant-loop-place
invariant-loop-place g l = KnowsPlaces l.places.entries (map (child_lent g.L.Leaf.moved_by) (take l.place l.children))
