use Rattle.cl_damage.proofs.EqualLemmas.{touched-none}
use Rattle.cl_damage.proofs.laws.equal_children_touch_nothing.Goals as goal

pub returns : goal.returns
returns g c = λ same old new h. touched-none g.L.Leaf.bounds same old new h
