use Rattle.cl_damage.proofs.ChildLemmas.{children-hold}
use Rattle.cl_damage.proofs.laws.children_hold_what_records_draw.Goals as goal

pub returns : goal.returns
returns g c = λ at ts. children-hold g.L.Leaf.moved_by g.met.L.Leaf.moves_twice at ts
