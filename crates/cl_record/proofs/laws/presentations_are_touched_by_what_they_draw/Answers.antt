use Rattle.cl_record.proofs.TouchWalks.{shown-labels}
use Rattle.cl_record.proofs.laws.presentations_are_touched_by_what_they_draw.Goals as goal

pub returns : goal.returns
returns g c = λ x y l p ts. shown-labels g.L.Leaf.bounds x y g.L.Leaf.moved_by g.met.L.Leaf.moves_twice l p ts
