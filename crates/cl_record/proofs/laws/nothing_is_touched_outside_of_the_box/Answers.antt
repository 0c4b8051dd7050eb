use Rattle.cl_record.proofs.TouchWalks.{none-outside}
use Rattle.cl_record.proofs.laws.nothing_is_touched_outside_of_the_box.Goals as goal

pub returns : goal.returns
returns g c = λ x y ts e. none-outside g.L.Leaf.bounds x y g.L.Leaf.moved_by g.met.L.Leaf.moves_twice g.met.L.Leaf.stays ts e
