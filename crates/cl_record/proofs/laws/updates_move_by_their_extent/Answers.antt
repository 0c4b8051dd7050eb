use Rattle.cl_record.proofs.Ranges.{fits-extent}
use Rattle.cl_record.proofs.laws.updates_move_by_their_extent.Goals as goal

pub returns : goal.returns
returns g c = λ v p h ts s. fits-extent g.L.Leaf.bounds g.L.Leaf.moved_by g.met.L.Leaf.moves_bounds v p h ts s
