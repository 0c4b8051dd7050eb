use Rattle.cl_record.specs.Marks.{marks_of}
use Rattle.cl_record.proofs.Ranges.{fits-all}
use Rattle.cl_record.proofs.laws.moves_keep_all_in_range.Goals as goal

pub returns : goal.returns
returns g c = λ v t. fits-all g.L.Leaf.bounds g.L.Leaf.moved_by g.met.L.Leaf.moves_bounds v (marks_of g.L.Leaf.moved_by t)
