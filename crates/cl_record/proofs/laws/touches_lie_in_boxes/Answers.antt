use Rattle.cl_record.proofs.Touched.{touches-box}
use Rattle.cl_record.proofs.laws.touches_lie_in_boxes.Goals as goal

pub returns : goal.returns
returns g c = λ x y l items h. touches-box g.L.Leaf.bounds x y l items h
