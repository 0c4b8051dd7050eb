use Rattle.cl_region.proofs.Corners.{some_common}
use Rattle.cl_region.proofs.rects.Rect.overlaps.Goals as goal

pub returns-clause-cells : goal.returns-clause-cells
returns-clause-cells c = some_common c.meet.result c.args.self.now c.args.other.now c.meet.ensures.cells c.is_empty.result c.is_empty.ensures.cells
