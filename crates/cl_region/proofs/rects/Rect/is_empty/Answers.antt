use Rattle.cl_region.proofs.Corners.{thin_test}
use Rattle.cl_region.proofs.rects.Rect.is_empty.Goals as goal

pub returns-clause-cells : goal.returns-clause-cells
returns-clause-cells c = thin_test c.args.self.now c.is_thin.result c.is_thin.ensures
