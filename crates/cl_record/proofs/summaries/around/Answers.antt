use Rattle.std.proofs.Common.{rules}
use Rattle.cl_region.proofs.Corners.{rect_is}
use Rattle.cl_record.specs.Boxes.{corner_box}
use Rattle.cl_record.proofs.summaries.around.Goals as goal

pub returns : goal.returns
returns c =
    rect_is (corner_box c.args.first c.args.second) _ _ _ _ (search rules) (search rules) (search rules) (search rules)
