use Rattle.std.proofs.Common.{◌∙◌, ap, sym}
use Rattle.cl_region.specs.Places.{holds, move_rect}
use Rattle.cl_region.specs.declared.rects.Rect.{Rect}
use Rattle.cl_record.proofs.TouchWalks.{or-false}
use Rattle.cl_record.proofs.touches.leaf_holds.Goals as goal

pub returns : goal.returns
returns g c =
    let bounds = ap (λ (r : Rect). move_rect c.args.at r) c.bounds.ensures.value ∙ sym (g.met.L.Leaf.moves_bounds c.args.at c.args.leaf.now) in
    c.moved_holds.ensures ∙ (ap (λ (r : Rect). holds r c.args.spot.x c.args.spot.y) bounds ∙ sym (or-false _))
