use Rattle.std.proofs.Common.{◌∙◌, ap, subst, sym}
use Rattle.cl_region.specs.Places.{move_rect}
use Rattle.cl_region.specs.declared.rects.Rect.{Rect}
use Rattle.cl_redisplay.specs.Parts.{IsPart}
use Rattle.cl_redisplay.proofs.PartLemmas.{paints_item}
use Rattle.cl_redisplay.proofs.items.paint_item.Goals as goal

pub returns : goal.returns
returns g c =
    let item = g.L.Leaf.moved_by c.args.at c.args.item.now in
    let part = subst (λ (r : Rect). IsPart c.part-part.result c.args.area r)
    (c.shifted.ensures ∙ (ap (λ (r : Rect). move_rect c.args.at r) c.bounds.ensures.value ∙ sym (g.met.L.Leaf.moves_bounds c.args.at c.args.item.now))) c.part-part.ensures in
    paints_item g.L.Leaf.bounds g.L.Leaf.cell g.met.L.Leaf.within c.args.raster.now c.paint_part.new.raster c.args.area c.part-part.result item part c.paint_part.ensures
