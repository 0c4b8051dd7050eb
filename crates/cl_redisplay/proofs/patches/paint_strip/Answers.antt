use Rattle.std.proofs.Common.{◌≡◌, ◌&&◌, ◌∙◌, ap, sym}
use Rattle.cl_region.specs.Places.{holds, move_rect}
use Rattle.cl_region.specs.declared.rects.Rect.{Rect}
use Rattle.cl_redisplay.proofs.PatchLemmas.{those_part}
use Rattle.cl_redisplay.proofs.patches.paint_strip.Goals as goal

pub returns : goal.returns
returns g c =
    let item = g.L.Leaf.moved_by c.args.at c.args.item.now in
    let bounds : c.shifted-bounds.result ≡ g.L.Leaf.bounds item =
    c.shifted-bounds.ensures ∙ (ap (λ (r : Rect). move_rect c.args.at r) c.bounds.ensures.value ∙ sym (g.met.L.Leaf.moves_bounds c.args.at c.args.item.now)) in
    those_part g.L.Leaf.bounds g.L.Leaf.cell g.met.L.Leaf.within c.args.raster.now c.paint_part.new.raster c.args.area c.part-part.result c.meet.result
    c.args.places.now item c.part-part.ensures
    (λ x y. c.meet.ensures.cells x y ∙ ap (λ (r : Rect). holds r x y && holds c.args.places.now x y) bounds) c.paint_part.ensures
