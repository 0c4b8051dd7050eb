use Rattle.std.proofs.Common.{◌+◌, pos, List, [], ◌∷◌, drop, subst, arith}
use Rattle.std.proofs.lemmas.List.{drop_all, drop_more}
use Rattle.cl_region.specs.Places.{holds}
use Rattle.cl_region.specs.declared.rects.Rect.{Rect}
use Rattle.cl_spans.specs.declared.runs.Span.{Span}
use Rattle.cl_redisplay.specs.Touching.{PaintsThose}
use Rattle.cl_redisplay.proofs.PatchLemmas.{GoesAlong, goes_along, went_along}
use Rattle.cl_redisplay.proofs.patches.paint_row.Goals as goal

pub loop-span-preserved : goal.loop-span-preserved
loop-span-preserved g c =
    let i = c.loop-span.span-index in
    let spans = c.args.spans.now in
    let item = g.L.Leaf.moved_by c.args.at c.args.item.now in
    let left = drop_more spans i (record { x1 = pos 0; x2 = pos 0 }) c.loop-span-test.true in
    let before = subst (λ (ss : List Span). GoesAlong g.L.Leaf.cell c.args.raster.now c.loop-span.raster c.args.area item c.args.row spans ss) left c.loop-span.invariant in
    goes_along g.L.Leaf.cell c.args.raster.now c.loop-span.raster c.paint_strip.new.raster c.args.area item c.args.row spans (drop (i + 1) spans) _ before
    (subst (λ (r : Rect). PaintsThose g.L.Leaf.cell c.loop-span.raster c.paint_strip.new.raster c.args.area (holds r) (item ∷ [])) c.strip.ensures c.paint_strip.ensures)

pub returns : goal.returns
returns g c =
    let i = c.loop-span.span-index in
    let spans = c.args.spans.now in
    let item = g.L.Leaf.moved_by c.args.at c.args.item.now in
    let none = drop_all i spans (omega (arith, c.loop-span-test.false)) in
    went_along g.L.Leaf.cell c.args.raster.now c.loop-span.raster c.args.area item c.args.row spans
    (subst (λ (ss : List Span). GoesAlong g.L.Leaf.cell c.args.raster.now c.loop-span.raster c.args.area item c.args.row spans ss) none c.loop-span.invariant)
