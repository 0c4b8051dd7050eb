use Rattle.std.proofs.Common.{◌+◌, pos, List, drop, subst, arith}
use Rattle.std.proofs.lemmas.List.{drop_all, drop_more}
use Rattle.cl_region.specs.declared.rects.Rect.{Rect}
use Rattle.cl_spans.specs.declared.runs.Span.{Span}
use Rattle.cl_redisplay.specs.Parts.{IsPart}
use Rattle.cl_redisplay.specs.Patches.{blank_everywhere}
use Rattle.cl_redisplay.proofs.PatchLemmas.{GoesAlong, goes_along, those_blank, went_along}
use Rattle.cl_redisplay.proofs.patches.blank_row.Goals as goal

pub loop-span-preserved : goal.loop-span-preserved
loop-span-preserved c =
    let i = c.loop-span.span-index in
    let spans = c.args.spans.now in
    let left = drop_more spans i (record { x1 = pos 0; x2 = pos 0 }) c.loop-span-test.true in
    let before = subst (λ (ss : List Span). GoesAlong blank_everywhere c.args.raster.now c.loop-span.raster c.args.area tt c.args.row spans ss) left c.loop-span.invariant in
    let part = subst (λ (r : Rect). IsPart c.part-part.result c.args.area r) c.strip.ensures c.part-part.ensures in
    goes_along blank_everywhere c.args.raster.now c.loop-span.raster c.blank.new.raster c.args.area tt c.args.row spans (drop (i + 1) spans) _ before
    (those_blank c.loop-span.raster c.blank.new.raster c.args.area c.part-part.result _ part c.blank.ensures)

pub returns : goal.returns
returns c =
    let i = c.loop-span.span-index in
    let spans = c.args.spans.now in
    let none = drop_all i spans (omega (arith, c.loop-span-test.false)) in
    went_along blank_everywhere c.args.raster.now c.loop-span.raster c.args.area tt c.args.row spans
    (subst (λ (ss : List Span). GoesAlong blank_everywhere c.args.raster.now c.loop-span.raster c.args.area tt c.args.row spans ss) none c.loop-span.invariant)
