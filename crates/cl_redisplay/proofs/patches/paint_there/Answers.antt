use Rattle.std.proofs.Common.{◌≡◌, ℤ, List, [], ◌∷◌, ◌∙◌, ap, sym, subst, rules, arith}
use Rattle.std.proofs.lemmas.Int.{to_z-of_z}
use mir.Syntax.{w64}
use mir.Val.{SFits}
use Rattle.cl_region.specs.Places.{move_rect}
use Rattle.cl_region.specs.declared.rects.Rect.{Rect}
use Rattle.cl_spans.specs.SpanRows.{row_of, spans_hold}
use Rattle.cl_spans.specs.declared.runs.Span.{Span}
use Rattle.cl_redisplay.specs.Patches.{row_places}
use Rattle.cl_redisplay.specs.Touching.{PaintsThose}
use Rattle.cl_redisplay.proofs.PatchLemmas.{one_row_painted, those_bounded}
use Rattle.cl_redisplay.proofs.patches.paint_there.Goals as goal

pub loop-row-preserved : goal.loop-row-preserved
loop-row-preserved g c =
    let item = g.L.Leaf.moved_by c.args.at c.args.item.now in
    let fits : SFits w64 c.from.result = search rules in
    let spans = (simp to_z-of_z at c.row.ensures.row) ∙ ap (λ (y : ℤ). row_of c.args.touched.now y) c.from.ensures in
    one_row_painted g.L.Leaf.cell c.args.raster.now c.loop-row.raster c.paint_row.new.raster c.args.area c.args.touched.now c.clip-top.result c.loop-row.row item
    c.loop-row.invariant
    (subst (λ (ss : List Span). PaintsThose g.L.Leaf.cell c.loop-row.raster c.paint_row.new.raster c.args.area (row_places ss c.loop-row.row) (item ∷ []))
    spans c.paint_row.ensures)

pub returns : goal.returns
returns g c =
    let item = g.L.Leaf.moved_by c.args.at c.args.item.now in
    let bounds : c.shifted-bounds.result ≡ g.L.Leaf.bounds item =
    c.shifted-bounds.ensures ∙ (ap (λ (r : Rect). move_rect c.args.at r) c.bounds.ensures.value ∙ sym (g.met.L.Leaf.moves_bounds c.args.at c.args.item.now)) in
    let first : SFits w64 c.shifted-bounds.result.y1 = search rules in
    let last : SFits w64 c.shifted-bounds.result.y2 = search rules in
    let top = simp to_z-of_z at c.clip-top.ensures.value in
    let bottom = simp to_z-of_z at c.clip-bottom.ensures.value in
    those_bounded g.L.Leaf.bounds g.L.Leaf.cell g.met.L.Leaf.within c.args.raster.now c.loop-row.raster c.args.area (spans_hold c.args.touched.now) c.shifted-bounds.result
    c.clip-top.result c.clip-bottom.result c.loop-row.row item bounds top bottom (omega (arith, c.loop-row-test.false)) c.loop-row.invariant.those
