use Rattle.std.proofs.Common.{◌≡◌, ℤ, List, false, ◌∙◌, ap, subst, rules}
use Rattle.std.proofs.lemmas.Int.{to_z-of_z}
use mir.Syntax.{w64}
use mir.Val.{SFits}
use Rattle.cl_spans.specs.Runs.{row_holds}
use Rattle.cl_spans.specs.SpanRows.{row_of}
use Rattle.cl_spans.specs.declared.runs.Span.{Span}
use Rattle.cl_redisplay.proofs.PatchLemmas.{apart_more}
use Rattle.cl_redisplay.proofs.patches.meets.Goals as goal

pub loop-row-preserved : goal.loop-row-preserved
loop-row-preserved c =
    let fits : SFits w64 c.from.result = search rules in
    let spans = (simp to_z-of_z at c.row.ensures.row) ∙ ap (λ (y : ℤ). row_of c.args.touched.now y) c.from.ensures in
    apart_more c.args.touched.now c.loop-row.row c.args.rect.now c.loop-row.invariant
    (λ x y h. subst (λ (ss : List Span). row_holds ss x ≡ false) spans (c.row_meets.ensures c.if-row_meets.false x y h))
