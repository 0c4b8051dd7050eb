use Rattle.std.proofs.Common.{◌≡◌, ◌+◌, pos, List, false, drop, get_or, subst, sym, rules}
use Rattle.std.proofs.lemmas.Int.{to_z-of_z}
use mir.Syntax.{w64}
use mir.Val.{SFits}
use Rattle.std.proofs.lemmas.List.{drop_more}
use Rattle.cl_spans.specs.Runs.{row_holds}
use Rattle.cl_spans.specs.declared.runs.Span.{Span}
use Rattle.cl_redisplay.proofs.PatchLemmas.{span_apart}
use Rattle.cl_redisplay.proofs.patches.row_meets.Goals as goal

pub loop-span-preserved : goal.loop-span-preserved
loop-span-preserved c = λ x there rest.
    let i = c.loop-span.span-index in
    let spans = c.args.spans.now in
    let span = get_or spans i (record { x1 = pos 0; x2 = pos 0 }) in
    let left = drop_more spans i (record { x1 = pos 0; x2 = pos 0 }) c.loop-span-test.true in
    let most : SFits w64 c.max.result = search rules in
    let least : SFits w64 c.min.result = search rules in
    let test = simp to_z-of_z at c.if-max-min.false in
    let first : SFits w64 span.x1 = search rules in
    let last : SFits w64 span.x2 = search rules in
    let low : SFits w64 c.args.rect.now.x1 = search rules in
    let high : SFits w64 c.args.rect.now.x2 = search rules in
    let begins = simp to_z-of_z at c.max.ensures.value in
    let ends = simp to_z-of_z at c.min.ensures.value in
    c.loop-span.invariant x there (subst (λ (ss : List Span). row_holds ss x ≡ false) (sym left)
    (span_apart span c.args.rect.now (drop (i + 1) spans) x c.max.result c.min.result begins ends test there rest))
