use Rattle.std.proofs.Common.{◌≡◌, ◌-◌, ◌+◌, ◌∷◌, ◌∙◌, ap, arith, subst, take}
use Rattle.std.proofs.lemmas.List.{take_more}
use Rattle.cl_region.specs.Pieces.{ArePiecesOf}
use Rattle.cl_region.proofs.Joins.{joined}
use Rattle.cl_region.proofs.regions.joined_with_last.Goals as goal

pub loop-left-preserved : goal.loop-left-preserved
loop-left-preserved c =
    let rects = c.args.rects.now in
    let left = c.loop-left.left in
    let all = c.args.rect ∷ rects in
    let more : left ≡ (left - 1) + 1 = omega (arith, c.loop-left-test.true) in
    let before = ap (λ n. take n rects) more ∙ take_more rects (left - 1) _ (omega (arith, c.loop-left-test.true, c.loop-left.invariant.0)) in (
      omega (arith, c.loop-left.invariant.0),
      joined all (take (left - 1) rects) _ c.loop-left.whole c.corners_box-whole.result c.corners_box-whole.ensures.corners
          (c.continues.ensures.0 c.if-continues.true)
          (subst (λ ps. ArePiecesOf all (c.loop-left.whole ∷ ps)) before c.loop-left.invariant.1),
    )
