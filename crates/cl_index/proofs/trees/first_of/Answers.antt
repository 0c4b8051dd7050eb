use Rattle.std.proofs.Common.{◌+◌, ◌∙◌, ap, arith, drop, sym}
use Rattle.std.proofs.lemmas.List.{drop_more}
use Rattle.cl_index.specs.Found.{overlaps}
use Rattle.cl_index.specs.Boxes.{after}
use Rattle.cl_index.proofs.Walked.{after_early, after_fails}
use Rattle.cl_index.proofs.trees.first_of.Goals as goal
use Rattle.cl_index.proofs.trees.first_of.Goals.{else-from-base-via-then-from-base+else-overlaps, else-from-base-via-else-from-base}

pub loop-i-preserved : goal.loop-i-preserved
loop-i-preserved c =
    let rects = c.args.rects.now in
    let p = overlaps c.args.rect.now in
    let i = c.loop-i.i in
    let n = c.args.base + i in
    let m = c.args.base + (i + 1) in
    let left = drop_more rects i _ c.loop-i-test.true in
    let before = ap (λ rs. after c.args.from p n rs) (sym left) ∙ c.loop-i.invariant in
    elim c.else-from-base.branch [
      | else-from-base-via-then-from-base+else-overlaps w ↦
          after_fails p c.args.from n m _ (drop (i + 1) rects) (omega arith) (sym w.overlaps.ensures.sides ∙ w.if-overlaps.false) ∙ before
      | else-from-base-via-else-from-base w ↦
          after_early p c.args.from n m _ (drop (i + 1) rects) (omega arith) (omega (arith, w.if-from-base.false)) ∙ before
    ]
