use Rattle.std.proofs.Common.{◌+◌, drop, subst, sym}
use Rattle.std.proofs.lemmas.List.{drop_more}
use Rattle.cl_region.specs.Pieces.{IsApart}
use Rattle.cl_region.proofs.Corners.{false_holds, wrong}
use Rattle.cl_region.proofs.Joins.{apart_more, not_apart}
use Rattle.cl_region.proofs.regions.is_apart.Goals as goal

pub returns-then-overlaps : goal.returns-then-overlaps
returns-then-overlaps c =
    let i = c.loop-other.other-index in
    let rects = c.args.rects.now in
    let left = drop_more rects i _ c.loop-other-test.true in (
      (λ t. absurd (wrong t)),
      (λ a. absurd (not_apart c.args.rect.now _ (drop (i + 1) rects) (c.overlaps.ensures.cells.0 c.if-overlaps.true)
          (subst (λ rs. IsApart c.args.rect.now rs) left (c.loop-other.invariant.1 a)))),
    )

pub loop-other-preserved : goal.loop-other-preserved
loop-other-preserved c =
    let i = c.loop-other.other-index in
    let rects = c.args.rects.now in
    let left = drop_more rects i _ c.loop-other-test.true in
    let same = apart_more c.args.rect.now _ (drop (i + 1) rects)
    (λ s. false_holds c.overlaps.result c.if-overlaps.false (c.overlaps.ensures.cells.1 s)) in (
      (λ a. c.loop-other.invariant.0 (subst (λ rs. IsApart c.args.rect.now rs) (sym left) (same.1 a))),
      (λ a. same.0 (subst (λ rs. IsApart c.args.rect.now rs) left (c.loop-other.invariant.1 a))),
    )
