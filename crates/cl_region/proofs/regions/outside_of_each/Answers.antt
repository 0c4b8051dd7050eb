use Rattle.std.proofs.Common.{◌+◌, drop, subst}
use Rattle.std.proofs.lemmas.List.{drop_more}
use Rattle.cl_region.proofs.Corners.{both, false_holds}
use Rattle.cl_region.proofs.Cuts.{IsRest, rest_cut, rest_first, rest_skip}
use Rattle.cl_region.proofs.regions.outside_of_each.Goals as goal
use Rattle.cl_region.proofs.regions.outside_of_each.Goals.{then-overlaps+in_ok-parts-2, else-overlaps}

pub loop-hole-init : goal.loop-hole-init
loop-hole-init c = rw c.in_ok-parts.ensures (rest_first c.args.rect c.args.holes.now)

pub loop-hole-preserved : goal.loop-hole-preserved
loop-hole-preserved c =
    let r = c.args.rect in
    let holes = c.args.holes.now in
    let i = c.loop-hole.hole-index in
    let left = drop_more holes i _ c.loop-hole-test.true in
    elim c.if-overlaps.branch [
      | then-overlaps+in_ok-parts-2 w ↦
          rw (w.parts-is, w.in_ok-parts-2.ensures, w.as_slice.ensures.value)
          (rest_cut r holes c.loop-hole.parts.items _ (drop (i + 1) holes)
          (subst (λ rs. IsRest r holes c.loop-hole.parts.items rs) left c.loop-hole.invariant))
      | else-overlaps w ↦
          rw w.parts-is
          (rest_skip r holes c.loop-hole.parts.items _ (drop (i + 1) holes)
          (λ x y h k. false_holds c.overlaps.result w.if-overlaps.false (c.overlaps.ensures.cells.1 (x, (y, both _ _ k h))))
          (subst (λ rs. IsRest r holes c.loop-hole.parts.items rs) left c.loop-hole.invariant))
    ]
