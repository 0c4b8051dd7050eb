use Rattle.cl_region.proofs.Cuts.{few_pieces, held-cut_all, pieces-cut_all}
use Rattle.cl_region.proofs.regions.Region.minus.Goals as goal

pub invariant_of-self : goal.invariant_of-self
invariant_of-self c =
    rw (c.in_ok-left.ensures, c.as_slice.ensures.value) (pieces-cut_all c.args.rect c.self.inside.rects.items c.self.invariant)

pub returns-clause-cells : goal.returns-clause-cells
returns-clause-cells c =
    λ x y. rw (c.in_ok-left.ensures, c.as_slice.ensures.value, ← c.self.view_is) (held-cut_all c.args.rect c.self.inside.rects.items x y)

pub returns-clause-few : goal.returns-clause-few
returns-clause-few c =
    rw (c.in_ok-left.ensures, c.as_slice.ensures.value, ← c.self.view_is) (few_pieces c.args.rect c.self.inside.rects.items)
