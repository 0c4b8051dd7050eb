use Rattle.cl_medium.proofs.Sizes.{items_apart, items_same, same_areas, unequal_areas}
use Rattle.cl_medium.proofs.any_leaf.AnyLeafLeaf.same.Goals as goal

pub returns-then-not-same : goal.returns-then-not-same
returns-then-not-same c = items_apart _ _ _ _ _ _ c.self.view_is c.other.view_is (unequal_areas _ _ _ c.if-not-same.true c.same.ensures)

pub returns : goal.returns
returns c = items_same _ _ _ _ _ _ _ c.self.view_is c.other.view_is (same_areas _ _ _ c.if-not-same.false c.same.ensures) c.same-2.ensures
