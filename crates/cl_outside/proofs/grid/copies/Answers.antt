use Rattle.cl_outside.proofs.grid.copies.Goals as goal

pub returns : goal.returns
returns c = c.in_ok-values.ensures.items_if_clones_equal (λ y same. same)
