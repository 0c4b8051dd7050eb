use Rattle.cl_outside.proofs.Grids.{IsCells-new, AllBlank-new}
use Rattle.cl_outside.proofs.grid.Grid.new.Goals as goal

pub invariant_of-result : goal.invariant_of-result
invariant_of-result c = IsCells-new _ _ c.in_ok-glyphs.ensures c.in_ok-inks.ensures

pub returns : goal.returns
returns c = AllBlank-new _ c.in_ok-glyphs.ensures c.in_ok-inks.ensures
