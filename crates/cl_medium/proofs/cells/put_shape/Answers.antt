use Rattle.std.proofs.Common.{◌∙◌, ap, ℤ, rules}
use Rattle.std.proofs.lemmas.Int.{to_z-of_z}
use mir.Syntax.{w64}
use mir.Val.{SFits, of_z, to_z}
use Rattle.cl_medium.specs.Items.{item_cell}
use Rattle.cl_medium.proofs.Filled.{filled-all, filled-more}
use Rattle.cl_medium.proofs.cells.put_shape.Goals as goal

pub loop-place-preserved : goal.loop-place-preserved
loop-place-preserved c =
    let column : SFits w64 c.column.result = search rules in
    let found = simp to_z-of_z at c.cell_in.ensures in
    filled-more _ _ _ _ _ _ _ c.loop-place.invariant c.loop-place-test.true
    (found ∙ ap (λ (z : ℤ). item_cell (record { area = c.args.area.now; shape = c.args.shape.now }) z (to_z w64 (of_z w64 c.args.y))) c.column.ensures)

pub returns : goal.returns
returns c =
    let fx : SFits w64 c.args.x = c.ranges.x in
    let fy : SFits w64 c.args.y = c.ranges.y in
    filled-all _ _ _ _ _ c.loop-place.place c.loop-place-test.false (simp to_z-of_z at c.loop-place.invariant)
