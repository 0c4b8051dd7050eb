use Rattle.std.proofs.Common.{◌∙◌, rules, arith}
use Rattle.std.proofs.lemmas.Int.{to_z-of_z}
use Rattle.std.proofs.lemmas.List.{length-take-le}
use mir.Syntax.{w64}
use mir.Val.{SFits}
use Rattle.cl_redisplay.proofs.RowLemmas.{paints_row}
use Rattle.cl_redisplay.proofs.items.paint_line.Goals as goal

pub returns : goal.returns
returns g c =
    let x : SFits w64 c.from.result = search rules in
    let y : SFits w64 c.from-2.result = search rules in
    let row = simp to_z-of_z at c.put_row.ensures in
    paints_row g.L.Leaf.cell c.args.raster.now c.put_cells.new.raster c.args.area c.args.line (g.L.Leaf.moved_by c.args.at c.args.item.now) c.put_row.new.cells _ _ _
    c.requires.inside c.requires.one c.from.ensures c.from-2.ensures (row.count ∙ length-take-le c.args.line.width c.args.cells.now (omega (arith, c.told-cells, c.requires.inside.right, c.requires.lies.columns, c.requires.lies.most_columns))) row c.put_cells.ensures
