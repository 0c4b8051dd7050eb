use Rattle.std.proofs.Common.{◌+◌, ◌-◌, pos, arith}
use Rattle.cl_redisplay.specs.Parts.{row_cell}
use Rattle.cl_redisplay.proofs.PartLemmas.{no_place, set_place}
use Rattle.cl_redisplay.proofs.RowLemmas.{row_place}
use Rattle.cl_redisplay.proofs.items.put_cell.Goals as goal

pub returns-in-Some : goal.returns-in-Some
returns-in-Some c =
    let line = c.args.line in
    set_place row_cell c.args.raster.now c.set.new.self line c.args.cells.now (line.x + c.args.column) line.y c.in-Some.cell.glyph c.in-Some.cell.ink
    (row_place c.args.cells.now line.x c.args.column (pos (line.y - line.y)) _ _ (omega (arith, c.requires.count, c.requires.place)) c.in-Some.is) c.set.ensures

pub returns-in_default : goal.returns-in_default
returns-in_default c =
    let line = c.args.line in
    no_place row_cell c.args.raster.now line c.args.cells.now (line.x + c.args.column) line.y
    (row_place c.args.cells.now line.x c.args.column (pos (line.y - line.y)) _ _ (omega (arith, c.requires.count, c.requires.place)) c.in_default.is)
