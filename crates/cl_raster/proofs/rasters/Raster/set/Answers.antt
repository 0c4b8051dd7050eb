use Rattle.std.proofs.Common.{subst, arith}
use Rattle.cl_raster.specs.Raster.{Picture, Sets}
use Rattle.cl_raster.specs.contracts.rasters.Raster.{the_view}
use Rattle.cl_raster.proofs.Places.{sets-put}
use Rattle.cl_raster.proofs.rasters.Raster.set.Goals as goal

pub returns : goal.returns
returns c =
    let r = rw (← c.self.view_is) at c.requires in
    subst (λ (p : Picture). Sets p (the_view (record { width = c.self.inside.width; height = c.self.inside.height; glyphs = c.put.new.cells; inks = c.put-2.new.cells })) c.args.x c.args.y c.args.cell.glyph c.args.cell.ink)
    c.self.view_is
    (sets-put c.self.inside.width c.self.inside.height c.args.x c.args.y c.args.cell.glyph c.args.cell.ink
    c.self.inside.glyphs.items c.self.inside.inks.items c.put.new.cells.items c.put-2.new.cells.items
    r.column r.row (omega (arith, c.self.invariant.glyph_places)) (omega (arith, c.self.invariant.ink_places)) c.put.ensures c.put-2.ensures)
