use Rattle.std.proofs.Common.{subst, rules}
use Rattle.std.proofs.lemmas.Int.{to_z-of_z}
use mir.Syntax.{w64}
use mir.Val.{SFits}
use Rattle.cl_raster.specs.Raster.{Blanks, Picture}
use Rattle.cl_raster.specs.contracts.rasters.Raster.{the_view}
use Rattle.cl_raster.proofs.Boxes.{blanks-filled, filled_cells}
use Rattle.cl_raster.proofs.rasters.Raster.blank.Goals as goal

pub invariant_of-self : goal.invariant_of-self
invariant_of-self c =
    filled_cells c.self.inside.width c.self.inside.height c.clip-x1.result c.clip-x2.result c.clip-y1.result c.clip-y2.result
    c.self.inside.glyphs.items c.self.inside.inks.items c.fill_box.new.cells.items c.fill_box-2.new.cells.items
    c.self.invariant c.fill_box.ensures c.fill_box-2.ensures

pub returns : goal.returns
returns c =
    let a : SFits w64 c.args.rect.now.x1 = search rules in
    let a_is = simp to_z-of_z at c.clip-x1.ensures.value in
    let b : SFits w64 c.args.rect.now.x2 = search rules in
    let b_is = simp to_z-of_z at c.clip-x2.ensures.value in
    let d : SFits w64 c.args.rect.now.y1 = search rules in
    let d_is = simp to_z-of_z at c.clip-y1.ensures.value in
    let e : SFits w64 c.args.rect.now.y2 = search rules in
    let e_is = simp to_z-of_z at c.clip-y2.ensures.value in
    subst (λ (p : Picture). Blanks p (the_view (record { width = c.self.inside.width; height = c.self.inside.height; glyphs = c.fill_box.new.cells; inks = c.fill_box-2.new.cells })) c.args.rect.now)
    c.self.view_is
    (blanks-filled c.self.inside.width c.self.inside.height c.args.rect.now c.clip-x1.result c.clip-x2.result c.clip-y1.result c.clip-y2.result
    c.self.inside.glyphs.items c.self.inside.inks.items c.fill_box.new.cells.items c.fill_box-2.new.cells.items
    a_is b_is d_is e_is c.fill_box.ensures c.fill_box-2.ensures)
