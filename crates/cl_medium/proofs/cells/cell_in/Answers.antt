use Rattle.std.proofs.Common.{◌∙◌, ap, rules, ℕ, Option}
use Rattle.std.proofs.lemmas.Int.{to_z-of_z}
use mir.Syntax.{w64}
use mir.Val.{SFits}
use Rattle.cl_medium.specs.Items.{with_ink}
use Rattle.cl_medium.proofs.Sizes.{at_area, outside_area}
use Rattle.cl_medium.proofs.cells.cell_in.Goals as goal

pub returns-in-Some : goal.returns-in-Some
returns-in-Some c =
    let fx : SFits w64 c.args.x = c.ranges.x in
    let fy : SFits w64 c.args.y = c.ranges.y in
    let fa : SFits w64 c.in-Some.across = search rules in
    let fd : SFits w64 c.in-Some.down = search rules in
    let fw : SFits w64 c.args.area.now.width = search rules in
    let fh : SFits w64 c.args.area.now.height = search rules in
    let d = simp to_z-of_z at c.in-Some.ensures in
    let glyph = simp to_z-of_z at c.shape_glyph.ensures.value in
    c.inked.ensures ∙ (ap (λ (g : Option ℕ). with_ink c.args.area.now.ink g) glyph ∙ at_area c.args.shape.now c.args.area.now c.args.x c.args.y c.in-Some.across c.in-Some.down d)

pub returns-in-None : goal.returns-in-None
returns-in-None c =
    let fx : SFits w64 c.args.x = c.ranges.x in
    let fy : SFits w64 c.args.y = c.ranges.y in
    let d = simp to_z-of_z at c.in-None.ensures in
    outside_area c.args.shape.now c.args.area.now c.args.x c.args.y d
