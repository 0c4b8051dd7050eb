-- What is drawn of each kind, where numbers are handed on.
use Rattle.std.proofs.Common.{rules}
use Rattle.std.proofs.lemmas.Int.{to_z-of_z}
use mir.Syntax.{w64}
use mir.Val.{SFits}
use Rattle.cl_display.proofs.figures.draw.Goals as goal

pub returns-in-HorizontalLine : goal.returns-in-HorizontalLine
returns-in-HorizontalLine c =
    let x : SFits w64 c.args.parts.x = search rules in
    let y : SFits w64 c.args.parts.y = search rules in
    let length : SFits w64 c.in-HorizontalLine.length = search rules in
    rw c.in-HorizontalLine.is (simp to_z-of_z at c.draw_hline.ensures)

pub returns-in-VerticalLine : goal.returns-in-VerticalLine
returns-in-VerticalLine c =
    let x : SFits w64 c.args.parts.x = search rules in
    let y : SFits w64 c.args.parts.y = search rules in
    let length : SFits w64 c.in-VerticalLine.length = search rules in
    rw c.in-VerticalLine.is (simp to_z-of_z at c.draw_vline.ensures)

pub returns-in-Outline : goal.returns-in-Outline
returns-in-Outline c =
    let x : SFits w64 c.args.parts.x = search rules in
    let y : SFits w64 c.args.parts.y = search rules in
    let width : SFits w64 c.in-Outline.width = search rules in
    let height : SFits w64 c.in-Outline.height = search rules in
    rw c.in-Outline.is (simp to_z-of_z at c.draw_box.ensures)

pub returns-in-Filled : goal.returns-in-Filled
returns-in-Filled c =
    let x : SFits w64 c.args.parts.x = search rules in
    let y : SFits w64 c.args.parts.y = search rules in
    let width : SFits w64 c.in-Filled.width = search rules in
    let height : SFits w64 c.in-Filled.height = search rules in
    rw c.in-Filled.is (simp to_z-of_z at c.fill_box.ensures)
