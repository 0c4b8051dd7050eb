use Rattle.std.proofs.Common.{◌∙◌, refl}
use Rattle.std.proofs.lemmas.Int.{to_z-of_z}
use mir.Syntax.{w64}
use mir.Val.{SFits}
use Rattle.cl_medium.proofs.drawing.draw_hline.Goals as goal

pub returns-in-Within : goal.returns-in-Within
returns-in-Within c =
    let f_x : SFits w64 c.args.x = c.ranges.x in
    let f_y : SFits w64 c.args.y = c.ranges.y in
    let f_length : SFits w64 c.args.length = c.ranges.length in
    let d = simp to_z-of_z at c.in-Within.ensures in
    (c.new.ensures ∙ rw d.0 refl, d.1, d.2)

pub returns-in-Range : goal.returns-in-Range
returns-in-Range c =
    let f_x : SFits w64 c.args.x = c.ranges.x in
    let f_y : SFits w64 c.args.y = c.ranges.y in
    let f_length : SFits w64 c.args.length = c.ranges.length in
    simp to_z-of_z at c.in-Range.ensures
