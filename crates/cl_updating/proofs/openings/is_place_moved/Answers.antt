use Rattle.std.proofs.Common.{◌∙◌, ◌+ℤ◌, rules}
use Rattle.std.proofs.lemmas.Int.{to_z-of_z}
use mir.Syntax.{w64}
use mir.Val.{SFits}
use Rattle.cl_reuse.specs.Keeping.{same_number}
use Rattle.cl_updating.proofs.OpeningLemmas.{both-so}
use Rattle.cl_updating.proofs.openings.is_place_moved.Goals as goal

pub returns-then-is_moved : goal.returns-then-is_moved
returns-then-is_moved c =
    let a = c.args in
    let dx : SFits w64 a.by.dx = search rules in
    let dy : SFits w64 a.by.dy = search rules in
    let x : SFits w64 a.x = c.ranges.x in
    let y : SFits w64 a.y = c.ranges.y in
    let to_x : SFits w64 a.to_x = c.ranges.to_x in
    let to_y : SFits w64 a.to_y = c.ranges.to_y in
    both-so c.is_moved.result (same_number (a.x +ℤ a.by.dx) a.to_x) c.is_moved-then-is_moved.result (same_number (a.y +ℤ a.by.dy) a.to_y)
    (c.is_moved.ensures ∙ (λ i. same_number (to_z-of_z w64 _ x i +ℤ to_z-of_z w64 _ dx i) (to_z-of_z w64 _ to_x i)))
    c.if-is_moved.true
    (c.is_moved-then-is_moved.ensures ∙ (λ i. same_number (to_z-of_z w64 _ y i +ℤ to_z-of_z w64 _ dy i) (to_z-of_z w64 _ to_y i)))
