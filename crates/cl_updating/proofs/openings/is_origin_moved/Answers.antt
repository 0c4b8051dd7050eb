use Rattle.std.proofs.Common.{◌∙◌, ap, ◌+ℤ◌, rules}
use Rattle.std.specs.Prelude.{◌&&◌}
use Rattle.std.proofs.lemmas.Int.{to_z-of_z}
use mir.Syntax.{w64}
use mir.Val.{SFits}
use Rattle.cl_medium.specs.Ambients.{AmbientAt}
use Rattle.cl_reuse.specs.Keeping.{same_number}
use Rattle.cl_updating.proofs.openings.is_origin_moved.Goals as goal

pub returns : goal.returns
returns c =
    let by = c.args.by in
    let x : SFits w64 c.from.inside.origin_x = search rules in
    let y : SFits w64 c.from.inside.origin_y = search rules in
    let to_x : SFits w64 c.to.inside.origin_x = search rules in
    let to_y : SFits w64 c.to.inside.origin_y = search rules in
    let left = to_z-of_z w64 _ x ∙ ap (λ (a : AmbientAt). a.origin_x) c.from.view_is in
    let top = to_z-of_z w64 _ y ∙ ap (λ (a : AmbientAt). a.origin_y) c.from.view_is in
    let right = to_z-of_z w64 _ to_x ∙ ap (λ (a : AmbientAt). a.origin_x) c.to.view_is in
    let bottom = to_z-of_z w64 _ to_y ∙ ap (λ (a : AmbientAt). a.origin_y) c.to.view_is in
    c.is_place_moved.ensures ∙ (λ i. same_number (left i +ℤ by.dx) (right i) && same_number (top i +ℤ by.dy) (bottom i))
