use Rattle.std.proofs.Common.{◌≡◌, ℤ, rules, ◌∙◌, ap}
use Rattle.std.proofs.lemmas.Int.{to_z-of_z}
use Rattle.cl_region.specs.Places.{holds}
use Rattle.cl_region.specs.declared.rects.Rect.{Rect}
use mir.Syntax.{w64}
use mir.Val.{SFits}
use Rattle.cl_record.proofs.TouchWalks.{spot_is}
use Rattle.cl_record.proofs.touches.moved_holds.Goals as goal

pub returns : goal.returns
returns c =
    let across : SFits w64 c.args.spot.x = search rules in
    let down : SFits w64 c.args.spot.y = search rules in
    spot_is (λ (x y : ℤ). c.contains.result ≡ holds c.shifted.result x y) c.args.spot.x c.args.spot.y _ _ (to_z-of_z w64 _ across) (to_z-of_z w64 _ down) c.contains.ensures
    ∙ ap (λ (r : Rect). holds r c.args.spot.x c.args.spot.y) c.shifted.ensures
