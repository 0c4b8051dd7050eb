use Rattle.std.proofs.Common.{◌↔◌, rules}
use Rattle.std.specs.Prelude.{IsTrue}
use Rattle.std.proofs.lemmas.Int.{to_z-of_z}
use mir.Syntax.{w64}
use mir.Val.{SFits}
use Rattle.cl_record.specs.Heads.{Point}
use Rattle.cl_record.specs.Ranges.{HoldsPoint}
use Rattle.cl_record.proofs.Moves.{place_is}
use Rattle.cl_record.proofs.measuring.holds_last.Goals as goal

pub returns : goal.returns
returns c =
    let across : SFits w64 c.args.other.now.x2 = search rules in
    let down : SFits w64 c.args.other.now.y2 = search rules in
    place_is (λ (p : Point). IsTrue c.holds_place.result ↔ HoldsPoint c.args.rect.now p) c.args.other.now.x2 c.args.other.now.y2 _ _ (to_z-of_z w64 _ across) (to_z-of_z w64 _ down) c.holds_place.ensures
