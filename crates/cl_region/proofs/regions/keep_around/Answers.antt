use Rattle.std.proofs.Common.{append_assoc, rules}
use Rattle.std.proofs.lemmas.Int.{to_z-of_z}
use mir.Syntax.{w64}
use mir.Val.{SFits}
use Rattle.cl_region.proofs.regions.keep_around.Goals as goal

pub returns : goal.returns
returns c =
    let a : SFits w64 c.args.rect.x1 = search rules in
    let b : SFits w64 c.args.rect.y1 = search rules in
    let d : SFits w64 c.args.rect.x2 = search rules in
    let e : SFits w64 c.args.rect.y2 = search rules in
    let f : SFits w64 c.args.part.x1 = search rules in
    let g : SFits w64 c.args.part.y1 = search rules in
    let h : SFits w64 c.args.part.x2 = search rules in
    let i : SFits w64 c.args.part.y2 = search rules in
    rw (c.in_ok-keep-4.ensures, c.in_ok-keep-3.ensures, c.in_ok-keep-2.ensures, c.in_ok-keep.ensures) (simp (to_z-of_z, append_assoc))
