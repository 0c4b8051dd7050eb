use Rattle.std.proofs.Common.{rules}
use Rattle.std.proofs.lemmas.Int.{to_z-of_z}
use mir.Syntax.{w64}
use mir.Val.{SFits}
use Rattle.cl_redisplay.proofs.PartLemmas.{part_of}
use Rattle.cl_redisplay.proofs.areas.Area.part.Goals as goal

pub returns : goal.returns
returns c =
    let a : SFits w64 c.args.rect.now.x1 = search rules in
    let a_is = simp to_z-of_z at c.clip-left.ensures.value in
    let b : SFits w64 c.args.rect.now.x2 = search rules in
    let b_is = simp to_z-of_z at c.clip-right.ensures.value in
    let d : SFits w64 c.args.rect.now.y1 = search rules in
    let d_is = simp to_z-of_z at c.clip-top.ensures.value in
    let e : SFits w64 c.args.rect.now.y2 = search rules in
    let e_is = simp to_z-of_z at c.clip-bottom.ensures.value in
    part_of c.args.self c.args.rect.now c.clip-left.result c.clip-right.result c.clip-top.result c.clip-bottom.result _ _
    a_is b_is d_is e_is c.saturating_sub.ensures c.saturating_sub-2.ensures
