use Rattle.std.proofs.Common.{◌+◌, ◌∙◌, ap, drop, sym}
use Rattle.std.proofs.lemmas.List.{drop_more}
use Rattle.cl_index.specs.Looks.{box_from}
use Rattle.cl_index.proofs.Joined.{joined_is}
use Rattle.cl_index.proofs.trees.box_around.Goals as goal

pub loop-rect-preserved : goal.loop-rect-preserved
loop-rect-preserved c =
    let rects = c.args.rects.now in
    let i = c.loop-rect.rect-index in
    let j = c.join_box-around.ensures in
    let more = drop_more rects i _ c.loop-rect-test.true in
    let around = joined_is c.loop-rect.around _ c.join_box-around.result j.left_empty j.right_empty j.left j.right j.least in
    ap (λ r. box_from r (drop (i + 1) rects)) around ∙ (ap (λ rs. box_from c.loop-rect.around rs) (sym more) ∙ c.loop-rect.invariant)
