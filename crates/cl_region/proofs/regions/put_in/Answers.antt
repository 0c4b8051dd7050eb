use Rattle.std.proofs.Common.{◌≡◌, ◌∷◌, ◌<◌, length, arith, subst, take}
use Rattle.std.proofs.lemmas.List.{take_all, take_more_set}
use Rattle.cl_region.specs.Pieces.{ArePiecesOf}
use Rattle.cl_region.proofs.Joins.{put_behind}
use Rattle.cl_region.proofs.regions.put_in.Goals as goal

pub returns-then-left-len-clause-pieces : goal.returns-then-left-len-clause-pieces
returns-then-left-len-clause-pieces c =
    let rects = c.args.rects.now.items in
    let left = c.joined_with_last-left.result.0 in
    let whole = c.joined_with_last-left.result.1 in
    let all = c.args.rect ∷ rects in
    let joined : ArePiecesOf all (whole ∷ take left rects) = rw (← c.as_slice.ensures.value) c.joined_with_last-left.ensures.pieces in
    let same : take left rects ≡ rects = take_all left rects (omega (arith, c.if-left-len.true, c.len.ensures, c.args.rects.now.ok.0)) in
    rw c.in_ok-push.ensures.items (put_behind all rects whole (subst (λ ps. ArePiecesOf all (whole ∷ ps)) same joined))

pub returns-clause-pieces : goal.returns-clause-pieces
returns-clause-pieces c =
    let rects = c.args.rects.now.items in
    let left = c.joined_with_last-left.result.0 in
    let whole = c.joined_with_last-left.result.1 in
    let all = c.args.rect ∷ rects in
    let joined : ArePiecesOf all (whole ∷ take left rects) = rw (← c.as_slice.ensures.value) c.joined_with_last-left.ensures.pieces in
    let less : left < length rects =
    omega (arith, c.if-left-len.false, c.len.ensures, c.args.rects.now.ok.0, c.joined_with_last-left.ensures.count, c.as_slice.ensures.len) in
    rw (c.truncate.ensures.items, take_more_set rects left whole less) (put_behind all (take left rects) whole joined)
