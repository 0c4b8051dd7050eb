use Rattle.std.proofs.Common.{◌∙◌, ◌+ℤ◌, rules}
use Rattle.std.proofs.lemmas.Int.{to_z-of_z}
use mir.Syntax.{w64}
use mir.Val.{SFits}
use Rattle.cl_updating.proofs.keeping.end_cursor.Goals as goal

pub returns : goal.returns
returns c =
    let measures = c.args.measures.now in
    let by = c.args.by in
    let end_x : SFits w64 measures.end_x = search rules in
    let end_y : SFits w64 measures.end_y = search rules in
    let dx : SFits w64 by.dx = search rules in
    let dy : SFits w64 by.dy = search rules in
    let across : SFits w64 c.moved.result = search rules in
    let down : SFits w64 c.moved-2.result = search rules in
    let columns = to_z-of_z w64 _ across ∙ c.moved.ensures.sum ∙ (λ i. to_z-of_z w64 _ end_x i +ℤ to_z-of_z w64 _ dx i) in
    let rows = to_z-of_z w64 _ down ∙ c.moved-2.ensures.sum ∙ (λ i. to_z-of_z w64 _ end_y i +ℤ to_z-of_z w64 _ dy i) in
    let before = c.end.view_is in
    λ i. record {
      x = columns i;
      y = rows i;
      margin = (before i).margin;
      origin_x = (before i).origin_x;
      origin_y = (before i).origin_y;
      ink = (before i).ink;
    }
