use Rattle.std.proofs.Common.{rules}
use Rattle.std.proofs.lemmas.Int.{to_z-of_z}
use mir.Syntax.{w64}
use mir.Val.{SFits}
use Rattle.cl_opening.proofs.PlacingLemmas.{frame_placed}
use Rattle.cl_opening.proofs.placing.place_frame.Goals as goal

pub returns-clause-placed : goal.returns-clause-placed
returns-clause-placed c =
    let width : SFits w64 c.args.frame.width = search rules in
    let height : SFits w64 c.args.frame.height = search rules in
    frame_placed c.args.frame c.in-Some.width c.in-Some-side.height c.in_ok-panes.panes c.has_pane.ensures (simp to_z-of_z at c.in-Some.ensures)
    (simp to_z-of_z at c.in-Some-side.ensures) (rw c.as_slice.ensures at c.in_ok-panes.ensures)
