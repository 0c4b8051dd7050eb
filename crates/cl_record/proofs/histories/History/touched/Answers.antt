use Rattle.std.proofs.Common.{◌≡◌, ℤ, Some, rules, ◌∙◌, ap}
use Rattle.std.proofs.lemmas.Int.{to_z-of_z}
use mir.Syntax.{w64}
use mir.Val.{SFits}
use Rattle.cl_record.specs.Marks.{history_marks}
use Rattle.cl_record.specs.Shifts.{still}
use Rattle.cl_record.specs.Touches.{TouchAt}
use Rattle.cl_record.specs.TouchWalks.{found, passed, seek}
use Rattle.cl_record.specs.Trees.{trees_of}
use Rattle.cl_record.proofs.Ranges.{placed-still}
use Rattle.cl_record.proofs.TouchWalks.{found_at, latest, passed_at, spot_is}
use Rattle.cl_record.proofs.histories.History.touched.Goals as goal

pub seek_row-requires : goal.seek_row-requires
seek_row-requires g c =
    placed-still g.L.Leaf.bounds g.L.Leaf.moved_by g.met.L.Leaf.moves_bounds (trees_of c.self.inside.nodes) c.summary.ensures.sound

pub returns-in-Found : goal.returns-in-Found
returns-in-Found g c =
    let across : SFits w64 c.args.x = search rules in
    let down : SFits w64 c.args.y = search rules in
    let marks = history_marks g.L.Leaf.moved_by c.self.inside.nodes in
    let sought = spot_is (λ (x y : ℤ). found c.in-Found.label.now ≡ seek c.args.k (latest g.L.Leaf.bounds x y g.L.Leaf.moved_by still marks)) c.args.x c.args.y _ _ (to_z-of_z w64 _ across) (to_z-of_z w64 _ down) c.in-Found.ensures in
    ap (λ (t : TouchAt). Some t) c.of_label.ensures
    ∙ rw (← c.self.view_is) (found_at g.L.Leaf.bounds c.args.x c.args.y g.L.Leaf.moved_by g.met.L.Leaf.stays c.args.k marks c.in-Found.label.now sought)

pub returns-in-Passed : goal.returns-in-Passed
returns-in-Passed g c =
    let across : SFits w64 c.args.x = search rules in
    let down : SFits w64 c.args.y = search rules in
    let marks = history_marks g.L.Leaf.moved_by c.self.inside.nodes in
    let sought = spot_is (λ (x y : ℤ). passed c.in-Passed.field-0 ≡ seek c.args.k (latest g.L.Leaf.bounds x y g.L.Leaf.moved_by still marks)) c.args.x c.args.y _ _ (to_z-of_z w64 _ across) (to_z-of_z w64 _ down) c.in-Passed.ensures in
    rw (← c.self.view_is) (passed_at g.L.Leaf.bounds c.args.x c.args.y g.L.Leaf.moved_by g.met.L.Leaf.stays c.args.k marks c.in-Passed.field-0 sought)
