use Rattle.std.proofs.Common.{◌≡◌, ℤ, List, ◌++◌, map, rules, ◌∙◌, ap}
use Rattle.std.proofs.lemmas.Int.{to_z-of_z}
use mir.Syntax.{w64}
use mir.Val.{SFits}
use Rattle.cl_record.specs.Marks.{history_marks}
use Rattle.cl_record.specs.Shifts.{still}
use Rattle.cl_record.specs.Touches.{touch_of_label}
use Rattle.cl_record.specs.TouchWalks.{touch_of}
use Rattle.cl_record.specs.Trees.{trees_of}
use Rattle.cl_record.specs.declared.touches.Touch.{Touch}
use Rattle.cl_record.proofs.Gathered.{gathered-still}
use Rattle.cl_record.proofs.Ranges.{placed-still}
use Rattle.cl_record.proofs.TouchWalks.{latest, spot_is}
use Rattle.cl_record.proofs.histories.History.touches.Goals as goal

pub gather_row-requires : goal.gather_row-requires
gather_row-requires g c =
    placed-still g.L.Leaf.bounds g.L.Leaf.moved_by g.met.L.Leaf.moves_bounds (trees_of c.self.inside.nodes) c.summary.ensures.sound

pub returns : goal.returns
returns g c =
    let across : SFits w64 c.args.x = search rules in
    let down : SFits w64 c.args.y = search rules in
    let marks = history_marks g.L.Leaf.moved_by c.self.inside.nodes in
    let now = map touch_of c.gather_row.new.gathered.items in
    let was = c.new-gathered.result.items in
    let labels = map touch_of_label (latest g.L.Leaf.bounds c.args.x c.args.y g.L.Leaf.moved_by still marks) in
    let gathered = spot_is (λ (x y : ℤ). now ≡ map touch_of was ++ map touch_of_label (latest g.L.Leaf.bounds x y g.L.Leaf.moved_by still marks))
    c.args.x c.args.y _ _ (to_z-of_z w64 _ across) (to_z-of_z w64 _ down) c.in_ok-gather_row.ensures in
    rw (← c.self.view_is)
    (gathered
    ∙ (ap (λ (ts : List Touch). map touch_of ts ++ labels) c.new-gathered.ensures.items
    ∙ gathered-still g.L.Leaf.bounds c.args.x c.args.y g.L.Leaf.moved_by g.met.L.Leaf.stays marks))
