use Rattle.std.proofs.Common.{Option, ◌∙◌, ap, sym, subst}
use Rattle.std.specs.Option.{option_map}
use Rattle.cl_region.specs.Places.{move_rect}
use Rattle.cl_region.specs.declared.rects.Rect.{Rect}
use Rattle.cl_record.specs.Marks.{marks_of_all}
use Rattle.cl_record.specs.Touches.{box_holds}
use Rattle.cl_record.specs.Trees.{trees_of}
use Rattle.cl_record.specs.declared.summaries.Summary.{Summary}
use Rattle.cl_record.proofs.Boxes.{items_box-move}
use Rattle.cl_record.proofs.Ranges.{Fits, items-fit}
use Rattle.cl_record.proofs.touches.row_box_holds.Goals as goal

pub box_holds-requires : goal.box_holds-requires
box_holds-requires g c =
    let marks = marks_of_all g.L.Leaf.moved_by (trees_of c.args.inside.now) in
    subst (λ (o : Option Rect). Fits c.args.at o) (ap (λ (s : Summary). s.items) (sym c.summary.ensures.value)) (items-fit g.L.Leaf.bounds c.args.at marks c.requires.range)

pub returns : goal.returns
returns g c =
    let marks = marks_of_all g.L.Leaf.moved_by (trees_of c.args.inside.now) in
    c.box_holds.ensures
    ∙ ap (λ (o : Option Rect). box_holds o c.args.spot.x c.args.spot.y)
    (ap (λ (s : Summary). option_map (move_rect c.args.at) s.items) c.summary.ensures.value
    ∙ sym (items_box-move g.L.Leaf.bounds g.L.Leaf.moved_by g.met.L.Leaf.moves_bounds c.args.at marks))
