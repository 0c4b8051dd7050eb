use Rattle.std.proofs.Common.{Option, ◌∙◌, ap, sym, subst}
use Rattle.std.specs.Option.{option_map}
use Rattle.cl_region.specs.Places.{move_rect}
use Rattle.cl_region.specs.declared.rects.Rect.{Rect}
use Rattle.cl_record.specs.Marks.{marks_of_all}
use Rattle.cl_record.specs.Trees.{trees_of}
use Rattle.cl_record.specs.declared.summaries.Summary.{Summary}
use Rattle.cl_record.proofs.Boxes.{items_box-move}
use Rattle.cl_record.proofs.Ranges.{Fits, items-fit}
use Rattle.cl_spans.specs.SpanRows.{spans_hold}
use Rattle.cl_redisplay.specs.Patches.{AreApartFrom, BoxIsApart}
use Rattle.cl_redisplay.proofs.touching.box_meets.Goals as goal

pub shifted-requires : goal.shifted-requires
shifted-requires g c =
    let marks = marks_of_all g.L.Leaf.moved_by (trees_of c.args.inside.now) in
    let is = ap (λ (s : Summary). s.items) (sym c.summary.ensures.value) ∙ c.in-Some.is in
    subst (λ (o : Option Rect). Fits c.args.at o) is (items-fit g.L.Leaf.bounds c.args.at marks c.requires.range)

pub returns-in-Some : goal.returns-in-Some
returns-in-Some g c = λ h.
    let marks = marks_of_all g.L.Leaf.moved_by (trees_of c.args.inside.now) in
    let touched = spans_hold c.args.touched.now in
    let is = ap (λ (s : Summary). s.items) (sym c.summary.ensures.value) ∙ c.in-Some.is in
    let box = items_box-move g.L.Leaf.bounds g.L.Leaf.moved_by g.met.L.Leaf.moves_bounds c.args.at marks ∙ ap (λ (o : Option Rect). option_map (move_rect c.args.at) o) is in
    subst (λ (o : Option Rect). BoxIsApart touched c.args.height o) (sym box)
    (subst (λ (r : Rect). AreApartFrom touched c.args.height r) c.shifted.ensures (c.meets.ensures h))

pub returns-in-None : goal.returns-in-None
returns-in-None g c = λ h.
    let marks = marks_of_all g.L.Leaf.moved_by (trees_of c.args.inside.now) in
    let is = ap (λ (s : Summary). s.items) (sym c.summary.ensures.value) ∙ c.in-None.is in
    let box = items_box-move g.L.Leaf.bounds g.L.Leaf.moved_by g.met.L.Leaf.moves_bounds c.args.at marks ∙ ap (λ (o : Option Rect). option_map (move_rect c.args.at) o) is in
    subst (λ (o : Option Rect). BoxIsApart (spans_hold c.args.touched.now) c.args.height o) (sym box) tt
