use Rattle.std.proofs.Common.{◌∙◌, ap, sym, Bool, List, Option, ℤ, Ok}
use Rattle.std.specs.Prelude.{◌||◌}
use Rattle.cl_region.specs.Places.{box}
use Rattle.cl_region.specs.declared.rects.Rect.{Rect}
use Rattle.cl_medium.specs.Items.{Item, move_item}
use Rattle.cl_record.specs.Heads.{Point}
use Rattle.cl_record.specs.Marks.{history_marks}
use Rattle.cl_record.specs.Seen.{tree_of}
use Rattle.cl_record.specs.Trees.{Tree}
use Rattle.cl_display.specs.Drawings.{lower_end}
use Rattle.cl_updating.proofs.KeepingLemmas.{marks-put, some-used}
use Rattle.cl_updating.proofs.keeping.put_record.Goals as goal

pub returns : goal.returns
returns c =
    let part = c.args.part.now in
    let measures = c.args.measures.now in
    let extents = ap (λ (r : Rect). box part.extent r) (sym c.shifted.ensures) ∙ sym c.take.ensures in
    let ends = ap (λ (o : Option ℤ). lower_end part.lowest o) (sym c.lowest_end-lowest.ensures.end) ∙ sym c.take_end.ensures in
    let margins = ap (λ (b : Bool). b || part.margin_used) (some-used measures.margin_used measures.start.margin) ∙ sym c.either-part.ensures in
    let origins = ap (λ (b : Bool). b || part.origin_used)
    (some-used {A = Point} measures.origin_used (record { x = measures.start.origin_x; y = measures.start.origin_y })) ∙ sym c.either-part-2.ensures in
    let marks = sym (ap (λ (ts : List (Tree Item)). history_marks move_item ts) c.in_ok-push.ensures.ok ∙ marks-put part.nodes (tree_of c.args.node)) in
    λ i. Ok (record { extent = extents i; lowest = ends i; margin_used = margins i; origin_used = origins i; marks = marks i })
