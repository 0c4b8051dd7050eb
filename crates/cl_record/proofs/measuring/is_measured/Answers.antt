use Rattle.std.proofs.Common.{◌↔◌, Option, ap, subst}
use Rattle.std.specs.Prelude.{IsTrue}
use Rattle.cl_region.specs.declared.rects.Rect.{Rect}
use Rattle.cl_record.specs.Heads.{MeasuresAt, measures_of}
use Rattle.cl_record.specs.Boxes.{extent_box}
use Rattle.cl_record.specs.Marks.{marks_of_all}
use Rattle.cl_record.specs.Trees.{trees_of}
use Rattle.cl_record.specs.Ranges.{IsHeld}
use Rattle.cl_record.specs.declared.summaries.Summary.{Summary}
use Rattle.cl_record.proofs.measuring.is_measured.Goals as goal

pub returns : goal.returns
returns g c =
    let boxes = ap (λ (s : Summary). s.extents) c.summary.ensures.value in
    subst (λ (m : MeasuresAt). IsTrue c.hold.result ↔ IsHeld m (extent_box g.L.Leaf.bounds (marks_of_all g.L.Leaf.moved_by (trees_of c.args.inside.now)))) c.measures.ensures
    (subst (λ (o : Option Rect). IsTrue c.hold.result ↔ IsHeld (measures_of c.measures.result) o) boxes c.hold.ensures)
