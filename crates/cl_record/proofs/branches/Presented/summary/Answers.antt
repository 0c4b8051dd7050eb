use Rattle.std.proofs.Common.{◌∙◌, ap, sym}
use Rattle.cl_record.specs.Boxes.{summary_of}
use Rattle.cl_record.specs.Branches.{PresentationAt}
use Rattle.cl_record.specs.Marks.{marks_of, marks_of_all}
use Rattle.cl_record.specs.Trees.{presentation, trees_of}
use Rattle.cl_record.proofs.Ranges.{items-fit, place-fits, summary-shown}
use Rattle.cl_record.proofs.branches.Presented.summary.Goals as goal

pub shifted-requires-clause-items : goal.shifted-requires-clause-items
shifted-requires-clause-items g c =
    let body = c.self.inside.body.value in
    rw (c.summary.ensures.value, c.deref.ensures)
    (items-fit g.L.Leaf.bounds c.self.inside.place (marks_of_all g.L.Leaf.moved_by (trees_of body.inside)) (place-fits c.self.inside.place _ c.self.invariant.sound.1))

pub shifted-requires-clause-extents : goal.shifted-requires-clause-extents
shifted-requires-clause-extents g c =
    rw (c.summary.ensures.value, c.deref.ensures) (place-fits c.self.inside.place _ c.self.invariant.sound.1)

pub returns-clause-value : goal.returns-clause-value
returns-clause-value g c =
    let body = c.self.inside.body.value in
    c.shifted.ensures
    ∙ (rw (c.summary.ensures.value, c.deref.ensures) (sym (summary-shown g.L.Leaf.bounds g.L.Leaf.moved_by g.met.L.Leaf.moves_bounds c.self.inside.place body.label (trees_of body.inside)))
    ∙ ap (λ (s : PresentationAt _). summary_of g.L.Leaf.bounds (marks_of g.L.Leaf.moved_by (presentation s.label s.place (trees_of s.inside)))) c.self.view_is)
