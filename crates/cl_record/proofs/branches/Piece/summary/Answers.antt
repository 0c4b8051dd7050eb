use Rattle.std.proofs.Common.{◌≡◌, ◌∙◌, ap, sym}
use Rattle.cl_record.specs.Heads.{HeadAt, MeasuresAt, measures_of}
use Rattle.cl_record.specs.declared.branches.PieceBody.{PieceBody}
use Rattle.cl_record.specs.Boxes.{summary_of}
use Rattle.cl_record.specs.Branches.{UpdateAt}
use Rattle.cl_record.specs.Marks.{marks_of, marks_of_all}
use Rattle.cl_record.specs.Trees.{update, trees_of}
use Rattle.cl_record.proofs.Ranges.{fits-inside, items-fit, summary-piece}
use Rattle.cl_record.proofs.branches.Piece.summary.Goals as goal

pub shifted_box-requires : goal.shifted_box-requires
shifted_box-requires g c =
    let body = c.self.inside.body.value in
    let m = c.self.invariant.sound.1 in
    rw (c.summary-inside.ensures.value, c.deref.ensures)
    (items-fit g.L.Leaf.bounds c.self.inside.place (marks_of_all g.L.Leaf.moved_by (trees_of body.inside)) (fits-inside g.L.Leaf.bounds g.L.Leaf.moved_by g.met.L.Leaf.moves_bounds c.self.inside.place body.head (trees_of body.inside) m.0 m.1))

pub returns-clause-value : goal.returns-clause-value
returns-clause-value g c =
    let body = c.self.inside.body.value in
    let measures : measures_of c.measures.result ≡ body.head.measures = c.measures.ensures ∙ ap (λ (h : HeadAt). h.measures) (ap (λ (b : PieceBody _). b.head) c.deref-2.ensures) in
    let extent : c.measures.result.extent ≡ body.head.measures.extent = ap (λ (m : MeasuresAt). m.extent) measures in
    rw (c.shifted_box.ensures, c.summary-inside.ensures.value, c.deref.ensures, c.shifted.ensures, extent)
    (sym (summary-piece g.L.Leaf.bounds g.L.Leaf.moved_by g.met.L.Leaf.moves_bounds c.self.inside.place body.head (trees_of body.inside) c.self.invariant.sound.1.0)
    ∙ ap (λ (s : UpdateAt _). summary_of g.L.Leaf.bounds (marks_of g.L.Leaf.moved_by (update s.head s.place (trees_of s.inside)))) c.self.view_is)
