use Rattle.std.proofs.Common.{◌∙◌, ap}
use Rattle.cl_record.specs.Marks.{marks_of}
use Rattle.cl_record.specs.Seen.{tree_of}
use Rattle.cl_record.specs.declared.nodes.Node.TheVariants as node
use Rattle.cl_record.specs.declared.branches.Piece.{Piece}
use Rattle.cl_record.specs.declared.branches.Presented.{Presented}
use Rattle.cl_record.proofs.Moves.{marks-tree_moved}
use Rattle.cl_record.proofs.nodes.Node.shift.Goals as goal

pub returns-in-Presentation-clause-marks : goal.returns-in-Presentation-clause-marks
returns-in-Presentation-clause-marks g c =
    ap (λ (s : Presented _). marks_of g.L.Leaf.moved_by (tree_of (node.Presentation s))) c.shift-in-Presentation.ensures
    ∙ rw c.in-Presentation.is (marks-tree_moved g.L.Leaf.moved_by g.met.L.Leaf.moves_twice c.args.by (tree_of (node.Presentation c.in-Presentation.presented)))

pub returns-in-Update-clause-marks : goal.returns-in-Update-clause-marks
returns-in-Update-clause-marks g c =
    ap (λ (s : Piece _). marks_of g.L.Leaf.moved_by (tree_of (node.Update s))) c.shift-in-Update.ensures
    ∙ rw c.in-Update.is (marks-tree_moved g.L.Leaf.moved_by g.met.L.Leaf.moves_twice c.args.by (tree_of (node.Update c.in-Update.piece)))
