use Rattle.cl_record.specs.Trees.{trees_of}
use Rattle.cl_record.proofs.Ranges.{placed-still}
use Rattle.cl_record.proofs.Lined.{row_lines-history}
use Rattle.cl_record.proofs.histories.History.print.Goals as goal

pub print_inside-requires : goal.print_inside-requires
print_inside-requires g c =
    placed-still g.L.Leaf.bounds g.L.Leaf.moved_by g.met.L.Leaf.moves_bounds (trees_of c.self.inside.nodes) c.summary.ensures.sound

pub returns-clause-ok : goal.returns-clause-ok
returns-clause-ok g c =
    rw (c.in_ok-append.ensures.items, c.in_ok-print_inside.ensures, c.new-lines.ensures.items, ← c.self.view_is, ← row_lines-history g.L.Printable.line_of g.L.Leaf.moved_by g.met.L.Leaf.moves_twice g.met.L.Leaf.stays c.self.inside.nodes)
