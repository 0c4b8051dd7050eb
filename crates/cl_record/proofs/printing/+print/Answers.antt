use Rattle.std.proofs.Common.{rules, ◌≡◌, ◌≤◌, [], ◌∷◌, ◌++◌, ◌∙◌, List, suc, add-one, arith, drop, drop-cons, ap, sym, subst, append_assoc}
use Rattle.cl_record.specs.Ranges.{ArePlaced, IsPlaced}
use Rattle.cl_record.specs.Seen.{forest_of, tree_of}
use Rattle.cl_record.specs.TreeLines.{row_lines}
use Rattle.cl_record.specs.Trees.{size_of_all, trees_of}
use Rattle.cl_record.specs.declared.nodes.Node.{Node}
use Rattle.cl_record.proofs.Ranges.{placed-first, placed-piece, placed-rest, placed-shown}
use Rattle.cl_record.proofs.printing.+print.Goals as goal

pub print_inside-print_node-requires : goal.print_inside-print_node-requires
print_inside-print_node-requires g t c κs within =
    let nodes = c.as_slice-node-items.result.now in
    let index = c.loop-node.node-index in
    let rest = drop (suc index) nodes in
    let step : drop index nodes ≡ c.node-item.result ∷ rest =
    drop-cons nodes index c.node-item.result c.loop-node-test.true ∙ ap (λ (n : Node _). n ∷ rest) (sym c.node-item.is) in
    let before = subst (λ (ns : List (Node _)). ArePlaced g.L.Leaf.bounds g.L.Leaf.moved_by c.args.at (forest_of ns)) step c.loop-node.invariant.placed in
    (search rules, (within, placed-first g.L.Leaf.bounds g.L.Leaf.moved_by g.met.L.Leaf.moves_bounds c.args.at (tree_of c.node-item.result) (forest_of rest) before))

pub print_inside-loop-node-preserved : goal.print_inside-loop-node-preserved
print_inside-loop-node-preserved g t c =
    let nodes = c.as_slice-node-items.result.now in
    let index = c.loop-node.node-index in
    let rest = drop (suc index) nodes in
    let lines = row_lines g.L.Printable.line_of g.L.Leaf.moved_by c.args.margin.now c.args.at in
    let step : drop index nodes ≡ c.node-item.result ∷ rest =
    drop-cons nodes index c.node-item.result c.loop-node-test.true ∙ ap (λ (n : Node _). n ∷ rest) (sym c.node-item.is) in
    let before = subst (λ (ns : List (Node _)). ArePlaced g.L.Leaf.bounds g.L.Leaf.moved_by c.args.at (forest_of ns)) step c.loop-node.invariant.placed in
    let fewer = subst (λ (ns : List (Node _)). size_of_all (forest_of ns) ≤ size_of_all (trees_of c.args.inside.now)) step c.loop-node.invariant.fewer in
    let whole = subst (λ (ns : List (Node _)). c.loop-node.out.items ++ lines (forest_of ns) ≡ c.args.out.now.items ++ lines (trees_of c.args.inside.now)) step c.loop-node.invariant.whole in
    rw (add-one index) (record {
      placed = placed-rest g.L.Leaf.bounds g.L.Leaf.moved_by g.met.L.Leaf.moves_bounds c.args.at (tree_of c.node-item.result) (forest_of rest) before;
      fewer = omega (arith, fewer);
      whole = rw c.in_ok-print_node.ensures (append_assoc c.loop-node.out.items _ (lines (forest_of rest)) ∙ whole);
    })

pub print_node-join_shifts-at-requires : goal.print_node-join_shifts-at-requires
print_node-join_shifts-at-requires g t c =
    let s = c.in-Presentation.presented in
    let placed = subst (λ (n : Node _). IsPlaced g.L.Leaf.bounds g.L.Leaf.moved_by c.args.at (tree_of n)) c.in-Presentation.is c.requires in
    rw c.place.ensures (placed-shown g.L.Leaf.bounds g.L.Leaf.moved_by g.met.L.Leaf.moves_bounds c.args.at s.place s.label (trees_of s.inside) placed).shift

pub print_node-print_inside-requires : goal.print_node-print_inside-requires
print_node-print_inside-requires g t c κs within =
    let s = c.in-Presentation.presented in
    let placed = subst (λ (n : Node _). IsPlaced g.L.Leaf.bounds g.L.Leaf.moved_by c.args.at (tree_of n)) c.in-Presentation.is c.requires in
    (search rules, (within, rw (c.join_shifts-at.ensures, c.place.ensures, c.inside.ensures) (placed-shown g.L.Leaf.bounds g.L.Leaf.moved_by g.met.L.Leaf.moves_bounds c.args.at s.place s.label (trees_of s.inside) placed)))

pub print_node-join_shifts-at-requires-in-Update : goal.print_node-join_shifts-at-requires-in-Update
print_node-join_shifts-at-requires-in-Update g t c =
    let p = c.in-Update.piece in
    let placed = subst (λ (n : Node _). IsPlaced g.L.Leaf.bounds g.L.Leaf.moved_by c.args.at (tree_of n)) c.in-Update.is c.requires in
    rw c.place-in-Update.ensures (placed-piece g.L.Leaf.bounds g.L.Leaf.moved_by g.met.L.Leaf.moves_bounds c.args.at p.place p.head (trees_of p.inside) placed).shift

pub print_node-print_inside-requires-in-Update : goal.print_node-print_inside-requires-in-Update
print_node-print_inside-requires-in-Update g t c κs within =
    let p = c.in-Update.piece in
    let placed = subst (λ (n : Node _). IsPlaced g.L.Leaf.bounds g.L.Leaf.moved_by c.args.at (tree_of n)) c.in-Update.is c.requires in
    (search rules, (within, rw (c.join_shifts-at-in-Update.ensures, c.place-in-Update.ensures, c.inside-in-Update.ensures) (placed-piece g.L.Leaf.bounds g.L.Leaf.moved_by g.met.L.Leaf.moves_bounds c.args.at p.place p.head (trees_of p.inside) placed)))

pub print_node-returns-in_ok-print_inside-in-Presentation :
    goal.print_node-returns-in_ok-print_inside-in-Presentation
print_node-returns-in_ok-print_inside-in-Presentation g t c =
    rw (c.in-Presentation.is, c.in_ok-print_inside-in-Presentation.ensures, c.inside.ensures, c.join_shifts-at.ensures, c.place.ensures, c.as_slice.ensures.value, c.in_ok-deeper-in-Presentation.ensures, c.in_ok-print_label-in-Presentation.ensures, c.label.ensures)
    (append_assoc c.args.out.now.items (_ ∷ []) _)
