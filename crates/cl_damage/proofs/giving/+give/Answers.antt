use Rattle.std.proofs.Common.{rules, ◌≡◌, List, ◌∷◌, ◌∙◌, suc, add-one, drop, drop-cons, ap, sym, subst}
use Rattle.cl_record.specs.Ranges.{ArePlaced, IsPlaced}
use Rattle.cl_record.specs.Seen.{forest_of, tree_of}
use Rattle.cl_record.specs.Trees.{trees_of}
use Rattle.cl_record.specs.declared.nodes.Node.{Node}
use Rattle.cl_record.proofs.Ranges.{placed-first, placed-piece, placed-shown}
use Rattle.cl_damage.proofs.GiveLemmas.{GivesOn, gives_on}
use Rattle.cl_damage.proofs.giving.+give.Goals as goal

pub give_node-join_shifts-at-requires : goal.give_node-join_shifts-at-requires
give_node-join_shifts-at-requires g t c =
    let s = c.in-Presentation.presented in
    let placed = subst (λ (n : Node _). IsPlaced g.L.Leaf.bounds g.L.Leaf.moved_by c.args.at (tree_of n)) c.in-Presentation.is c.requires in
    rw c.place.ensures (placed-shown g.L.Leaf.bounds g.L.Leaf.moved_by g.met.L.Leaf.moves_bounds c.args.at s.place s.label (trees_of s.inside) placed).shift

pub give_node-give_row-requires : goal.give_node-give_row-requires
give_node-give_row-requires g t c κs within =
    let s = c.in-Presentation.presented in
    let placed = subst (λ (n : Node _). IsPlaced g.L.Leaf.bounds g.L.Leaf.moved_by c.args.at (tree_of n)) c.in-Presentation.is c.requires in
    let inside : ArePlaced g.L.Leaf.bounds g.L.Leaf.moved_by c.join_shifts-at.result (trees_of c.inside.result.now) =
    rw (c.join_shifts-at.ensures, c.place.ensures, c.inside.ensures)
    (placed-shown g.L.Leaf.bounds g.L.Leaf.moved_by g.met.L.Leaf.moves_bounds c.args.at s.place s.label (trees_of s.inside) placed) in
    (search rules, (within, inside))

pub give_node-join_shifts-at-requires-in-Update : goal.give_node-join_shifts-at-requires-in-Update
give_node-join_shifts-at-requires-in-Update g t c =
    let p = c.in-Update.piece in
    let placed = subst (λ (n : Node _). IsPlaced g.L.Leaf.bounds g.L.Leaf.moved_by c.args.at (tree_of n)) c.in-Update.is c.requires in
    rw c.place-in-Update.ensures (placed-piece g.L.Leaf.bounds g.L.Leaf.moved_by g.met.L.Leaf.moves_bounds c.args.at p.place p.head (trees_of p.inside) placed).shift

pub give_node-give_row-requires-in-Update : goal.give_node-give_row-requires-in-Update
give_node-give_row-requires-in-Update g t c κs within =
    let p = c.in-Update.piece in
    let placed = subst (λ (n : Node _). IsPlaced g.L.Leaf.bounds g.L.Leaf.moved_by c.args.at (tree_of n)) c.in-Update.is c.requires in
    let inside : ArePlaced g.L.Leaf.bounds g.L.Leaf.moved_by c.join_shifts-at-in-Update.result (trees_of c.inside-in-Update.result.now) =
    rw (c.join_shifts-at-in-Update.ensures, c.place-in-Update.ensures, c.inside-in-Update.ensures)
    (placed-piece g.L.Leaf.bounds g.L.Leaf.moved_by g.met.L.Leaf.moves_bounds c.args.at p.place p.head (trees_of p.inside) placed) in
    (search rules, (within, inside))

pub give_row-give_node-requires : goal.give_row-give_node-requires
give_row-give_node-requires g t c κs within =
    let nodes = c.as_slice-node-items.result.now in
    let index = c.loop-node.node-index in
    let rest = drop (suc index) nodes in
    let step : drop index nodes ≡ c.node-item.result ∷ rest =
    drop-cons nodes index c.node-item.result c.loop-node-test.true ∙ ap (λ (n : Node _). n ∷ rest) (sym c.node-item.is) in
    let before = subst (λ (ns : List (Node _)). GivesOn g.L.Leaf.bounds g.L.Leaf.moved_by c.args.at c.args.rects.now.items c.loop-node.rects.items
    (trees_of c.args.row.now) (forest_of ns)) step c.loop-node.invariant in
    (search rules, (within, placed-first g.L.Leaf.bounds g.L.Leaf.moved_by g.met.L.Leaf.moves_bounds c.args.at (tree_of c.node-item.result) (forest_of rest) before.placed))

pub give_row-loop-node-preserved : goal.give_row-loop-node-preserved
give_row-loop-node-preserved g t c =
    let nodes = c.as_slice-node-items.result.now in
    let index = c.loop-node.node-index in
    let rest = drop (suc index) nodes in
    let step : drop index nodes ≡ c.node-item.result ∷ rest =
    drop-cons nodes index c.node-item.result c.loop-node-test.true ∙ ap (λ (n : Node _). n ∷ rest) (sym c.node-item.is) in
    let before = subst (λ (ns : List (Node _)). GivesOn g.L.Leaf.bounds g.L.Leaf.moved_by c.args.at c.args.rects.now.items c.loop-node.rects.items
    (trees_of c.args.row.now) (forest_of ns)) step c.loop-node.invariant in
    rw (add-one index)
    (gives_on g.L.Leaf.bounds g.L.Leaf.moved_by g.met.L.Leaf.moves_bounds c.args.at c.args.rects.now.items c.loop-node.rects.items
    (trees_of c.args.row.now) (tree_of c.node-item.result) (forest_of rest) before c.give_node.new.rects.items c.in_ok-give_node.ensures)
