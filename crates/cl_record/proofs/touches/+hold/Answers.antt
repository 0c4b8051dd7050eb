use Rattle.std.proofs.Common.{rules, ◌≡◌, List, ◌∷◌, ◌∙◌, suc, add-one, drop, drop-cons, ap, sym, subst}
use Rattle.cl_record.specs.Marks.{marks_of_all}
use Rattle.cl_record.specs.Ranges.{IsPlaced}
use Rattle.cl_record.specs.Seen.{forest_of, tree_of}
use Rattle.cl_record.specs.Trees.{trees_of}
use Rattle.cl_record.specs.declared.nodes.Node.{Node}
use Rattle.cl_record.proofs.Ranges.{placed-first, placed-piece, placed-shown}
use Rattle.cl_record.proofs.TouchSteps.{HoldsOn, holds_here, holds_on}
use Rattle.cl_record.proofs.TouchWalks.{held-outside, held-piece, held-shown}
use Rattle.cl_record.proofs.touches.+hold.Goals as goal

pub node_holds-join_shifts-at-requires : goal.node_holds-join_shifts-at-requires
node_holds-join_shifts-at-requires g t c =
    let s = c.in-Presentation.presented in
    let placed = subst (λ (n : Node _). IsPlaced g.L.Leaf.bounds g.L.Leaf.moved_by c.args.at (tree_of n)) c.in-Presentation.is c.requires in
    rw c.place.ensures (placed-shown g.L.Leaf.bounds g.L.Leaf.moved_by g.met.L.Leaf.moves_bounds c.args.at s.place s.label (trees_of s.inside) placed).shift

pub node_holds-row_holds-requires : goal.node_holds-row_holds-requires
node_holds-row_holds-requires g t c κs within =
    let s = c.in-Presentation.presented in
    let placed = subst (λ (n : Node _). IsPlaced g.L.Leaf.bounds g.L.Leaf.moved_by c.args.at (tree_of n)) c.in-Presentation.is c.requires in
    (search rules, (within, rw (c.join_shifts-at.ensures, c.place.ensures, c.inside.ensures) (placed-shown g.L.Leaf.bounds g.L.Leaf.moved_by g.met.L.Leaf.moves_bounds c.args.at s.place s.label (trees_of s.inside) placed)))

pub node_holds-join_shifts-at-requires-in-Update : goal.node_holds-join_shifts-at-requires-in-Update
node_holds-join_shifts-at-requires-in-Update g t c =
    let p = c.in-Update.piece in
    let placed = subst (λ (n : Node _). IsPlaced g.L.Leaf.bounds g.L.Leaf.moved_by c.args.at (tree_of n)) c.in-Update.is c.requires in
    rw c.place-in-Update.ensures (placed-piece g.L.Leaf.bounds g.L.Leaf.moved_by g.met.L.Leaf.moves_bounds c.args.at p.place p.head (trees_of p.inside) placed).shift

pub node_holds-row_holds-requires-in-Update : goal.node_holds-row_holds-requires-in-Update
node_holds-row_holds-requires-in-Update g t c κs within =
    let p = c.in-Update.piece in
    let placed = subst (λ (n : Node _). IsPlaced g.L.Leaf.bounds g.L.Leaf.moved_by c.args.at (tree_of n)) c.in-Update.is c.requires in
    (search rules, (within, rw (c.join_shifts-at-in-Update.ensures, c.place-in-Update.ensures, c.inside-in-Update.ensures) (placed-piece g.L.Leaf.bounds g.L.Leaf.moved_by g.met.L.Leaf.moves_bounds c.args.at p.place p.head (trees_of p.inside) placed)))

pub node_holds-returns-in-Presentation : goal.node_holds-returns-in-Presentation
node_holds-returns-in-Presentation g t c =
    rw (c.in-Presentation.is, held-shown g.L.Leaf.bounds c.args.spot.x c.args.spot.y g.L.Leaf.moved_by g.met.L.Leaf.moves_twice c.args.at c.in-Presentation.presented.place c.in-Presentation.presented.label (trees_of c.in-Presentation.presented.inside), ← c.place.ensures, ← c.inside.ensures, ← c.join_shifts-at.ensures)
    c.row_holds.ensures

pub node_holds-returns-in-Update : goal.node_holds-returns-in-Update
node_holds-returns-in-Update g t c =
    rw (c.in-Update.is, held-piece g.L.Leaf.bounds c.args.spot.x c.args.spot.y g.L.Leaf.moved_by g.met.L.Leaf.moves_twice c.args.at c.in-Update.piece.place c.in-Update.piece.head (trees_of c.in-Update.piece.inside), ← c.place-in-Update.ensures, ← c.inside-in-Update.ensures, ← c.join_shifts-at-in-Update.ensures)
    c.row_holds-in-Update.ensures

pub row_holds-returns-then-not-row_box_holds : goal.row_holds-returns-then-not-row_box_holds
row_holds-returns-then-not-row_box_holds g t c =
    sym (held-outside g.L.Leaf.bounds c.args.spot.x c.args.spot.y g.L.Leaf.moved_by c.args.at (marks_of_all g.L.Leaf.moved_by (trees_of c.args.inside.now)) (sym c.row_box_holds.ensures ∙ c.if-not-row_box_holds.true))

pub row_holds-node_holds-requires : goal.row_holds-node_holds-requires
row_holds-node_holds-requires g t c κs within =
    let nodes = c.as_slice-node-items.result.now in
    let index = c.loop-node.node-index in
    let rest = drop (suc index) nodes in
    let step : drop index nodes ≡ c.node-item.result ∷ rest =
    drop-cons nodes index c.node-item.result c.loop-node-test.true ∙ ap (λ (n : Node _). n ∷ rest) (sym c.node-item.is) in
    let before = subst (λ (ns : List (Node _)). HoldsOn g.L.Leaf.bounds c.args.spot.x c.args.spot.y g.L.Leaf.moved_by c.args.at (trees_of c.args.inside.now) (forest_of ns)) step c.loop-node.invariant in
    (search rules, (within, placed-first g.L.Leaf.bounds g.L.Leaf.moved_by g.met.L.Leaf.moves_bounds c.args.at (tree_of c.node-item.result) (forest_of rest) before.placed))

pub row_holds-returns-then-node_holds : goal.row_holds-returns-then-node_holds
row_holds-returns-then-node_holds g t c =
    let nodes = c.as_slice-node-items.result.now in
    let index = c.loop-node.node-index in
    let rest = drop (suc index) nodes in
    let step : drop index nodes ≡ c.node-item.result ∷ rest =
    drop-cons nodes index c.node-item.result c.loop-node-test.true ∙ ap (λ (n : Node _). n ∷ rest) (sym c.node-item.is) in
    let before = subst (λ (ns : List (Node _)). HoldsOn g.L.Leaf.bounds c.args.spot.x c.args.spot.y g.L.Leaf.moved_by c.args.at (trees_of c.args.inside.now) (forest_of ns)) step c.loop-node.invariant in
    sym (holds_here g.L.Leaf.bounds c.args.spot.x c.args.spot.y g.L.Leaf.moved_by c.args.at (trees_of c.args.inside.now) (tree_of c.node-item.result) (forest_of rest) before
    (sym c.node_holds.ensures ∙ c.if-node_holds.true))

pub row_holds-loop-node-preserved : goal.row_holds-loop-node-preserved
row_holds-loop-node-preserved g t c =
    let nodes = c.as_slice-node-items.result.now in
    let index = c.loop-node.node-index in
    let rest = drop (suc index) nodes in
    let step : drop index nodes ≡ c.node-item.result ∷ rest =
    drop-cons nodes index c.node-item.result c.loop-node-test.true ∙ ap (λ (n : Node _). n ∷ rest) (sym c.node-item.is) in
    let before = subst (λ (ns : List (Node _)). HoldsOn g.L.Leaf.bounds c.args.spot.x c.args.spot.y g.L.Leaf.moved_by c.args.at (trees_of c.args.inside.now) (forest_of ns)) step c.loop-node.invariant in
    rw (add-one index)
    (holds_on g.L.Leaf.bounds c.args.spot.x c.args.spot.y g.L.Leaf.moved_by g.met.L.Leaf.moves_bounds c.args.at (trees_of c.args.inside.now) (tree_of c.node-item.result) (forest_of rest) before
    (sym c.node_holds.ensures ∙ c.if-node_holds.false))
