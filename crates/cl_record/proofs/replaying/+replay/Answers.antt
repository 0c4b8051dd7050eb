use Rattle.std.proofs.Common.{rules, ◌≡◌, [], ◌∷◌, ◌∙◌, List, suc, add-one, arith, drop, drop-cons, ap, sym, subst}
use Rattle.std.proofs.lemmas.List.{drop_all}
use Rattle.cl_record.specs.Seen.{forest_of, tree_of}
use Rattle.cl_record.specs.Trees.{trees_of}
use Rattle.cl_record.specs.declared.nodes.Node.{Node}
use Rattle.cl_record.specs.Ranges.{IsPlaced}
use Rattle.cl_record.proofs.Ranges.{placed-first, placed-piece, placed-shown}
use Rattle.cl_record.proofs.Walks.{GoesOn, all_done, goes_on, touched_piece, touched_shown}
use Rattle.cl_record.proofs.replaying.+replay.Goals as goal

pub replay_inside-replay_node-requires : goal.replay_inside-replay_node-requires
replay_inside-replay_node-requires g t c κs within =
    let nodes = c.as_slice-node-items.result.now in
    let index = c.loop-node.node-index in
    let rest = drop (suc index) nodes in
    let step : drop index nodes ≡ c.node-item.result ∷ rest =
    drop-cons nodes index c.node-item.result c.loop-node-test.true ∙ ap (λ (n : Node _). n ∷ rest) (sym c.node-item.is) in
    let before = subst (λ (ns : List (Node _)). GoesOn g.C.Canvas.shows g.C.Canvas.cell g.C.Canvas.keeps g.L.Leaf.cell g.L.Leaf.bounds g.L.Leaf.moved_by c.args.rects.now c.args.at c.args.canvas.now c.loop-node.canvas (trees_of c.args.inside.now) (forest_of ns)) step c.loop-node.invariant in
    (search rules, (within.0, (within.1, placed-first g.L.Leaf.bounds g.L.Leaf.moved_by g.met.L.Leaf.moves_bounds c.args.at (tree_of c.node-item.result) (forest_of rest) before.placed)))

pub replay_inside-loop-node-preserved : goal.replay_inside-loop-node-preserved
replay_inside-loop-node-preserved g t c =
    let nodes = c.as_slice-node-items.result.now in
    let index = c.loop-node.node-index in
    let rest = drop (suc index) nodes in
    let step : drop index nodes ≡ c.node-item.result ∷ rest =
    drop-cons nodes index c.node-item.result c.loop-node-test.true ∙ ap (λ (n : Node _). n ∷ rest) (sym c.node-item.is) in
    let before = subst (λ (ns : List (Node _)). GoesOn g.C.Canvas.shows g.C.Canvas.cell g.C.Canvas.keeps g.L.Leaf.cell g.L.Leaf.bounds g.L.Leaf.moved_by c.args.rects.now c.args.at c.args.canvas.now c.loop-node.canvas (trees_of c.args.inside.now) (forest_of ns)) step c.loop-node.invariant in
    rw (add-one index)
    (goes_on g.C.Canvas.shows g.C.Canvas.cell g.C.Canvas.keeps g.L.Leaf.cell g.L.Leaf.bounds g.L.Leaf.moved_by c.args.rects.now g.met.C.Canvas.keeps_through g.met.L.Leaf.moves_bounds c.args.at c.args.canvas.now c.loop-node.canvas c.replay_node.new.canvas
    (trees_of c.args.inside.now) (tree_of c.node-item.result) (forest_of rest) before c.replay_node.ensures)

pub replay_inside-returns-after-loop-node : goal.replay_inside-returns-after-loop-node
replay_inside-returns-after-loop-node g t c =
    let nodes = c.as_slice-node-items.result.now in
    let none : drop c.loop-node.node-index nodes ≡ [] = drop_all c.loop-node.node-index nodes (omega arith) in
    let last = subst (λ (ns : List (Node _)). GoesOn g.C.Canvas.shows g.C.Canvas.cell g.C.Canvas.keeps g.L.Leaf.cell g.L.Leaf.bounds g.L.Leaf.moved_by c.args.rects.now c.args.at c.args.canvas.now c.loop-node.canvas (trees_of c.args.inside.now) (forest_of ns)) none c.loop-node.invariant in
    all_done g.C.Canvas.shows g.C.Canvas.cell g.C.Canvas.keeps g.L.Leaf.cell g.L.Leaf.bounds g.L.Leaf.moved_by c.args.rects.now c.args.at c.args.canvas.now c.loop-node.canvas (trees_of c.args.inside.now) (g.met.C.Canvas.keeps_itself c.loop-node.canvas) last

pub replay_node-join_shifts-at-requires : goal.replay_node-join_shifts-at-requires
replay_node-join_shifts-at-requires g t c =
    let s = c.in-Presentation.presented in
    let placed = subst (λ (n : Node _). IsPlaced g.L.Leaf.bounds g.L.Leaf.moved_by c.args.at (tree_of n)) c.in-Presentation.is c.requires in
    rw c.place.ensures (placed-shown g.L.Leaf.bounds g.L.Leaf.moved_by g.met.L.Leaf.moves_bounds c.args.at s.place s.label (trees_of s.inside) placed).shift

pub replay_node-replay_inside-requires : goal.replay_node-replay_inside-requires
replay_node-replay_inside-requires g t c κs within =
    let s = c.in-Presentation.presented in
    let placed = subst (λ (n : Node _). IsPlaced g.L.Leaf.bounds g.L.Leaf.moved_by c.args.at (tree_of n)) c.in-Presentation.is c.requires in
    (search rules, (within.0, (within.1, rw (c.join_shifts-at.ensures, c.place.ensures, c.inside.ensures) (placed-shown g.L.Leaf.bounds g.L.Leaf.moved_by g.met.L.Leaf.moves_bounds c.args.at s.place s.label (trees_of s.inside) placed))))

pub replay_node-join_shifts-at-requires-in-Update : goal.replay_node-join_shifts-at-requires-in-Update
replay_node-join_shifts-at-requires-in-Update g t c =
    let p = c.in-Update.piece in
    let placed = subst (λ (n : Node _). IsPlaced g.L.Leaf.bounds g.L.Leaf.moved_by c.args.at (tree_of n)) c.in-Update.is c.requires in
    rw c.place-in-Update.ensures (placed-piece g.L.Leaf.bounds g.L.Leaf.moved_by g.met.L.Leaf.moves_bounds c.args.at p.place p.head (trees_of p.inside) placed).shift

pub replay_node-replay_inside-requires-in-Update : goal.replay_node-replay_inside-requires-in-Update
replay_node-replay_inside-requires-in-Update g t c κs within =
    let p = c.in-Update.piece in
    let placed = subst (λ (n : Node _). IsPlaced g.L.Leaf.bounds g.L.Leaf.moved_by c.args.at (tree_of n)) c.in-Update.is c.requires in
    (search rules, (within.0, (within.1, rw (c.join_shifts-at-in-Update.ensures, c.place-in-Update.ensures, c.inside-in-Update.ensures) (placed-piece g.L.Leaf.bounds g.L.Leaf.moved_by g.met.L.Leaf.moves_bounds c.args.at p.place p.head (trees_of p.inside) placed))))

pub replay_node-returns-in-Presentation : goal.replay_node-returns-in-Presentation
replay_node-returns-in-Presentation g t c =
    rw (c.in-Presentation.is, touched_shown g.C.Canvas.shows g.C.Canvas.cell g.C.Canvas.keeps g.L.Leaf.cell g.L.Leaf.bounds g.L.Leaf.moved_by c.args.rects.now g.met.L.Leaf.moves_twice c.args.at c.in-Presentation.presented.place c.in-Presentation.presented.label (trees_of c.in-Presentation.presented.inside), ← c.place.ensures, ← c.inside.ensures, ← c.join_shifts-at.ensures)
    c.replay_inside.ensures

pub replay_node-returns-in-Update : goal.replay_node-returns-in-Update
replay_node-returns-in-Update g t c =
    rw (c.in-Update.is, touched_piece g.C.Canvas.shows g.C.Canvas.cell g.C.Canvas.keeps g.L.Leaf.cell g.L.Leaf.bounds g.L.Leaf.moved_by c.args.rects.now g.met.L.Leaf.moves_twice c.args.at c.in-Update.piece.place c.in-Update.piece.head (trees_of c.in-Update.piece.inside), ← c.place-in-Update.ensures, ← c.inside-in-Update.ensures, ← c.join_shifts-at-in-Update.ensures)
    c.replay_inside-in-Update.ensures
