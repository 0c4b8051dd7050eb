use Rattle.std.proofs.Common.{rules, ◌≡◌, List, ◌∷◌, ◌∙◌, suc, add-one, drop, drop-cons, map, ap, sym, subst}
use Rattle.cl_record.specs.Ranges.{IsPlaced}
use Rattle.cl_record.specs.Seen.{forest_of, tree_of}
use Rattle.cl_record.specs.Trees.{trees_of}
use Rattle.cl_record.specs.declared.nodes.Node.{Node}
use Rattle.cl_record.proofs.Ranges.{placed-first, placed-piece, placed-shown}
use Rattle.cl_updating.specs.Gathers.{update_of}
use Rattle.cl_updating.proofs.GatherLemmas.{GathersOn, gathers_on}
use Rattle.cl_updating.proofs.levels.+gather.Goals as goal

pub gather_node-join_shifts-at-requires : goal.gather_node-join_shifts-at-requires
gather_node-join_shifts-at-requires g t c =
    let s = c.in-Presentation.presented in
    let placed = subst (λ (n : Node _). IsPlaced g.L.Leaf.bounds g.L.Leaf.moved_by c.args.at (tree_of n)) c.in-Presentation.is c.requires in
    rw c.place.ensures (placed-shown g.L.Leaf.bounds g.L.Leaf.moved_by g.met.L.Leaf.moves_bounds c.args.at s.place s.label (trees_of s.inside) placed).shift

pub gather_node-gather_row-requires : goal.gather_node-gather_row-requires
gather_node-gather_row-requires g t c κs within =
    let s = c.in-Presentation.presented in
    let placed = subst (λ (n : Node _). IsPlaced g.L.Leaf.bounds g.L.Leaf.moved_by c.args.at (tree_of n)) c.in-Presentation.is c.requires in (
      search rules,
      (
        within,
        rw (c.join_shifts-at.ensures, c.place.ensures, c.inside.ensures)
            (placed-shown g.L.Leaf.bounds g.L.Leaf.moved_by g.met.L.Leaf.moves_bounds c.args.at s.place s.label (trees_of s.inside) placed),
      ),
    )

pub gather_node-join_shifts-place-requires : goal.gather_node-join_shifts-place-requires
gather_node-join_shifts-place-requires g t c =
    let p = c.in-Update.piece in
    let placed = subst (λ (n : Node _). IsPlaced g.L.Leaf.bounds g.L.Leaf.moved_by c.args.at (tree_of n)) c.in-Update.is c.requires in
    rw c.place-in-Update.ensures (placed-piece g.L.Leaf.bounds g.L.Leaf.moved_by g.met.L.Leaf.moves_bounds c.args.at p.place p.head (trees_of p.inside) placed).shift

pub gather_row-gather_node-requires : goal.gather_row-gather_node-requires
gather_row-gather_node-requires g t c κs within =
    let nodes = c.as_slice-node-items.result.now in
    let index = c.loop-node.node-index in
    let rest = drop (suc index) nodes in
    let step : drop index nodes ≡ c.node-item.result ∷ rest =
    drop-cons nodes index c.node-item.result c.loop-node-test.true ∙ ap (λ (n : Node _). n ∷ rest) (sym c.node-item.is) in
    let all = trees_of c.args.inside.now in
    let was = map update_of c.args.met.now.items in
    let now = map update_of c.loop-node.met.items in
    let before = subst (λ (ns : List (Node _)). GathersOn g.L.Leaf.bounds g.L.Leaf.moved_by c.args.at was now all (forest_of ns)) step c.loop-node.invariant in
    (search rules, (within, placed-first g.L.Leaf.bounds g.L.Leaf.moved_by g.met.L.Leaf.moves_bounds c.args.at (tree_of c.node-item.result) (forest_of rest) before.placed))

pub gather_row-loop-node-preserved : goal.gather_row-loop-node-preserved
gather_row-loop-node-preserved g t c =
    let nodes = c.as_slice-node-items.result.now in
    let index = c.loop-node.node-index in
    let rest = drop (suc index) nodes in
    let step : drop index nodes ≡ c.node-item.result ∷ rest =
    drop-cons nodes index c.node-item.result c.loop-node-test.true ∙ ap (λ (n : Node _). n ∷ rest) (sym c.node-item.is) in
    let all = trees_of c.args.inside.now in
    let was = map update_of c.args.met.now.items in
    let now = map update_of c.loop-node.met.items in
    let before = subst (λ (ns : List (Node _)). GathersOn g.L.Leaf.bounds g.L.Leaf.moved_by c.args.at was now all (forest_of ns)) step c.loop-node.invariant in
    rw (add-one index)
    (gathers_on g.L.Leaf.bounds g.L.Leaf.moved_by g.met.L.Leaf.moves_bounds c.args.at was now all (tree_of c.node-item.result) (forest_of rest) before
    _ c.in_ok-gather_node.ensures)
