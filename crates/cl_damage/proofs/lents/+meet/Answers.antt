use Rattle.std.proofs.Common.{rules, ◌≡◌, List, ◌∷◌, ◌∙◌, suc, add-one, drop, drop-cons, ap, sym, subst}
use Rattle.cl_record.specs.Ranges.{ArePlaced, IsPlaced}
use Rattle.cl_record.specs.Seen.{forest_of, tree_of}
use Rattle.cl_record.specs.Trees.{trees_of}
use Rattle.cl_record.specs.declared.nodes.Node.{Node}
use Rattle.cl_record.proofs.Ranges.{placed-first, placed-piece, placed-shown}
use Rattle.cl_damage.proofs.MeetLemmas.{MeetsOn, meets_on, stand-last}
use Rattle.cl_damage.proofs.lents.+meet.Goals as goal

pub meet_node-join_shifts-at-requires : goal.meet_node-join_shifts-at-requires
meet_node-join_shifts-at-requires g t c =
    let s = c.in-Presentation.presented in
    let placed = subst (λ (n : Node _). IsPlaced g.L.Leaf.bounds g.L.Leaf.moved_by c.args.at (tree_of n)) c.in-Presentation.is c.requires.placed in
    rw c.place.ensures (placed-shown g.L.Leaf.bounds g.L.Leaf.moved_by g.met.L.Leaf.moves_bounds c.args.at s.place s.label (trees_of s.inside) placed).shift

pub meet_node-meet_row-requires : goal.meet_node-meet_row-requires
meet_node-meet_row-requires g t c κs within =
    let s = c.in-Presentation.presented in
    let placed = subst (λ (n : Node _). IsPlaced g.L.Leaf.bounds g.L.Leaf.moved_by c.args.at (tree_of n)) c.in-Presentation.is c.requires.placed in
    let inside : ArePlaced g.L.Leaf.bounds g.L.Leaf.moved_by c.join_shifts-at.result (trees_of c.inside.result.now) =
    rw (c.join_shifts-at.ensures, c.place.ensures, c.inside.ensures)
    (placed-shown g.L.Leaf.bounds g.L.Leaf.moved_by g.met.L.Leaf.moves_bounds c.args.at s.place s.label (trees_of s.inside) placed) in
    (search rules, (within, (inside, c.requires.stand)))

pub meet_node-join_shifts-place-requires : goal.meet_node-join_shifts-place-requires
meet_node-join_shifts-place-requires g t c =
    let p = c.in-Update.piece in
    let placed = subst (λ (n : Node _). IsPlaced g.L.Leaf.bounds g.L.Leaf.moved_by c.args.at (tree_of n)) c.in-Update.is c.requires.placed in
    rw c.place-in-Update.ensures (placed-piece g.L.Leaf.bounds g.L.Leaf.moved_by g.met.L.Leaf.moves_bounds c.args.at p.place p.head (trees_of p.inside) placed).shift

pub meet_node-returns-in_ok-push-in-Update-clause-stand : goal.meet_node-returns-in_ok-push-in-Update-clause-stand
meet_node-returns-in_ok-push-in-Update-clause-stand g t c =
    let p = c.in-Update.piece in
    let placed = subst (λ (n : Node _). IsPlaced g.L.Leaf.bounds g.L.Leaf.moved_by c.args.at (tree_of n)) c.in-Update.is c.requires.placed in
    let inside : ArePlaced g.L.Leaf.bounds g.L.Leaf.moved_by c.join_shifts-place.result (trees_of p.inside) =
    rw (c.join_shifts-place.ensures, c.place-in-Update.ensures)
    (placed-piece g.L.Leaf.bounds g.L.Leaf.moved_by g.met.L.Leaf.moves_bounds c.args.at p.place p.head (trees_of p.inside) placed) in
    stand-last g.L.Leaf.bounds g.L.Leaf.moved_by c.args.met.now.items c.push-in-Update.new.self.items _ c.requires.stand inside c.in_ok-push-in-Update.ensures.items

pub meet_row-meet_node-requires : goal.meet_row-meet_node-requires
meet_row-meet_node-requires g t c κs within =
    let nodes = c.as_slice-node-items.result.now in
    let index = c.loop-node.node-index in
    let rest = drop (suc index) nodes in
    let step : drop index nodes ≡ c.node-item.result ∷ rest =
    drop-cons nodes index c.node-item.result c.loop-node-test.true ∙ ap (λ (n : Node _). n ∷ rest) (sym c.node-item.is) in
    let before = subst (λ (ns : List (Node _)). MeetsOn g.L.Leaf.bounds g.L.Leaf.moved_by c.args.at c.args.keeps.now c.args.met.now.items
    c.loop-node.met.items c.args.next c.loop-node.next (trees_of c.args.row.now) (forest_of ns)) step c.loop-node.invariant in (
      search rules,
      (
        within,
        (
          placed-first g.L.Leaf.bounds g.L.Leaf.moved_by g.met.L.Leaf.moves_bounds c.args.at (tree_of c.node-item.result) (forest_of rest) before.placed,
          before.stand,
        ),
      ),
    )

pub meet_row-loop-node-preserved : goal.meet_row-loop-node-preserved
meet_row-loop-node-preserved g t c =
    let nodes = c.as_slice-node-items.result.now in
    let index = c.loop-node.node-index in
    let rest = drop (suc index) nodes in
    let step : drop index nodes ≡ c.node-item.result ∷ rest =
    drop-cons nodes index c.node-item.result c.loop-node-test.true ∙ ap (λ (n : Node _). n ∷ rest) (sym c.node-item.is) in
    let before = subst (λ (ns : List (Node _)). MeetsOn g.L.Leaf.bounds g.L.Leaf.moved_by c.args.at c.args.keeps.now c.args.met.now.items
    c.loop-node.met.items c.args.next c.loop-node.next (trees_of c.args.row.now) (forest_of ns)) step c.loop-node.invariant in
    rw (add-one index)
    (meets_on g.L.Leaf.bounds g.L.Leaf.moved_by g.met.L.Leaf.moves_bounds c.args.at c.args.keeps.now c.args.met.now.items c.loop-node.met.items
    c.args.next c.loop-node.next (trees_of c.args.row.now) (tree_of c.node-item.result) (forest_of rest) before
    c.meet_node.new.met.items c.in_ok-next.next (c.in_ok-next.ensures {u = tt}).stand (c.in_ok-next.ensures {u = tt}).children)
