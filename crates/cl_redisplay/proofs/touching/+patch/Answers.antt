use Rattle.std.proofs.Common.{rules, ◌≡◌, [], ◌∷◌, ◌∙◌, List, suc, add-one, arith, drop, drop-cons, ap, sym, subst}
use Rattle.std.proofs.lemmas.List.{drop_all}
use Rattle.cl_record.specs.Seen.{forest_of, tree_of}
use Rattle.cl_record.specs.Trees.{trees_of}
use Rattle.cl_record.specs.declared.nodes.Node.{Node}
use Rattle.cl_record.specs.Ranges.{IsPlaced}
use Rattle.cl_record.proofs.Ranges.{placed-first, placed-piece, placed-shown}
use Rattle.cl_record.specs.Marks.{marks_of_all, move_marks}
use Rattle.cl_record.specs.Replays.{items_drawn}
use Rattle.cl_spans.specs.SpanRows.{spans_hold}
use Rattle.cl_redisplay.proofs.PatchLemmas.{those_apart}
use Rattle.cl_redisplay.proofs.PatchWalks.{GoesOn, all_done, drawn_piece, drawn_shown, goes_on}
use Rattle.cl_redisplay.proofs.touching.+patch.Goals as goal

pub patch_inside-patch_node-requires : goal.patch_inside-patch_node-requires
patch_inside-patch_node-requires g t c κs within =
    let nodes = c.as_slice-node-items.result.now in
    let index = c.loop-node.node-index in
    let rest = drop (suc index) nodes in
    let step : drop index nodes ≡ c.node-item.result ∷ rest =
    drop-cons nodes index c.node-item.result c.loop-node-test.true ∙ ap (λ (n : Node _). n ∷ rest) (sym c.node-item.is) in
    let before = subst (λ (ns : List (Node _)). GoesOn g.L.Leaf.cell g.L.Leaf.bounds g.L.Leaf.moved_by c.args.area (spans_hold c.args.touched.now)
    c.args.at c.args.raster.now c.loop-node.raster (trees_of c.args.inside.now) (forest_of ns)) step c.loop-node.invariant in (
      search rules,
      (
        within,
        (
          search rules,
          placed-first g.L.Leaf.bounds g.L.Leaf.moved_by g.met.L.Leaf.moves_bounds c.args.at (tree_of c.node-item.result) (forest_of rest) before.placed,
        ),
      ),
    )

pub patch_inside-loop-node-preserved : goal.patch_inside-loop-node-preserved
patch_inside-loop-node-preserved g t c =
    let nodes = c.as_slice-node-items.result.now in
    let index = c.loop-node.node-index in
    let rest = drop (suc index) nodes in
    let step : drop index nodes ≡ c.node-item.result ∷ rest =
    drop-cons nodes index c.node-item.result c.loop-node-test.true ∙ ap (λ (n : Node _). n ∷ rest) (sym c.node-item.is) in
    let before = subst (λ (ns : List (Node _)). GoesOn g.L.Leaf.cell g.L.Leaf.bounds g.L.Leaf.moved_by c.args.area (spans_hold c.args.touched.now)
    c.args.at c.args.raster.now c.loop-node.raster (trees_of c.args.inside.now) (forest_of ns)) step c.loop-node.invariant in
    rw (add-one index)
    (goes_on g.L.Leaf.cell g.L.Leaf.bounds g.L.Leaf.moved_by c.args.area (spans_hold c.args.touched.now)
    g.met.L.Leaf.moves_bounds c.args.at c.args.raster.now c.loop-node.raster c.patch_node.new.raster
    (trees_of c.args.inside.now) (tree_of c.node-item.result) (forest_of rest) before c.patch_node.ensures)

pub patch_inside-returns-after-loop-node : goal.patch_inside-returns-after-loop-node
patch_inside-returns-after-loop-node g t c =
    let nodes = c.as_slice-node-items.result.now in
    let none : drop c.loop-node.node-index nodes ≡ [] = drop_all c.loop-node.node-index nodes (omega arith) in
    let last = subst (λ (ns : List (Node _)). GoesOn g.L.Leaf.cell g.L.Leaf.bounds g.L.Leaf.moved_by c.args.area (spans_hold c.args.touched.now)
    c.args.at c.args.raster.now c.loop-node.raster (trees_of c.args.inside.now) (forest_of ns)) none c.loop-node.invariant in
    all_done g.L.Leaf.cell g.L.Leaf.bounds g.L.Leaf.moved_by c.args.area (spans_hold c.args.touched.now)
    c.args.at c.args.raster.now c.loop-node.raster (trees_of c.args.inside.now) last

pub patch_node-join_shifts-at-requires : goal.patch_node-join_shifts-at-requires
patch_node-join_shifts-at-requires g t c =
    let s = c.in-Presentation.presented in
    let placed = subst (λ (n : Node _). IsPlaced g.L.Leaf.bounds g.L.Leaf.moved_by c.args.at (tree_of n)) c.in-Presentation.is c.requires.placed in
    rw c.place.ensures (placed-shown g.L.Leaf.bounds g.L.Leaf.moved_by g.met.L.Leaf.moves_bounds c.args.at s.place s.label (trees_of s.inside) placed).shift

pub patch_node-patch_inside-requires : goal.patch_node-patch_inside-requires
patch_node-patch_inside-requires g t c κs within =
    let s = c.in-Presentation.presented in
    let placed = subst (λ (n : Node _). IsPlaced g.L.Leaf.bounds g.L.Leaf.moved_by c.args.at (tree_of n)) c.in-Presentation.is c.requires.placed in (
      search rules,
      (
        within,
        (
          search rules,
          rw (c.join_shifts-at.ensures, c.place.ensures, c.inside.ensures)
              (placed-shown g.L.Leaf.bounds g.L.Leaf.moved_by g.met.L.Leaf.moves_bounds c.args.at s.place s.label (trees_of s.inside) placed),
        ),
      ),
    )

pub patch_node-join_shifts-at-requires-in-Update : goal.patch_node-join_shifts-at-requires-in-Update
patch_node-join_shifts-at-requires-in-Update g t c =
    let p = c.in-Update.piece in
    let placed = subst (λ (n : Node _). IsPlaced g.L.Leaf.bounds g.L.Leaf.moved_by c.args.at (tree_of n)) c.in-Update.is c.requires.placed in
    rw c.place-in-Update.ensures (placed-piece g.L.Leaf.bounds g.L.Leaf.moved_by g.met.L.Leaf.moves_bounds c.args.at p.place p.head (trees_of p.inside) placed).shift

pub patch_node-patch_inside-requires-in-Update : goal.patch_node-patch_inside-requires-in-Update
patch_node-patch_inside-requires-in-Update g t c κs within =
    let p = c.in-Update.piece in
    let placed = subst (λ (n : Node _). IsPlaced g.L.Leaf.bounds g.L.Leaf.moved_by c.args.at (tree_of n)) c.in-Update.is c.requires.placed in (
      search rules,
      (
        within,
        (
          search rules,
          rw (c.join_shifts-at-in-Update.ensures, c.place-in-Update.ensures, c.inside-in-Update.ensures)
              (placed-piece g.L.Leaf.bounds g.L.Leaf.moved_by g.met.L.Leaf.moves_bounds c.args.at p.place p.head (trees_of p.inside) placed),
        ),
      ),
    )

pub patch_node-returns-in-Presentation : goal.patch_node-returns-in-Presentation
patch_node-returns-in-Presentation g t c =
    rw (
      c.in-Presentation.is,
      drawn_shown g.L.Leaf.cell g.L.Leaf.bounds g.L.Leaf.moved_by c.args.area (spans_hold c.args.touched.now)
          g.met.L.Leaf.moves_twice c.args.at c.in-Presentation.presented.place c.in-Presentation.presented.label (trees_of c.in-Presentation.presented.inside),
      ← c.place.ensures,
      ← c.inside.ensures,
      ← c.join_shifts-at.ensures,
    )
    c.patch_inside.ensures

pub patch_node-returns-in-Update : goal.patch_node-returns-in-Update
patch_node-returns-in-Update g t c =
    rw (
      c.in-Update.is,
      drawn_piece g.L.Leaf.cell g.L.Leaf.bounds g.L.Leaf.moved_by c.args.area (spans_hold c.args.touched.now)
          g.met.L.Leaf.moves_twice c.args.at c.in-Update.piece.place c.in-Update.piece.head (trees_of c.in-Update.piece.inside),
      ← c.place-in-Update.ensures,
      ← c.inside-in-Update.ensures,
      ← c.join_shifts-at-in-Update.ensures,
    )
    c.patch_inside-in-Update.ensures

pub patch_inside-returns-else-box_meets : goal.patch_inside-returns-else-box_meets
patch_inside-returns-else-box_meets g t c =
    let marks = marks_of_all g.L.Leaf.moved_by (trees_of c.args.inside.now) in
    those_apart g.L.Leaf.bounds g.L.Leaf.cell g.met.L.Leaf.within c.args.raster.now c.args.area (spans_hold c.args.touched.now)
    (items_drawn (move_marks g.L.Leaf.moved_by c.args.at marks)) (c.box_meets.ensures c.if-box_meets.false)
