use Rattle.std.proofs.Common.{rules, ◌≤◌, List, ◌∙◌, ap, sym, subst}
use Rattle.cl_record.specs.Labels.{LabelAt}
use Rattle.cl_record.specs.Ranges.{IsPlaced}
use Rattle.cl_record.specs.Seen.{tree_of}
use Rattle.cl_record.specs.TouchWalks.{seek, sought_of}
use Rattle.cl_record.specs.Trees.{size_of, size_of_all, trees_of}
use Rattle.cl_record.specs.declared.nodes.Node.{Node}
use Rattle.cl_record.proofs.Ends.{placed-last}
use Rattle.cl_record.proofs.Ranges.{placed-piece, placed-shown}
use Rattle.cl_record.proofs.TouchSteps.{SeeksOn, last-fewer, seeks_here, seeks_on, shown_inside, shown_itself}
use Rattle.cl_record.proofs.TouchWalks.{latest-outside, latest-piece}
use Rattle.cl_record.proofs.touches.+seek.Goals as goal

pub seek_node-join_shifts-at-requires : goal.seek_node-join_shifts-at-requires
seek_node-join_shifts-at-requires g t c =
    let s = c.in-Presentation.presented in
    let placed = subst (λ (n : Node _). IsPlaced g.L.Leaf.bounds g.L.Leaf.moved_by c.args.at (tree_of n)) c.in-Presentation.is c.requires in
    rw c.place.ensures (placed-shown g.L.Leaf.bounds g.L.Leaf.moved_by g.met.L.Leaf.moves_bounds c.args.at s.place s.label (trees_of s.inside) placed).shift

pub seek_node-seek_row-requires : goal.seek_node-seek_row-requires
seek_node-seek_row-requires g t c κs within =
    let s = c.in-Presentation.presented in
    let placed = subst (λ (n : Node _). IsPlaced g.L.Leaf.bounds g.L.Leaf.moved_by c.args.at (tree_of n)) c.in-Presentation.is c.requires in
    (search rules, (within, rw (c.join_shifts-at.ensures, c.place.ensures, c.inside.ensures) (placed-shown g.L.Leaf.bounds g.L.Leaf.moved_by g.met.L.Leaf.moves_bounds c.args.at s.place s.label (trees_of s.inside) placed)))

pub seek_node-visit-requires : goal.seek_node-visit-requires
seek_node-visit-requires g t c =
    let s = c.in-Presentation.presented in
    let placed = subst (λ (n : Node _). IsPlaced g.L.Leaf.bounds g.L.Leaf.moved_by c.args.at (tree_of n)) c.in-Presentation.is c.requires in
    rw (c.join_shifts-at.ensures, c.place.ensures) (placed-shown g.L.Leaf.bounds g.L.Leaf.moved_by g.met.L.Leaf.moves_bounds c.args.at s.place s.label (trees_of s.inside) placed)

pub seek_node-join_shifts-at-requires-in-Update : goal.seek_node-join_shifts-at-requires-in-Update
seek_node-join_shifts-at-requires-in-Update g t c =
    let p = c.in-Update.piece in
    let placed = subst (λ (n : Node _). IsPlaced g.L.Leaf.bounds g.L.Leaf.moved_by c.args.at (tree_of n)) c.in-Update.is c.requires in
    rw c.place-in-Update.ensures (placed-piece g.L.Leaf.bounds g.L.Leaf.moved_by g.met.L.Leaf.moves_bounds c.args.at p.place p.head (trees_of p.inside) placed).shift

pub seek_node-seek_row-requires-in-Update : goal.seek_node-seek_row-requires-in-Update
seek_node-seek_row-requires-in-Update g t c κs within =
    let p = c.in-Update.piece in
    let placed = subst (λ (n : Node _). IsPlaced g.L.Leaf.bounds g.L.Leaf.moved_by c.args.at (tree_of n)) c.in-Update.is c.requires in
    (search rules, (within, rw (c.join_shifts-at-in-Update.ensures, c.place-in-Update.ensures, c.inside-in-Update.ensures) (placed-piece g.L.Leaf.bounds g.L.Leaf.moved_by g.met.L.Leaf.moves_bounds c.args.at p.place p.head (trees_of p.inside) placed)))

pub seek_node-returns-in-Found : goal.seek_node-returns-in-Found
seek_node-returns-in-Found g t c =
    let s = c.in-Presentation.presented in
    rw c.in-Presentation.is
    (shown_inside g.L.Leaf.bounds c.args.spot.x c.args.spot.y g.L.Leaf.moved_by g.met.L.Leaf.moves_twice c.args.at s.place s.label (trees_of s.inside) c.args.k c.in-Found.label.now
    (rw (← c.place.ensures, ← c.inside.ensures, ← c.join_shifts-at.ensures) c.in-Found.ensures))

pub seek_node-returns-in-Passed : goal.seek_node-returns-in-Passed
seek_node-returns-in-Passed g t c =
    let s = c.in-Presentation.presented in
    rw c.in-Presentation.is
    (shown_itself g.L.Leaf.bounds c.args.spot.x c.args.spot.y g.L.Leaf.moved_by g.met.L.Leaf.moves_twice c.args.at s.place s.label (trees_of s.inside) c.args.k c.in-Passed.left (sought_of c.visit.result)
    (rw (← c.place.ensures, ← c.inside.ensures, ← c.join_shifts-at.ensures) c.in-Passed.ensures)
    (rw (← c.place.ensures, ← c.join_shifts-at.ensures) c.visit.ensures))

pub seek_node-returns-in-Update : goal.seek_node-returns-in-Update
seek_node-returns-in-Update g t c =
    rw (c.in-Update.is, latest-piece g.L.Leaf.bounds c.args.spot.x c.args.spot.y g.L.Leaf.moved_by g.met.L.Leaf.moves_twice c.args.at c.in-Update.piece.place c.in-Update.piece.head (trees_of c.in-Update.piece.inside), ← c.place-in-Update.ensures, ← c.inside-in-Update.ensures, ← c.join_shifts-at-in-Update.ensures)
    c.seek_row-in-Update.ensures

pub seek_row-returns-then-not-row_box_holds : goal.seek_row-returns-then-not-row_box_holds
seek_row-returns-then-not-row_box_holds g t c =
    sym (ap (λ (ls : List LabelAt). seek c.args.k ls)
    (latest-outside g.L.Leaf.bounds c.args.spot.x c.args.spot.y g.L.Leaf.moved_by g.met.L.Leaf.moves_twice c.args.at (trees_of c.args.inside.now) (sym c.row_box_holds.ensures ∙ c.if-not-row_box_holds.true)))

pub seek_row-seek_node-requires : goal.seek_row-seek_node-requires
seek_row-seek_node-requires g t c κs within =
    let before = c.in-Some.before.now in
    let last = c.in-Some.last.now in
    let all = trees_of c.args.inside.now in
    let step = subst (λ (ns : List (Node _)). SeeksOn g.L.Leaf.bounds c.args.spot.x c.args.spot.y g.L.Leaf.moved_by c.args.at c.args.k c.loop-last.left all ns) c.in-Some.ensures.cases.0 c.loop-last.invariant in
    let smaller : size_of (tree_of last) ≤ size_of_all all = last-fewer g.L.Leaf.bounds c.args.spot.x c.args.spot.y g.L.Leaf.moved_by c.args.at c.args.k c.loop-last.left all before last step in
    (search rules, (within, placed-last g.L.Leaf.bounds g.L.Leaf.moved_by c.args.at before last step.placed))

pub seek_row-returns-in-Found : goal.seek_row-returns-in-Found
seek_row-returns-in-Found g t c =
    let before = c.in-Some.before.now in
    let last = c.in-Some.last.now in
    let all = trees_of c.args.inside.now in
    let step = subst (λ (ns : List (Node _)). SeeksOn g.L.Leaf.bounds c.args.spot.x c.args.spot.y g.L.Leaf.moved_by c.args.at c.args.k c.loop-last.left all ns) c.in-Some.ensures.cases.0 c.loop-last.invariant in
    seeks_here g.L.Leaf.bounds c.args.spot.x c.args.spot.y g.L.Leaf.moved_by g.met.L.Leaf.moves_twice c.args.at c.args.k c.loop-last.left all before last step c.in-Found.label.now c.in-Found.ensures

pub seek_row-loop-last-preserved : goal.seek_row-loop-last-preserved
seek_row-loop-last-preserved g t c =
    let before = c.in-Some.before.now in
    let last = c.in-Some.last.now in
    let all = trees_of c.args.inside.now in
    let step = subst (λ (ns : List (Node _)). SeeksOn g.L.Leaf.bounds c.args.spot.x c.args.spot.y g.L.Leaf.moved_by c.args.at c.args.k c.loop-last.left all ns) c.in-Some.ensures.cases.0 c.loop-last.invariant in
    seeks_on g.L.Leaf.bounds c.args.spot.x c.args.spot.y g.L.Leaf.moved_by g.met.L.Leaf.moves_twice c.args.at c.args.k c.loop-last.left all before last step c.in-Passed.more c.in-Passed.ensures
