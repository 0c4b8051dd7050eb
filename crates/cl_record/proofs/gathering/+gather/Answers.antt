use Rattle.std.proofs.Common.{rules, ◌≤◌, List, ◌++◌, map, ◌∙◌, ap, sym, subst}
use Rattle.std.proofs.lemmas.List.{append-nil}
use Rattle.std.proofs.lemmas.Result.{on_ok_weaker}
use Rattle.cl_record.specs.Labels.{LabelAt}
use Rattle.cl_record.specs.Ranges.{IsPlaced}
use Rattle.cl_record.specs.Seen.{tree_of}
use Rattle.cl_record.specs.Touches.{touch_of_label}
use Rattle.cl_record.specs.TouchWalks.{touch_of}
use Rattle.cl_record.specs.Trees.{size_of, size_of_all, trees_of}
use Rattle.cl_record.specs.declared.nodes.Node.{Node}
use Rattle.cl_record.proofs.Ends.{placed-last}
use Rattle.cl_record.proofs.Gathered.{GathersOn, gather-fewer, gather-shown, gathers_all, gathers_on}
use Rattle.cl_record.proofs.Ranges.{placed-piece, placed-shown}
use Rattle.cl_record.proofs.TouchWalks.{latest-outside, latest-piece}
use Rattle.cl_record.proofs.gathering.+gather.Goals as goal

pub gather_node-join_shifts-at-requires : goal.gather_node-join_shifts-at-requires
gather_node-join_shifts-at-requires g t c =
    let s = c.in-Presentation.presented in
    let placed = subst (λ (n : Node _). IsPlaced g.L.Leaf.bounds g.L.Leaf.moved_by c.args.at (tree_of n)) c.in-Presentation.is c.requires in
    rw c.place.ensures (placed-shown g.L.Leaf.bounds g.L.Leaf.moved_by g.met.L.Leaf.moves_bounds c.args.at s.place s.label (trees_of s.inside) placed).shift

pub gather_node-gather_row-requires : goal.gather_node-gather_row-requires
gather_node-gather_row-requires g t c κs within =
    let s = c.in-Presentation.presented in
    let placed = subst (λ (n : Node _). IsPlaced g.L.Leaf.bounds g.L.Leaf.moved_by c.args.at (tree_of n)) c.in-Presentation.is c.requires in (
      search rules,
      (
        within,
        rw (c.join_shifts-at.ensures, c.place.ensures, c.inside.ensures)
            (placed-shown g.L.Leaf.bounds g.L.Leaf.moved_by g.met.L.Leaf.moves_bounds c.args.at s.place s.label (trees_of s.inside) placed),
      ),
    )

pub gather_node-gather_itself-requires : goal.gather_node-gather_itself-requires
gather_node-gather_itself-requires g t c =
    let s = c.in-Presentation.presented in
    let placed = subst (λ (n : Node _). IsPlaced g.L.Leaf.bounds g.L.Leaf.moved_by c.args.at (tree_of n)) c.in-Presentation.is c.requires in
    rw (c.join_shifts-at.ensures, c.place.ensures) (placed-shown g.L.Leaf.bounds g.L.Leaf.moved_by g.met.L.Leaf.moves_bounds c.args.at s.place s.label (trees_of s.inside) placed)

pub gather_node-join_shifts-at-requires-in-Update : goal.gather_node-join_shifts-at-requires-in-Update
gather_node-join_shifts-at-requires-in-Update g t c =
    let p = c.in-Update.piece in
    let placed = subst (λ (n : Node _). IsPlaced g.L.Leaf.bounds g.L.Leaf.moved_by c.args.at (tree_of n)) c.in-Update.is c.requires in
    rw c.place-in-Update.ensures (placed-piece g.L.Leaf.bounds g.L.Leaf.moved_by g.met.L.Leaf.moves_bounds c.args.at p.place p.head (trees_of p.inside) placed).shift

pub gather_node-gather_row-requires-in-Update : goal.gather_node-gather_row-requires-in-Update
gather_node-gather_row-requires-in-Update g t c κs within =
    let p = c.in-Update.piece in
    let placed = subst (λ (n : Node _). IsPlaced g.L.Leaf.bounds g.L.Leaf.moved_by c.args.at (tree_of n)) c.in-Update.is c.requires in (
      search rules,
      (
        within,
        rw (c.join_shifts-at-in-Update.ensures, c.place-in-Update.ensures, c.inside-in-Update.ensures)
            (placed-piece g.L.Leaf.bounds g.L.Leaf.moved_by g.met.L.Leaf.moves_bounds c.args.at p.place p.head (trees_of p.inside) placed),
      ),
    )

pub gather_node-returns-in_ok-gather_row-in-Presentation :
    goal.gather_node-returns-in_ok-gather_row-in-Presentation
gather_node-returns-in_ok-gather_row-in-Presentation g t c =
    let s = c.in-Presentation.presented in
    on_ok_weaker c.gather_itself.result
    (λ itself. rw c.in-Presentation.is
    (gather-shown g.L.Leaf.bounds c.args.spot.x c.args.spot.y g.L.Leaf.moved_by g.met.L.Leaf.moves_twice c.args.at s.place s.label (trees_of s.inside)
    (map touch_of c.args.gathered.now.items) (map touch_of c.gather_row.new.gathered.items) (map touch_of c.gather_itself.new.gathered.items)
    (rw (← c.place.ensures, ← c.inside.ensures, ← c.join_shifts-at.ensures) c.in_ok-gather_row-in-Presentation.ensures)
    (rw (← c.place.ensures, ← c.join_shifts-at.ensures) itself)))
    c.gather_itself.ensures

pub gather_node-returns-in-Update : goal.gather_node-returns-in-Update
gather_node-returns-in-Update g t c =
    rw (
      c.in-Update.is,
      latest-piece g.L.Leaf.bounds c.args.spot.x c.args.spot.y g.L.Leaf.moved_by g.met.L.Leaf.moves_twice c.args.at
          c.in-Update.piece.place c.in-Update.piece.head (trees_of c.in-Update.piece.inside),
      ← c.place-in-Update.ensures,
      ← c.inside-in-Update.ensures,
      ← c.join_shifts-at-in-Update.ensures,
    )
    c.gather_row-in-Update.ensures

pub gather_row-returns-then-not-row_box_holds : goal.gather_row-returns-then-not-row_box_holds
gather_row-returns-then-not-row_box_holds g t c =
    sym (ap (λ (ls : List LabelAt). map touch_of c.args.gathered.now.items ++ map touch_of_label ls)
    (latest-outside g.L.Leaf.bounds c.args.spot.x c.args.spot.y g.L.Leaf.moved_by g.met.L.Leaf.moves_twice c.args.at (trees_of c.args.inside.now)
    (sym c.row_box_holds.ensures ∙ c.if-not-row_box_holds.true))
    ∙ append-nil (map touch_of c.args.gathered.now.items))

pub gather_row-gather_node-requires : goal.gather_row-gather_node-requires
gather_row-gather_node-requires g t c κs within =
    let before = c.in-Some.before.now in
    let last = c.in-Some.last.now in
    let all = trees_of c.args.inside.now in
    let was = map touch_of c.args.gathered.now.items in
    let now = map touch_of c.loop-last.gathered.items in
    let step = subst (λ (ns : List (Node _)). GathersOn g.L.Leaf.bounds c.args.spot.x c.args.spot.y g.L.Leaf.moved_by c.args.at was now all ns)
    c.in-Some.ensures.cases.0 c.loop-last.invariant in
    let smaller : size_of (tree_of last) ≤ size_of_all all = gather-fewer g.L.Leaf.bounds c.args.spot.x c.args.spot.y g.L.Leaf.moved_by c.args.at was now all before last step in
    (search rules, (within, placed-last g.L.Leaf.bounds g.L.Leaf.moved_by c.args.at before last step.placed))

pub gather_row-loop-last-preserved : goal.gather_row-loop-last-preserved
gather_row-loop-last-preserved g t c =
    let before = c.in-Some.before.now in
    let last = c.in-Some.last.now in
    let all = trees_of c.args.inside.now in
    let was = map touch_of c.args.gathered.now.items in
    let now = map touch_of c.loop-last.gathered.items in
    let step = subst (λ (ns : List (Node _)). GathersOn g.L.Leaf.bounds c.args.spot.x c.args.spot.y g.L.Leaf.moved_by c.args.at was now all ns)
    c.in-Some.ensures.cases.0 c.loop-last.invariant in
    gathers_on g.L.Leaf.bounds c.args.spot.x c.args.spot.y g.L.Leaf.moved_by g.met.L.Leaf.moves_twice c.args.at was now all before last step _ c.in_ok-gather_node.ensures

pub gather_row-returns : goal.gather_row-returns
gather_row-returns g t c =
    gathers_all g.L.Leaf.bounds c.args.spot.x c.args.spot.y g.L.Leaf.moved_by c.args.at
    (map touch_of c.args.gathered.now.items) (map touch_of c.loop-last.gathered.items)
    (trees_of c.args.inside.now) c.loop-last.row.now
    c.in_default.ensures.cases c.loop-last.invariant
