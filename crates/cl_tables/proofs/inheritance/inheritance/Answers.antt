use Rattle.cl_tables.proofs.WalkLemmas.{walk_begins, walk_goes_on, walk_falls}
use Rattle.cl_tables.proofs.inheritance.inheritance.Goals as goal

pub loop-name-init : goal.loop-name-init
loop-name-init c =
    rw (c.in_ok-push.ensures.items, c.new-waiting.ensures.items, c.in_ok-from_slice.ensures, c.new-order.ensures, c.new-visited.ensures)
    (walk_begins c.args.tables.now c.args.root.now)

pub loop-name-smaller : goal.loop-name-smaller
loop-name-smaller c =
    rw (c.in_ok-visit.ensures.waiting, c.in-Some.ensures.items)
    (walk_falls c.args.tables.now c.requires c.loop-name.visited c.in-Some.name c.pop.new.self.items)

pub loop-name-preserved : goal.loop-name-preserved
loop-name-preserved c =
    rw (c.in_ok-visit.ensures.waiting, c.in_ok-visit.ensures.order, c.in_ok-visit.ensures.visited)
    (walk_goes_on c.args.tables.now c.requires c.args.root.now c.loop-name.visited c.loop-name.order c.in-Some.name c.pop.new.self.items
    (rw c.in-Some.ensures.items at c.loop-name.invariant))
