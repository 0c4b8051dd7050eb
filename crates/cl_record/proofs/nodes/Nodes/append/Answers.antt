use Rattle.cl_record.proofs.Rows.{row-append}
use Rattle.cl_record.proofs.nodes.Nodes.append.Goals as goal

pub invariant_of-self-2 : goal.invariant_of-self-2
invariant_of-self-2 g c =
    rw c.in_ok-append.ensures.items
    (row-append g.L.Leaf c.self.inside.items.items c.other.inside.items.items c.self.inside.summary c.other.inside.summary c.in-Some.summary c.self.invariant c.other.invariant (rw c.in-Some.is at c.join.ensures))
