use Rattle.cl_record.proofs.Rows.{row-push}
use Rattle.cl_record.proofs.nodes.Nodes.push.Goals as goal

pub invariant_of-self-2 : goal.invariant_of-self-2
invariant_of-self-2 g c =
    rw c.in_ok-push.ensures.items
    (row-push g.L.Leaf c.self.inside.items.items c.args.node c.self.inside.summary c.summary.result c.in-Some.summary c.self.invariant c.summary.ensures.sound c.summary.ensures.value (rw c.in-Some.is at c.join.ensures))
