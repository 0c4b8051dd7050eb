use Rattle.cl_damage.specs.Lents.{child_lent}
use Rattle.cl_damage.proofs.PartLemmas.{rest-fewer, rest-seen}
use Rattle.cl_damage.proofs.parts.behind.Goals as goal

pub returns-then-count-children-clause-children : goal.returns-then-count-children-clause-children
returns-then-count-children-clause-children g c = rest-seen (child_lent g.L.Leaf.moved_by) c.args.count c.args.children.now

pub returns-then-count-children-clause-fewer : goal.returns-then-count-children-clause-fewer
returns-then-count-children-clause-fewer g c = rest-fewer (child_lent g.L.Leaf.moved_by) c.args.count c.args.children.now
