use Rattle.cl_damage.specs.Lents.{child_lent}
use Rattle.cl_damage.proofs.PartLemmas.{first-fewer, first-seen}
use Rattle.cl_damage.proofs.parts.first.Goals as goal

pub returns-then-count-children-clause-children : goal.returns-then-count-children-clause-children
returns-then-count-children-clause-children g c = first-seen (child_lent g.L.Leaf.moved_by) c.args.count c.args.children.now

pub returns-then-count-children-clause-fewer : goal.returns-then-count-children-clause-fewer
returns-then-count-children-clause-fewer g c = first-fewer (child_lent g.L.Leaf.moved_by) c.args.count c.args.children.now
