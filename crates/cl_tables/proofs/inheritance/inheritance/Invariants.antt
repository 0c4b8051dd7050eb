use Rattle.std.proofs.Common.{reverse, length}
use Rattle.std.specs.List.{flat_map}
use Rattle.cl_tables.specs.Inheritance.{preorder}
use Rattle.cl_tables.proofs.WalkLemmas.{Walk}
use Rattle.cl_tables.proofs.inheritance.inheritance.Given as goal

abbrev pub invariant-loop-name : goal.invariant-loop-name
invariant-loop-name l = Walk l.tables l.root l.visited l.order (reverse l.waiting.items)

abbrev pub decreases-loop-name : goal.decreases-loop-name
decreases-loop-name l = length (flat_map (preorder l.tables) (reverse l.waiting.items))
