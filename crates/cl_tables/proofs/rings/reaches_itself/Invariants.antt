use Rattle.std.proofs.Common.{◌+◌, length}
use Rattle.cl_tables.specs.Clearing.{pending}
use Rattle.cl_tables.proofs.SearchLemmas.{Search}
use Rattle.cl_tables.proofs.rings.reaches_itself.Given as goal

abbrev pub invariant-loop-name : goal.invariant-loop-name
invariant-loop-name l = Search l.tables l.decl.name l.visited l.waiting.items

abbrev pub decreases-loop-name : goal.decreases-loop-name
decreases-loop-name l = pending l.tables l.visited + length l.waiting.items
