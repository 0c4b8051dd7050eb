use Rattle.cl_tables.proofs.IndexLemmas.{GoesOn}
use Rattle.cl_tables.proofs.indexes.index_of.Given as goal

abbrev pub invariant-loop-command : goal.invariant-loop-command
invariant-loop-command l = GoesOn l.kind l.commands l.command-index l.index
