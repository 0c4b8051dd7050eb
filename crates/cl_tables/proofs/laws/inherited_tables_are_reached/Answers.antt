use Rattle.cl_tables.proofs.InheritedLemmas.{inherited_is}
use Rattle.cl_tables.proofs.laws.inherited_tables_are_reached.Goals as goal

pub returns : goal.returns
returns c = inherited_is
