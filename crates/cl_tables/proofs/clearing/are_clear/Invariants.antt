use Rattle.std.proofs.Common.{◌≡◌, drop}
use Rattle.std.specs.List.{list_all}
use Rattle.cl_tables.specs.Clearing.{is_clear}
use Rattle.cl_tables.proofs.clearing.are_clear.Given as goal

abbrev pub invariant-loop-name : goal.invariant-loop-name
invariant-loop-name l = list_all (is_clear l.tables l.clear) (drop l.name-index l.names) ≡ list_all (is_clear l.tables l.clear) l.names
