use Rattle.std.proofs.Common.{◌≡◌, map, drop}
use Rattle.cl_eval.specs.Slots.{value_named, entry_of}
use Rattle.cl_eval.proofs.slot_table.Slots.get.Given as goal

abbrev pub invariant-loop-entry : goal.invariant-loop-entry
invariant-loop-entry l = value_named l.name (map entry_of (drop l.entry-index l.entry-items)) ≡ value_named l.name (map entry_of l.entry-items)
