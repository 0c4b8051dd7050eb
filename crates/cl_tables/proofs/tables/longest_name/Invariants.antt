use Rattle.std.proofs.Common.{take}
use Rattle.cl_tables.specs.Indexes.{AreWithin}
use Rattle.cl_tables.proofs.tables.longest_name.Given as goal

abbrev pub invariant-loop-command : goal.invariant-loop-command
invariant-loop-command l = AreWithin l.most (take l.command-index l.commands)
