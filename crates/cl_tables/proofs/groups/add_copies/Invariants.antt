use Rattle.std.proofs.Common.{◌≡◌, ◌++◌, drop}
use Rattle.cl_tables.proofs.groups.add_copies.Given as goal

abbrev pub invariant-loop-command : goal.invariant-loop-command
invariant-loop-command l = l.commands.items ++ drop l.command-index l.group ≡ l.initial.commands.items ++ l.group
