use Rattle.std.proofs.Common.{◌≡◌, ◌++◌, drop}
use Rattle.cl_phases.specs.CommandNames.{line_names}
use Rattle.cl_phases.proofs.command_names.line_names.Given as goal

abbrev pub invariant-loop-name : goal.invariant-loop-name
invariant-loop-name l = l.lines.items ++ line_names (drop l.name-index l.names) ≡ line_names l.names
