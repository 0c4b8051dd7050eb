use Rattle.cl_tables.proofs.LawLemmas.{line_command_is}
use Rattle.cl_tables.proofs.laws.line_commands_are_longest.Goals as goal

pub returns : goal.returns
returns c = line_command_is
