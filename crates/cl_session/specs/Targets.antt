-- What the program's parts of pointing stand for.
use Rattle.cl_session.specs.Pointing as pointing
use Rattle.cl_session.specs.declared.pointing.TypedArgument.{TypedArgument}

-- the argument that is typed next
abbrev pub typed_of : TypedArgument → pointing.TypedArgument
typed_of t = record { command = t.command.now; number = t.number; argument = t.argument.now }
