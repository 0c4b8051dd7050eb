-- What an argument of a command is where a line has no token for it.
use Rattle.std.specs.Prelude.{[], Option, Some, None}
use Rattle.cl_application.specs.declared.applications.App.{App}
use Rattle.cl_application.specs.declared.declarations.ArgumentDecl.{ArgumentDecl}
use Rattle.cl_application.specs.declared.declarations.DefaultDecl.{DefaultDecl}
use Rattle.cl_eval.specs.Evaluated.{outcome_of_eval, own_limits, value_in}
use Rattle.cl_syntax.specs.ExprTree.{ExprTree}
use Rattle.cl_value.specs.Data.{Data}

-- the value of an expression on no slots and no variables; none where it traps
abbrev pub closed_value : App → ExprTree → Option Data
closed_value app t = value_in (outcome_of_eval own_limits app [] [] t)

-- the value of a default; none where there is no default, or where it traps
abbrev pub value_if : App → Option DefaultDecl → Option Data
value_if app None = None
value_if app (Some d) = closed_value app d.value

-- the value of an argument's default, if it has one
abbrev pub default_value : App → ArgumentDecl → Option Data
default_value app a = value_if app a.default
