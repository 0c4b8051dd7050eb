-- Expressions and bindings as the program holds them.
use Rattle.std.specs.Prelude.{List, Vec}
use Rattle.std.specs.declared.alloc.Global.{Global}
use Rattle.cl_syntax.specs.ExprTree.{ExprTree}
use Rattle.cl_expressions.specs.Expressions.{Bound}
use Rattle.cl_expressions.specs.Scopes.{Names, in_sight}
use Rattle.cl_expressions.specs.declared.bindings.Bindings.{Bindings}

-- the expressions of a vector
abbrev pub terms_in : Vec ExprTree Global → List ExprTree
terms_in v = v.items

-- the bindings, and the variables that are seen behind them and others
abbrev pub bound_of : Names → Bindings → Bound
bound_of others b = (b.bindings.items, in_sight b.names.items others)
