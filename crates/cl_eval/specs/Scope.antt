-- The variables that a form sees.
use Rattle.std.specs.Prelude.{◌∷◌, ◌++◌, map}
use Rattle.cl_value.specs.Value.{data_of}
use Rattle.cl_eval.specs.Slots.{Env, bind_parameters}
use Rattle.cl_eval.specs.declared.variables.Scope.{Scope}
use Rattle.cl_eval.specs.declared.variables.Scope.TheVariants as scope

-- the variables in sight, the nearest first
abbrev pub variables_of : Scope → Env
variables_of (scope.Given e) = e.now
variables_of (scope.Bound' x v p s) = (x.now, data_of v.now) ∷ variables_of s
variables_of (scope.Frame' e p s) = e.now ++ variables_of s
variables_of (scope.Parameters xs vs) = bind_parameters xs.now (map data_of vs.now)
