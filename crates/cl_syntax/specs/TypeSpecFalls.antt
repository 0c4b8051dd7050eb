-- A specifier's parts have fewer nodes than it has, by which a recursion over specifiers ends.
use Rattle.std.specs.Prelude.{◌≤◌, List, [], ◌∷◌, Vec, Option, Some, None, map}
use Rattle.std.specs.declared.alloc.Global.{Global}
use Rattle.std.specs.declared.rc.Rc.{Rc}
use Rattle.std.proofs.Common.{arith}
use Rattle.cl_syntax.specs.TypeSpecTree.{arg_trees_of, nodes_of_arg, nodes_all}
use Rattle.cl_syntax.specs.TypeSpec.{arg_tree_of, shared_args}
use Rattle.cl_syntax.specs.declared.type_specs.TypeArg.{TypeArg}
use Rattle.cl_syntax.specs.declared.type_specs.TypeArg.TheVariants as arg
use Rattle.cl_syntax.specs.declared.type_specs.TypeArgs.TheDeep.{deep-TypeArg, deep-TypeArgs}
use denote.Param.Weighed.{most}

-- an argument is no deeper than its tree is large
pub arg-nodes : (a : TypeArg) → deep-TypeArg a ≤ nodes_of_arg (arg_tree_of a)
arg-nodes (arg.Constant v) = omega arith
arg-nodes arg.Any = omega arith
arg-nodes (arg.Param x) = omega arith
arg-nodes (arg.Spec s) = omega arith
arg-nodes (arg.Names xs) = omega arith

-- no argument of a row is deeper than the row is large
pub most-nodes : (ts : List TypeArg) → most deep-TypeArg ts ≤ nodes_all (arg_trees_of (map arg_tree_of ts))
most-nodes [] = omega arith
most-nodes (a ∷ ts) = omega (arith, arg-nodes a, most-nodes ts)

-- a shared row of arguments is no deeper than it is large
pub shared-nodes : (row : Option (Rc (Vec TypeArg Global) Global)) → deep-TypeArgs (record { row = row }) ≤ nodes_all (arg_trees_of (shared_args row))
shared-nodes None = omega arith
shared-nodes (Some r) = omega (arith, most-nodes r.value.items)
