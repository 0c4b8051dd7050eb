-- The trees that specifiers of the program and their arguments stand for.
use Rattle.std.specs.Prelude.{List, [], Vec, Option, Some, None, map}
use Rattle.std.specs.declared.alloc.Global.{Global}
use Rattle.std.specs.declared.rc.Rc.{Rc}
use Rattle.cl_value.specs.Value.{data_of}
use Rattle.cl_syntax.specs.TypeSpecTree.{TypeSpecTree, TypeArgTree, Constant, Any, Param, Spec, Names}
use Rattle.cl_syntax.specs.declared.type_specs.TypeArg.{TypeArg}
use Rattle.cl_syntax.specs.declared.type_specs.TypeArg.TheVariants as arg

-- the tree of an argument of a specifier
abbrev pub arg_tree_of : TypeArg → TypeArgTree
arg_tree_of (arg.Constant v) = Constant (data_of v)
arg_tree_of arg.Any = Any
arg_tree_of (arg.Param x) = Param x
arg_tree_of (arg.Spec s) = Spec s
arg_tree_of (arg.Names xs) = Names xs

-- arguments that are shared, or not there
abbrev pub shared_args : Option (Rc (Vec TypeArg Global) Global) → List TypeArgTree
shared_args None = []
shared_args (Some r) = map arg_tree_of r.value.items

-- specifiers that are shared, or not there
abbrev pub shared_specs : Option (Rc (Vec TypeSpecTree Global) Global) → List TypeSpecTree
shared_specs None = []
shared_specs (Some r) = r.value.items
