-- A part has no more forms than the parts among which it stands.
use Rattle.std.proofs.Common.{◌≡◌, ◌≤◌, ◌<◌, ◌+◌, ℕ, zero, suc, length, get_or, List, [], ◌∷◌, map, arith}
use Rattle.cl_syntax.specs.ExprTree.{ExprTree, nodes, nodes_all, nodes_bound, expr_trees_of}
use Rattle.cl_syntax.specs.Expr.{bindings_of}
use Rattle.cl_syntax.specs.ShapeTree as shape
use Rattle.cl_syntax.specs.ShapeTree.{ShapeTree, shape_trees_of}
use Rattle.cl_syntax.specs.TypeSpec.{arg_tree_of}
use Rattle.cl_syntax.specs.TypeSpecTree as type_spec
use Rattle.cl_syntax.specs.TypeSpecTree.{arg_trees_of, nodes_of_arg}
use Rattle.cl_syntax.specs.declared.expressions.Binding.{Binding}
use Rattle.cl_syntax.specs.declared.type_specs.TypeArg.{TypeArg}

pub part_nodes : (ts : List ExprTree) (i : ℕ) (t : ExprTree) → i < length ts → t ≡ get_or ts i t → nodes t ≤ nodes_all (expr_trees_of ts)
part_nodes [] i t l e = absurd (omega (arith, l))
part_nodes (u ∷ us) zero t l e = rw e (omega arith)
part_nodes (u ∷ us) (suc i) t l e = omega (arith, part_nodes us i t (omega (arith, l)) e)

pub binding_nodes : (bs : List Binding) (i : ℕ) (b : Binding) → i < length bs → b ≡ get_or bs i b → nodes b.value ≤ nodes_bound (bindings_of bs)
binding_nodes [] i b l e = absurd (omega (arith, l))
binding_nodes (c ∷ cs) zero b l e = rw e (omega arith)
binding_nodes (c ∷ cs) (suc i) b l e = omega (arith, binding_nodes cs i b (omega (arith, l)) e)

pub form_nodes : (fs : List ShapeTree) (i : ℕ) (f : ShapeTree) → i < length fs → f ≡ get_or fs i f → shape.nodes f + 1 ≤ shape.nodes_all (shape_trees_of fs)
form_nodes [] i f l e = absurd (omega (arith, l))
form_nodes (g ∷ gs) zero f l e = rw e (omega arith)
form_nodes (g ∷ gs) (suc i) f l e = omega (arith, form_nodes gs i f (omega (arith, l)) e)

pub arg_nodes : (args : List TypeArg) (i : ℕ) (a : TypeArg) → i < length args → a ≡ get_or args i a
    → nodes_of_arg (arg_tree_of a) + 1 ≤ type_spec.nodes_all (arg_trees_of (map arg_tree_of args))
arg_nodes [] i a l e = absurd (omega (arith, l))
arg_nodes (b ∷ bs) zero a l e = rw e (omega arith)
arg_nodes (b ∷ bs) (suc i) a l e = omega (arith, arg_nodes bs i a (omega (arith, l)) e)
