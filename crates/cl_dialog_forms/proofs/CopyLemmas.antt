-- A part has no more forms than the parts among which it stands.
use Rattle.std.proofs.Common.{◌≡◌, ◌≤◌, ◌<◌, ℕ, zero, suc, length, get_or, List, [], ◌∷◌, arith}
use Rattle.cl_syntax.specs.ExprTree.{ExprTree, nodes, nodes_all, nodes_bound, expr_trees_of}
use Rattle.cl_syntax.specs.Expr.{bindings_of}
use Rattle.cl_syntax.specs.declared.expressions.Binding.{Binding}

pub part_nodes : (ts : List ExprTree) (i : ℕ) (t : ExprTree) → i < length ts → t ≡ get_or ts i t → nodes t ≤ nodes_all (expr_trees_of ts)
part_nodes [] i t l e = absurd (omega (arith, l))
part_nodes (u ∷ us) zero t l e = rw e (omega arith)
part_nodes (u ∷ us) (suc i) t l e = omega (arith, part_nodes us i t (omega (arith, l)) e)

pub binding_nodes : (bs : List Binding) (i : ℕ) (b : Binding) → i < length bs → b ≡ get_or bs i b → nodes b.value ≤ nodes_bound (bindings_of bs)
binding_nodes [] i b l e = absurd (omega (arith, l))
binding_nodes (c ∷ cs) zero b l e = rw e (omega arith)
binding_nodes (c ∷ cs) (suc i) b l e = omega (arith, binding_nodes cs i b (omega (arith, l)) e)
