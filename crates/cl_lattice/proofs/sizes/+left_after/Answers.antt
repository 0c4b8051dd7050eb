use Rattle.std.proofs.Common.{◌≡◌, ◌-◌, Option, Some, None, rules, arith, sym, ap, ◌∙◌}
use Rattle.cl_syntax.specs.TypeSpecTree.{TypeSpecTree, TypeArgTrees, arg_trees_of, specifier}
use Rattle.cl_lattice.specs.Budgets.{left}
use Rattle.cl_lattice.specs.Sizes.{nodes_within, sized_args, inherited_size}
use Rattle.cl_lattice.proofs.SizeLemmas.{left_within}
use Rattle.cl_lattice.proofs.sizes.+left_after.Goals as goal

pub left_after-returns-in_err-nodes-2 : goal.left_after-returns-in_err-nodes-2
left_after-returns-in_err-nodes-2 t c =
    let e = left_within c.args.known.now c.args.depth c.args.nodes c.spec.inside.name (arg_trees_of c.spec.inside.args) c.spec.inside.options (omega arith) in
    let one : left (Some 1) c.args.nodes ≡ Some c.in_ok-nodes.nodes = search rules in
    let args : left (sized_args (nodes_within (c.args.depth - 1) c.args.known.now) (arg_trees_of c.spec.inside.args)) c.in_ok-nodes.nodes ≡ None =
    sym (ap (λ (ts : TypeArgTrees). left (sized_args (nodes_within (c.args.depth - 1) c.args.known.now) ts) c.in_ok-nodes.nodes) (ap arg_trees_of c.as_slice.ensures))
    ∙ sym c.left_after_args.ensures ∙ c.in_err-nodes-2.was in
    let view : c.args.spec.now ≡ specifier c.spec.inside.name (arg_trees_of c.spec.inside.args) c.spec.inside.options = sym c.spec.view_is in
    rw view (rw (e, one) (rw args c.from_residual-in_err-nodes-2.ensures))

pub left_after-returns : goal.left_after-returns
left_after-returns t c =
    let e = left_within c.args.known.now c.args.depth c.args.nodes c.spec.inside.name (arg_trees_of c.spec.inside.args) c.spec.inside.options (omega arith) in
    let one : left (Some 1) c.args.nodes ≡ Some c.in_ok-nodes.nodes = search rules in
    let args : left (sized_args (nodes_within (c.args.depth - 1) c.args.known.now) (arg_trees_of c.spec.inside.args)) c.in_ok-nodes.nodes ≡ Some c.in_ok-nodes-2.nodes =
    sym (ap (λ (ts : TypeArgTrees). left (sized_args (nodes_within (c.args.depth - 1) c.args.known.now) ts) c.in_ok-nodes.nodes) (ap arg_trees_of c.as_slice.ensures))
    ∙ sym c.left_after_args.ensures ∙ c.in_ok-nodes-2.was in
    let view : c.args.spec.now ≡ specifier c.spec.inside.name (arg_trees_of c.spec.inside.args) c.spec.inside.options = sym c.spec.view_is in
    let inherits = ap (λ (s : Option TypeSpecTree). left (inherited_size (nodes_within (c.args.depth - 1) c.args.known.now) s) c.in_ok-nodes-2.nodes) c.inherited_by.ensures in
    rw view (rw (e, one) (rw args (c.left_after_inherited.ensures ∙ inherits)))
