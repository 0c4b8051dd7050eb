use Rattle.std.proofs.Common.{◌≡◌, ◌+◌, ◌*◌, ◌<◌, ◌^◌, ◌++◌, [], drop, map}
use Rattle.cl_value.specs.Data.{items_of, size_of_items}
use Rattle.cl_value.specs.Value.{data_of}
use Rattle.cl_syntax.specs.ExprTree.{expr_trees_of}
use Rattle.cl_syntax.specs.Expr.{bindings_of}
use Rattle.cl_eval.specs.Scope.{variables_of}
use Rattle.cl_eval.specs.Meaning.{bind_each, each, every, some, filter_each, fold_each}
use Rattle.cl_eval.specs.Mapping.{map_behind, map_in, past_limit}
use Rattle.cl_eval.specs.Standpoint.{meaning_at, seen_from}
use Rattle.cl_eval.proofs.+evaluate.Given as goal

abbrev pub decreases-evaluation::evaluate : goal.decreases-evaluation::evaluate
decreases-evaluation::evaluate g l = l.here.now.left * 2 ^ 66

abbrev pub decreases-evaluation::evaluate_parts : goal.decreases-evaluation::evaluate_parts
decreases-evaluation::evaluate_parts g l = l.here.now.left * 2 ^ 66 + 2 ^ 65

abbrev pub decreases-evaluation::evaluate_test : goal.decreases-evaluation::evaluate_test
decreases-evaluation::evaluate_test g l = l.here.now.left * 2 ^ 66

abbrev pub decreases-evaluation::evaluate_list : goal.decreases-evaluation::evaluate_list
decreases-evaluation::evaluate_list g l = l.here.now.left * 2 ^ 66 + 1

abbrev pub decreases-bindings::evaluate_let : goal.decreases-bindings::evaluate_let
decreases-bindings::evaluate_let g l = l.here.now.left * 2 ^ 66 + 3

abbrev pub decreases-bindings::evaluate_bindings : goal.decreases-bindings::evaluate_bindings
decreases-bindings::evaluate_bindings g l = l.here.now.left * 2 ^ 66 + 2

abbrev pub decreases-calls::evaluate_operation : goal.decreases-calls::evaluate_operation
decreases-calls::evaluate_operation g l = l.here.now.left * 2 ^ 66 + 5

abbrev pub decreases-evaluation::evaluate_each : goal.decreases-evaluation::evaluate_each
decreases-evaluation::evaluate_each g l = l.here.now.left * 2 ^ 66 + 2

abbrev pub decreases-evaluation::evaluate_every : goal.decreases-evaluation::evaluate_every
decreases-evaluation::evaluate_every g l = l.here.now.left * 2 ^ 66 + 2

abbrev pub decreases-evaluation::evaluate_some : goal.decreases-evaluation::evaluate_some
decreases-evaluation::evaluate_some g l = l.here.now.left * 2 ^ 66 + 2

abbrev pub decreases-traversal::map_over : goal.decreases-traversal::map_over
decreases-traversal::map_over g l = l.here.now.left * 2 ^ 66 + 3

abbrev pub decreases-traversal::filter_over : goal.decreases-traversal::filter_over
decreases-traversal::filter_over g l = l.here.now.left * 2 ^ 66 + 2

abbrev pub decreases-traversal::fold_over : goal.decreases-traversal::fold_over
decreases-traversal::fold_over g l = l.here.now.left * 2 ^ 66 + 2

abbrev pub decreases-calls::call : goal.decreases-calls::call
decreases-calls::call g l = l.here.now.left * 2 ^ 66 + 1

abbrev pub decreases-evaluation::evaluate_test_parts : goal.decreases-evaluation::evaluate_test_parts
decreases-evaluation::evaluate_test_parts g l = l.here.now.left * 2 ^ 66 + 2 ^ 65 + 1

abbrev pub decreases-calculation::evaluate_number : goal.decreases-calculation::evaluate_number
decreases-calculation::evaluate_number g l = l.here.now.left * 2 ^ 66

abbrev pub decreases-calculation::evaluate_number_parts : goal.decreases-calculation::evaluate_number_parts
decreases-calculation::evaluate_number_parts g l = l.here.now.left * 2 ^ 66 + 2 ^ 65 + 1

abbrev pub decreases-calculation::evaluate_pair : goal.decreases-calculation::evaluate_pair
decreases-calculation::evaluate_pair g l = l.here.now.left * 2 ^ 66 + 3

abbrev pub decreases-calculation::evaluate_arithmetic : goal.decreases-calculation::evaluate_arithmetic
decreases-calculation::evaluate_arithmetic g l = l.here.now.left * 2 ^ 66 + 4

abbrev pub decreases-calculation::evaluate_comparison : goal.decreases-calculation::evaluate_comparison
decreases-calculation::evaluate_comparison g l = l.here.now.left * 2 ^ 66 + 4

abbrev pub decreases-calls::evaluate_operands : goal.decreases-calls::evaluate_operands
decreases-calls::evaluate_operands g l = l.here.now.left * 2 ^ 66 + 3

abbrev pub decreases-calls::evaluate_call : goal.decreases-calls::evaluate_call
decreases-calls::evaluate_call g l = l.here.now.left * 2 ^ 66 + 3

abbrev pub decreases-traversal::evaluate_map : goal.decreases-traversal::evaluate_map
decreases-traversal::evaluate_map g l = l.here.now.left * 2 ^ 66 + 4

abbrev pub decreases-traversal::pass_limit : goal.decreases-traversal::pass_limit
decreases-traversal::pass_limit g l = l.here.now.left * 2 ^ 66 + 2

abbrev pub decreases-traversal::evaluate_filter : goal.decreases-traversal::evaluate_filter
decreases-traversal::evaluate_filter g l = l.here.now.left * 2 ^ 66 + 3

abbrev pub decreases-traversal::evaluate_fold : goal.decreases-traversal::evaluate_fold
decreases-traversal::evaluate_fold g l = l.here.now.left * 2 ^ 66 + 3

abbrev pub invariant-evaluation::evaluate_each-loop-part : goal.invariant-evaluation::evaluate_each-loop-part
invariant-evaluation::evaluate_each-loop-part g l = record {
  meaning : seen_from l.here each (expr_trees_of (drop l.part-index l.parts)) (map data_of l.values.items) l.meter.cost l.meter.deepest
      ≡ seen_from l.here each (expr_trees_of l.parts) [] l.initial.meter.cost l.initial.meter.deepest;
  ledger : l.steps + l.initial.meter.cost ≡ l.initial.steps + l.meter.cost;
}

abbrev pub invariant-bindings::evaluate_bindings-loop-binding : goal.invariant-bindings::evaluate_bindings-loop-binding
invariant-bindings::evaluate_bindings-loop-binding g l = record {
  meaning : bind_each (meaning_at l.here) l.here.level (bindings_of (drop l.binding-index l.bindings)) (l.frame ++ variables_of l.here.scope.now) l.meter.cost l.meter.deepest
      ≡ bind_each (meaning_at l.here) l.here.level (bindings_of l.bindings) (variables_of l.here.scope.now) l.initial.meter.cost l.initial.meter.deepest;
  ledger : l.steps + l.initial.meter.cost ≡ l.initial.steps + l.meter.cost;
}

abbrev pub invariant-evaluation::evaluate_every-loop-part : goal.invariant-evaluation::evaluate_every-loop-part
invariant-evaluation::evaluate_every-loop-part g l = record {
  meaning : seen_from l.here every (expr_trees_of (drop l.part-index l.parts)) l.meter.cost l.meter.deepest
      ≡ seen_from l.here every (expr_trees_of l.parts) l.initial.meter.cost l.initial.meter.deepest;
  ledger : l.steps + l.initial.meter.cost ≡ l.initial.steps + l.meter.cost;
}

abbrev pub invariant-evaluation::evaluate_some-loop-part : goal.invariant-evaluation::evaluate_some-loop-part
invariant-evaluation::evaluate_some-loop-part g l = record {
  meaning : seen_from l.here some (expr_trees_of (drop l.part-index l.parts)) l.meter.cost l.meter.deepest
      ≡ seen_from l.here some (expr_trees_of l.parts) l.initial.meter.cost l.initial.meter.deepest;
  ledger : l.steps + l.initial.meter.cost ≡ l.initial.steps + l.meter.cost;
}

abbrev pub invariant-traversal::map_over-loop-place : goal.invariant-traversal::map_over-loop-place
invariant-traversal::map_over-loop-place g l = record {
  meaning : seen_from l.here map_behind l.name l.body (map data_of (drop l.place l.list)) (map data_of l.values.items) l.meter.cost l.meter.deepest
      ≡ seen_from l.here map_in l.name l.body (map data_of l.list) l.initial.meter.cost l.initial.meter.deepest;
  ledger : l.steps + l.initial.meter.cost ≡ l.initial.steps + l.meter.cost;
  sized : l.size ≡ size_of_items (items_of (map data_of l.values.items));
  small : l.size < 65536;
}

abbrev pub invariant-traversal::pass_limit-loop-item : goal.invariant-traversal::pass_limit-loop-item
invariant-traversal::pass_limit-loop-item g l = record {
  meaning : seen_from l.here past_limit l.name l.body (map data_of (drop l.item-index l.list)) l.meter.cost l.meter.deepest
      ≡ seen_from l.here past_limit l.name l.body (map data_of l.list) l.initial.meter.cost l.initial.meter.deepest;
  ledger : l.steps + l.initial.meter.cost ≡ l.initial.steps + l.meter.cost;
}

abbrev pub invariant-traversal::filter_over-loop-item : goal.invariant-traversal::filter_over-loop-item
invariant-traversal::filter_over-loop-item g l = record {
  meaning : seen_from l.here filter_each l.name l.body (map data_of (drop l.item-index l.list)) (map data_of l.values.items) l.meter.cost l.meter.deepest
      ≡ seen_from l.here filter_each l.name l.body (map data_of l.list) [] l.initial.meter.cost l.initial.meter.deepest;
  ledger : l.steps + l.initial.meter.cost ≡ l.initial.steps + l.meter.cost;
}

abbrev pub invariant-traversal::fold_over-loop-item : goal.invariant-traversal::fold_over-loop-item
invariant-traversal::fold_over-loop-item g l = record {
  meaning : seen_from l.here fold_each l.fold.name l.fold.accumulator l.fold.body (map data_of (drop l.item-index l.list)) (data_of l.value) l.meter.cost l.meter.deepest
      ≡ seen_from l.here fold_each l.fold.name l.fold.accumulator l.fold.body (map data_of l.list) (data_of l.initial.value) l.initial.meter.cost l.initial.meter.deepest;
  ledger : l.steps + l.initial.meter.cost ≡ l.initial.steps + l.meter.cost;
}
