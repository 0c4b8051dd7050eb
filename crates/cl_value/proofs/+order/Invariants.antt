use Rattle.std.proofs.Common.{◌≡◌, ◌+◌, ◌*◌, drop}
use Rattle.cl_value.specs.Data.{size_of, size_of_items, order_of_items}
use Rattle.cl_value.specs.Value.{data_of, parts_of}
use Rattle.cl_value.proofs.+order.Given as goal

abbrev pub invariant-order::order_all-loop-place : goal.invariant-order::order_all-loop-place
invariant-order::order_all-loop-place l =
    order_of_items (parts_of (drop l.place l.values)) (parts_of (drop l.place l.others)) ≡ order_of_items (parts_of l.values) (parts_of l.others)

abbrev pub decreases-Value::order : goal.decreases-Value::order
decreases-Value::order l = 3 * size_of (data_of l.self.now) + 1

abbrev pub decreases-Value::order_by_parts : goal.decreases-Value::order_by_parts
decreases-Value::order_by_parts l = 3 * size_of (data_of l.self.now)

abbrev pub decreases-order::order_all : goal.decreases-order::order_all
decreases-order::order_all l = 3 * size_of_items (parts_of l.values.now) + 2
