use Rattle.std.proofs.Common.{◌≡◌, ◌≤◌, ◌+◌, ◌*◌, ◌++◌, drop}
use Rattle.cl_value.specs.Data.{size_of, size_of_items}
use Rattle.cl_value.specs.Value.{data_of, parts_of}
use Rattle.cl_print.specs.Printed.{print_parts}
use Rattle.cl_print.proofs.printing.+print.Given as goal

abbrev pub invariant-put_parts-loop-part : goal.invariant-put_parts-loop-part
invariant-put_parts-loop-part l = record {
  whole : l.line.items ++ print_parts l.first (parts_of (drop l.part-index l.parts)) ≡ l.initial.line.items ++ print_parts l.initial.first (parts_of l.parts);
  fewer : size_of_items (parts_of (drop l.part-index l.parts)) ≤ size_of_items (parts_of l.parts);
}

abbrev pub decreases-put_value : goal.decreases-put_value
decreases-put_value l = 2 * size_of (data_of l.value.now)

abbrev pub decreases-put_parts : goal.decreases-put_parts
decreases-put_parts l = 2 * size_of_items (parts_of l.parts.now) + 1
