-- Depth is at least 1 and at most the size.
use Rattle.std.proofs.Common.{◌<◌, ◌≤◌, arith}
use Rattle.cl_value.specs.Data.{Data, int, bool, text, symbol, null, list, rec, Items, none, item, size_of, size_of_items, depth_of, depth_of_items}

mutual
  pub depth_sized : (d : Data) → (0 < depth_of d) × (depth_of d ≤ size_of d)
  depth_sized (int n) = (omega arith, omega arith)
  depth_sized (bool b) = (omega arith, omega arith)
  depth_sized (text s) = (omega arith, omega arith)
  depth_sized (symbol s) = (omega arith, omega arith)
  depth_sized null = (omega arith, omega arith)
  depth_sized (list ds) = (omega arith, omega (arith, items_sized ds))
  depth_sized (rec s ds) = (omega arith, omega (arith, items_sized ds))

  items_sized : (ds : Items) → depth_of_items ds ≤ size_of_items ds
  items_sized none = omega arith
  items_sized (item d ds) = omega (arith, (depth_sized d).1, items_sized ds)
