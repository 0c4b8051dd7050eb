-- What a row keeps beside its values.
use Rattle.std.specs.Prelude.{◌≡◌, ℕ, ◌-◌, ◌^◌, List, min}
use Rattle.cl_value.specs.Data.{size_of_items, depth_of_items}
use Rattle.cl_value.specs.Value.{parts_of}
use Rattle.cl_value.specs.declared.Value.{Value}

-- the size and the depth of the values, which stand still at 2^64 - 1
pub record IsMeasured (vs : List Value) (size depth : ℕ) : Type 0 where
  pub sized : size ≡ min (size_of_items (parts_of vs)) (2 ^ 64 - 1)
  pub deep : depth ≡ min (depth_of_items (parts_of vs)) (2 ^ 64 - 1)
