-- What a row keeps beside its values, where one more is put behind them.
use Rattle.std.proofs.Common.{◌≡◌, ℕ, ◌+◌, ◌-◌, ◌^◌, List, [], ◌∷◌, ◌++◌, min, max, arith}
use Rattle.cl_value.specs.Data.{size_of, size_of_items, depth_of, depth_of_items}
use Rattle.cl_value.specs.Value.{data_of, parts_of}
use Rattle.cl_value.specs.Measured.{IsMeasured}
use Rattle.cl_value.specs.declared.Value.{Value}

size_behind : (vs : List Value) (v : Value) → size_of_items (parts_of (vs ++ v ∷ [])) ≡ size_of_items (parts_of vs) + size_of (data_of v)
size_behind [] v = omega arith
size_behind (w ∷ vs) v = omega (arith, size_behind vs v)

depth_behind : (vs : List Value) (v : Value) → depth_of_items (parts_of (vs ++ v ∷ [])) ≡ max (depth_of_items (parts_of vs)) (depth_of (data_of v))
depth_behind [] v = omega arith
depth_behind (w ∷ vs) v = omega (arith, depth_behind vs v)

pub measured_behind : (vs : List Value) (v : Value) (size depth more deeper : ℕ) → IsMeasured vs size depth
    → more ≡ min (size + min (size_of (data_of v)) (2 ^ 64 - 1)) (2 ^ 64 - 1) → deeper ≡ max depth (min (depth_of (data_of v)) (2 ^ 64 - 1)) → IsMeasured (vs ++ v ∷ []) more deeper
measured_behind vs v size depth more deeper m p q = record {
  sized = omega (arith, m.sized, size_behind vs v);
  deep = omega (arith, m.deep, depth_behind vs v);
}
