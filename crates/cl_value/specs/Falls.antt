-- A value's parts are smaller than the value, by which a recursion over values ends.
use Rattle.std.specs.Prelude.{ℕ, Option, Some, None, Vec, ◌+◌, ◌*◌, ◌≤◌, List, [], ◌∷◌, map}
use Rattle.std.proofs.Common.{arith}
use Rattle.cl_value.specs.Data.{Data, size_of, size_of_items, items_of}
use Rattle.cl_value.specs.Value.{data_of}
use Rattle.cl_value.specs.declared.Value.{Value}
use Rattle.cl_value.specs.declared.Value.TheVariants as value
use Rattle.cl_value.specs.declared.Values.TheDeep.{deep-Row, deep-Value, deep-Values}
use Rattle.cl_value.specs.Shared.{shared_row}
use Rattle.std.specs.declared.rc.Rc.{Rc}
use Rattle.std.specs.declared.alloc.Global.{Global}
use denote.Param.Weighed.{most}

-- a value as it is stored is at most twice as deep as it is large
pub deep-size : (v : Value) → deep-Value v ≤ 2 * size_of (data_of v)
deep-size (value.Int n) = omega arith
deep-size (value.Bool b) = omega arith
deep-size (value.Text s) = omega arith
deep-size (value.Symbol s) = omega arith
deep-size value.Null = omega arith
deep-size (value.List ds) = omega arith
deep-size (value.Record s ds) = omega arith

-- no value of a row is deeper than twice the row's size
pub most-size : (vs : List Value) → most deep-Value vs ≤ 2 * size_of_items (items_of (map data_of vs))
most-size [] = omega arith
most-size (v ∷ vs) = omega (arith, deep-size v, most-size vs)

-- a stored row is at most twice as deep as its parts are large
pub row-size : (values : Vec Value Global) (size depth : ℕ) → deep-Row (record { values = values; size = size; depth = depth }) ≤ 2 * size_of_items (items_of (map data_of values.items))
row-size values size depth = omega (arith, most-size values.items)

-- a shared row is at most twice as deep as its parts are large
pub shared-size : (alloc : Global) (row : Option (Rc (List Data) Global)) → deep-Values (record { alloc = alloc; row = row }) ≤ 2 * size_of_items (items_of (shared_row row)) + 1
shared-size alloc None = omega arith
shared-size alloc (Some r) = omega arith
