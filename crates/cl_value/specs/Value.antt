-- What a `Value` is as data.
use Rattle.std.specs.Prelude.{List, map}
use Rattle.cl_value.specs.Data.{Data, int, bool, text, symbol, null, list, rec, Items, items_of}
use Rattle.cl_value.specs.declared.Value.{Value}
use Rattle.cl_value.specs.declared.Value.TheVariants as value

-- the data that a value stands for
abbrev pub data_of : Value → Data
data_of (value.Int n) = int n
data_of (value.Bool b) = bool b
data_of (value.Text s) = text s
data_of (value.Symbol s) = symbol s
data_of value.Null = null
data_of (value.List ds) = list (items_of ds)
data_of (value.Record s ds) = rec s (items_of ds)

-- values in a row as the parts of a list or a record
abbrev pub parts_of : List Value → Items
parts_of vs = items_of (map data_of vs)
