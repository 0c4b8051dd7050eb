-- What a row that is shared, or not yet there, holds.
use Rattle.std.specs.Prelude.{List, [], Option, Some, None}
use Rattle.std.specs.declared.rc.Rc.{Rc}
use Rattle.std.specs.declared.alloc.Global.{Global}
use Rattle.cl_value.specs.Data.{Data}

-- the values of a row; none where there is no row
abbrev pub shared_row : Option (Rc (List Data) Global) → List Data
shared_row None = []
shared_row (Some r) = r.value
