-- Constants of one type among those of another.
use Rattle.std.specs.Prelude.{Bool, true, List, Option, Some, None}
use Rattle.cl_value.specs.Data.{Data}
use Rattle.cl_lattice.specs.Members.{is_among}

-- a constant is one of the others; what is no constant has no place to have
abbrev pub is_placed : Option Data → List Data → Bool
is_placed None ds = true
is_placed (Some d) ds = is_among d ds
